-- Objects that were made or changed are as they were where what was kept of them is put back.
use Rattle.std.proofs.Common.{◌≡◌, ◌∙◌, ℕ, zero, suc, ◌<◌, ◌||◌, Bool, true, false, not, cond, List, [], ◌∷◌, length, get_or, filter, find, Option, Some, None, option_map, refl, sym, ap, subst, arith}
use Rattle.std.specs.List.{insert}
use Rattle.std.specs.Prelude.{Result, Ok, Err, MatchResult}
use Rattle.std.specs.Ordering.{is_eq, ordering_reverse}
use Rattle.std.specs.declared.cmp.Ordering.TheVariants.{Less}
use Rattle.wm_base.specs.declared.qname.QName.{QName}
use Rattle.wm_desc.specs.Objects.{with_object}
use Rattle.wm_desc.specs.Sorted.{IsSortedOnce, place_of, removed}
use Rattle.wm_desc.specs.Table.{changed, has_object, name_of, object_named, qname_cmp, same_qname, StandsAt}
use Rattle.wm_desc.specs.Place.{IsAt, IsGap}
use Rattle.wm_desc.proofs.Tables.{one_name, qname_ties, qname_total, stands_at, unnamed}
use Rattle.wm_law.proofs.Named.{own_name}

-- an element that fails the test changes nothing of what passes it
passed_over : {X : Type 0} (p : X → Bool) (x : X) (xs : List X) (i : ℕ) → p x ≡ false → filter p (insert xs i x) ≡ filter p xs
passed_over p x xs zero e = ap (λ t. cond t (x ∷ filter p xs) (filter p xs)) e
passed_over p x [] (suc i) e = ap (λ t. cond t (x ∷ []) []) e
passed_over {X = X} p x (y ∷ ys) (suc i) e = ap (λ (l : List X). cond (p y) (y ∷ l) l) (passed_over p x ys i e)

module _ {V : Type 0} (name : QName) where
  left_by : (t rest : Bool) (x : QName × V) (ys xs : List (QName × V)) → (t || rest) ≡ false → (rest ≡ false → ys ≡ xs) → cond (not t) (x ∷ ys) ys ≡ x ∷ xs
  left_by true rest x ys xs e h = absurd (cc)
  left_by false rest x ys xs e h = ap (λ (l : List (QName × V)). x ∷ l) (h e)

  -- where no object has the name, none is taken out
  pub none_removed : (objects : List (QName × V)) → has_object name objects ≡ false → removed name_of same_qname name objects ≡ objects
  none_removed [] e = refl
  none_removed (x ∷ xs) e = left_by (same_qname x.0 name) (has_object name xs) x (removed name_of same_qname name xs) xs e (none_removed xs)

  -- what was added is taken out
  pub added_removed : (v : V) (objects : List (QName × V)) → has_object name objects ≡ false → removed name_of same_qname name (with_object name v objects) ≡ objects
  added_removed v objects e =
      passed_over (λ (x : QName × V). not (same_qname x.0 name)) (name, v) objects (place_of name_of qname_cmp name objects) (ap not (own_name name)) ∙ none_removed objects e

  same_by : (f : V → V) (t : Bool) (x : QName × V) (ys xs : List (QName × V)) (o : Option (QName × V)) → option_map (λ (z : QName × V). z.1) (cond t (Some x) o) ≡ None
      → (option_map (λ (z : QName × V). z.1) o ≡ None → ys ≡ xs) → cond t (x.0, f x.1) x ∷ ys ≡ x ∷ xs
  same_by f true x ys xs o e h = absurd (cc)
  same_by f false x ys xs o e h = ap (λ (l : List (QName × V)). x ∷ l) (h e)

  -- where no object has the name, none is changed
  pub none_changed : (f : V → V) (objects : List (QName × V)) → object_named name objects ≡ None → changed name f objects ≡ objects
  none_changed f [] e = refl
  none_changed f (x ∷ xs) e = same_by f (same_qname x.0 name) x (changed name f xs) xs (find (λ (z : QName × V). same_qname z.0 name) xs) e (none_changed f xs)

  behind : (f : V → V) (xs : List (QName × V)) → ((j : ℕ) (d : QName × V) → j < length xs → qname_cmp name (get_or xs j d).0 ≡ Less) → changed name f xs ≡ xs
  behind f [] h = refl
  behind f (y ∷ ys) h =
      let after = qname_total.antisymm y.0 name ∙ ap ordering_reverse (h 0 y (omega arith)) in
      let other : same_qname y.0 name ≡ false = qname_ties y.0 name ∙ ap is_eq after in
      ap (λ t. cond t (y.0, f y.1) y ∷ changed name f ys) other ∙ ap (λ (l : List (QName × V)). y ∷ l) (behind f ys (λ j d lt. h (suc j) d (omega arith)))

  twice : (f : V → V) (d : V) (t : Bool) (x : QName × V) → same_qname x.0 name ≡ t → (let y : QName × V = cond t (x.0, f x.1) x in cond (same_qname y.0 name) (y.0, d) y) ≡ cond t (x.0, d) x
  twice f d true x e = ap (λ u. cond u (x.0, d) (x.0, f x.1)) e
  twice f d false x e = ap (λ u. cond u (x.0, d) x) e

  is_own : (d : V) (t : Bool) (x : QName × V) (o : Option (QName × V)) → option_map (λ (z : QName × V). z.1) (cond t (Some x) o) ≡ Some d → cond t (x.0, d) x ≡ x
  is_own d true x o e = let same : x.1 ≡ d = cc in ap (λ (v : V). (x.0, v)) (sym same)
  is_own d false x o e = refl

  -- a description that was changed is put back
  pub changed_back : (f : V → V) (d : V) (objects : List (QName × V)) → IsSortedOnce name_of qname_cmp objects → object_named name objects ≡ Some d → changed name (λ _. d) (changed name f objects) ≡ objects
  changed_back f d [] s e = refl
  changed_back f d (x ∷ xs) s e =
      ap (λ (y : QName × V). y ∷ changed name (λ _. d) (changed name f xs)) (twice f d (same_qname x.0 name) x refl ∙ is_own d (same_qname x.0 name) x (find (λ (z : QName × V). same_qname z.0 name) xs) e)
      ∙ ap (λ (l : List (QName × V)). x ∷ l) (tail (same_qname x.0 name) refl e (changed_back f d xs (λ i j g lt within. s (suc i) (suc j) g (omega arith) (omega arith))))
    where
      tail : (t : Bool) → same_qname x.0 name ≡ t → option_map (λ (z : QName × V). z.1) (cond t (Some x) (find (λ (z : QName × V). same_qname z.0 name) xs)) ≡ Some d
          → (object_named name xs ≡ Some d → changed name (λ _. d) (changed name f xs) ≡ xs) → changed name (λ _. d) (changed name f xs) ≡ xs
      tail true t e rest =
          let ahead : (j : ℕ) (g : QName × V) → j < length xs → qname_cmp name (get_or xs j g).0 ≡ Less =
          λ j g lt. subst (λ (q : QName). qname_cmp q (get_or xs j g).0 ≡ Less) (one_name x.0 name t) (s 0 (suc j) g (omega arith) (omega arith)) in
          ap (changed name (λ _. d)) (behind f xs ahead) ∙ behind (λ _. d) xs ahead
      tail false t e rest = rest e

  -- and so is one that wasn't changed
  pub own_back : (d : V) (objects : List (QName × V)) → IsSortedOnce name_of qname_cmp objects → object_named name objects ≡ Some d → changed name (λ _. d) objects ≡ objects
  own_back d [] s e = refl
  own_back d (x ∷ xs) s e =
      ap (λ (y : QName × V). y ∷ changed name (λ _. d) xs) (is_own d (same_qname x.0 name) x (find (λ (z : QName × V). same_qname z.0 name) xs) e)
      ∙ ap (λ (l : List (QName × V)). x ∷ l) (tail (same_qname x.0 name) refl e (own_back d xs (λ i j g lt within. s (suc i) (suc j) g (omega arith) (omega arith))))
    where
      tail : (t : Bool) → same_qname x.0 name ≡ t → option_map (λ (z : QName × V). z.1) (cond t (Some x) (find (λ (z : QName × V). same_qname z.0 name) xs)) ≡ Some d
          → (object_named name xs ≡ Some d → changed name (λ _. d) xs ≡ xs) → changed name (λ _. d) xs ≡ xs
      tail true t e rest = behind (λ _. d) xs (λ j g lt. subst (λ (q : QName). qname_cmp q (get_or xs j g).0 ≡ Less) (one_name x.0 name t) (s 0 (suc j) g (omega arith) (omega arith)))
      tail false t e rest = rest e

-- what a search finds in descriptions
pub placed : {V : Type 0} (name : QName) (objects : List (QName × V)) (r : Result ℕ ℕ) → MatchResult r (IsAt name_of qname_cmp name objects) (IsGap name_of qname_cmp name objects) → MatchResult r (StandsAt name objects) (λ _. object_named name objects ≡ None)
placed name objects (Ok i) h = stands_at name objects i h
placed name objects (Err i) h = unnamed name objects i h
