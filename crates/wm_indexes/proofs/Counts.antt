-- What the changes of a row leave of the numbers of entries.
use Rattle.std.proofs.Common.{◌≡◌, ℕ, ◌+◌, ◌≤◌, Bool, true, false, not, cond, List, [], ◌∷◌, ◌++◌, take, drop, Option, Some, None, option_map, unwrap_or, inl, inr, refl, ap, sym, ◌∙◌, subst, arith}
use Rattle.std.specs.List.{find, insert}
use mathlib.Core.Bool.{false≢true}
use Rattle.std.proofs.lemmas.List.{take-append-drop}
use Rattle.wm_desc.specs.Sorted.{removed}
use Rattle.wm_ordered.specs.Ordered.{key_of, value_at, with_value}
use Rattle.wm_ordered.proofs.Members.{Contains-insert_cases, Contains-from_filter, Contains-from_mapped, find-Some}
use Rattle.wm_indexes.specs.declared.prestart_job.PrestartEntry.{PrestartEntry}
use Rattle.wm_indexes.specs.Ready.{same_entry}
use Rattle.wm_indexes.specs.Seats.{HaveSome, number_at}
use Rattle.wm_indexes.proofs.Entries.{one_entry}

module _ {X : Type 0} (p : X → Bool) where
  skip-by : (b : Bool) (y : X) (x : X) (l r : List X) → p x ≡ false → find p (l ++ x ∷ r) ≡ find p (l ++ r) → cond b (Some y) (find p (l ++ x ∷ r)) ≡ cond b (Some y) (find p (l ++ r))
  skip-by b y x l r e rest = ap (cond b (Some y)) rest

  -- one that doesn't pass is passed over
  skipped : (l : List X) (x : X) (r : List X) → p x ≡ false → find p (l ++ x ∷ r) ≡ find p (l ++ r)
  skipped [] x r e = ap (λ b. cond b (Some x) (find p r)) e
  skipped (y ∷ l) x r e = ap (cond (p y) (Some y)) (skipped l x r e)

  -- one that passes is found where no other does
  found-here : (l : List X) (x : X) (r : List X) → find p (l ++ r) ≡ None → p x ≡ true → find p (l ++ x ∷ r) ≡ Some x
  found-here [] x r none e = ap (λ b. cond b (Some x) (find p r)) e
  found-here (y ∷ l) x r none e = found-by (p y) y x l r none (λ n. found-here l x r n e)
    where
      found-by : (b : Bool) (y x : X) (l r : List X) → cond b (Some y) (find p (l ++ r)) ≡ None → (find p (l ++ r) ≡ None → find p (l ++ x ∷ r) ≡ Some x) → cond b (Some y) (find p (l ++ x ∷ r)) ≡ Some x
      found-by true y x l r none rest = absurd (cc none)
      found-by false y x l r none rest = rest none

-- the number by what is found
abbrev pub number_by : Option (PrestartEntry × ℕ) → ℕ
number_by o = unwrap_or (option_map (λ pair. pair.1) o) 0

abbrev pub is_of : PrestartEntry → PrestartEntry × ℕ → Bool
is_of e r = same_entry r.0 e

value-none : (o : Option (PrestartEntry × ℕ)) → option_map (λ pair. pair.1) o ≡ None → o ≡ None
value-none None e = refl
value-none (Some r) e = absurd (cc e)

module _ (e k : PrestartEntry) where
  -- what a row of an entry is for another one
  other-row : (x : PrestartEntry × ℕ) → same_entry e k ≡ false → is_of e x ≡ true → is_of k x ≡ false
  other-row x apart h = ap (λ q. same_entry q k) (one_entry x.0 e h) ∙ apart

  module _ (v : ℕ) (rows : List (PrestartEntry × ℕ)) (i : ℕ) (none : value_at same_entry e rows ≡ None) where
    abbrev more : List (PrestartEntry × ℕ)
    more = insert rows i (e, v)

    absent : same_entry e k ≡ true → find (is_of k) rows ≡ None
    absent h = subst (λ q. find (is_of q) rows ≡ None) (one_entry e k h) (value-none (find (is_of e) rows) none)

    grown-by : (b : Bool) → same_entry e k ≡ b → number_at k more ≡ number_at k rows + cond b v 0
    grown-by true h =
        let whole : find (is_of k) (take i rows ++ drop i rows) ≡ None = ap (find (is_of k)) (take-append-drop i rows) ∙ absent h in
        let new : number_at k more ≡ v = ap number_by (found-here (is_of k) (take i rows) (e, v) (drop i rows) whole h) in
        let old : number_at k rows ≡ 0 = ap number_by (absent h) in
        omega (arith, new, old)
    grown-by false h =
        let same : number_at k more ≡ number_at k rows = ap number_by (skipped (is_of k) (take i rows) (e, v) (drop i rows) h ∙ ap (find (is_of k)) (take-append-drop i rows)) in
        omega (arith, same)

    -- a row more, of an entry without one
    pub number-added : number_at k more ≡ number_at k rows + cond (same_entry e k) v 0
    number-added = grown-by (same_entry e k) refl

  module _ (v : ℕ) where
    abbrev set : List (PrestartEntry × ℕ) → List (PrestartEntry × ℕ)
    set rows = with_value same_entry e v rows

    set-other-by : (b : Bool) (x : PrestartEntry × ℕ) (xs : List (PrestartEntry × ℕ)) → is_of e x ≡ b → same_entry e k ≡ false → find (is_of k) (set xs) ≡ find (is_of k) xs → number_by (find (is_of k) (cond b (x.0, v) x ∷ set xs)) ≡ number_by (find (is_of k) (x ∷ xs))
    set-other-by true x xs h apart rest =
        let here = other-row x apart h in
        ap (λ b. number_by (cond b (Some (x.0, v)) (find (is_of k) (set xs)))) here ∙ (ap number_by rest ∙ sym (ap (λ b. number_by (cond b (Some x) (find (is_of k) xs))) here))
    set-other-by false x xs h apart rest = ap (λ o. number_by (cond (is_of k x) (Some x) o)) rest

    kept-by : (b : Bool) (x : PrestartEntry × ℕ) (xs : List (PrestartEntry × ℕ)) → is_of e x ≡ b → same_entry e k ≡ false → find (is_of k) (set xs) ≡ find (is_of k) xs → find (is_of k) (cond b (x.0, v) x ∷ set xs) ≡ find (is_of k) (x ∷ xs)
    kept-by true x xs h apart rest =
        let here = other-row x apart h in
        ap (λ b. cond b (Some (x.0, v)) (find (is_of k) (set xs))) here ∙ (rest ∙ sym (ap (λ b. cond b (Some x) (find (is_of k) xs)) here))
    kept-by false x xs h apart rest = ap (cond (is_of k x) (Some x)) rest

    set-other : (rows : List (PrestartEntry × ℕ)) → same_entry e k ≡ false → find (is_of k) (set rows) ≡ find (is_of k) rows
    set-other [] apart = refl
    set-other (x ∷ xs) apart = kept-by (is_of e x) x xs refl apart (set-other xs apart)

    set-here-by : (b : Bool) (x : PrestartEntry × ℕ) (xs : List (PrestartEntry × ℕ)) (w : ℕ) → is_of e x ≡ b → option_map (λ pair. pair.1) (cond b (Some x) (find (is_of e) xs)) ≡ Some w → (value_at same_entry e xs ≡ Some w → number_at e (set xs) ≡ v) → number_at e (cond b (x.0, v) x ∷ set xs) ≡ v
    set-here-by true x xs w h is rest = ap (λ b. number_by (cond b (Some (x.0, v)) (find (is_of e) (set xs)))) h
    set-here-by false x xs w h is rest = ap (λ b. number_by (cond b (Some x) (find (is_of e) (set xs)))) h ∙ rest is

    set-here : (rows : List (PrestartEntry × ℕ)) (w : ℕ) → value_at same_entry e rows ≡ Some w → number_at e (set rows) ≡ v
    set-here [] w is = absurd (cc is)
    set-here (x ∷ xs) w is = set-here-by (is_of e x) x xs w refl is (set-here xs w)

    set-by : (b : Bool) (rows : List (PrestartEntry × ℕ)) (w : ℕ) → same_entry e k ≡ b → value_at same_entry e rows ≡ Some w → number_at k (set rows) ≡ cond b v (number_at k rows)
    set-by true rows w h is = subst (λ q. number_at q (set rows) ≡ v) (one_entry e k h) (set-here rows w is)
    set-by false rows w h is = ap number_by (set-other rows h)

    -- a row that is there gets another number
    pub number-set : (rows : List (PrestartEntry × ℕ)) (w : ℕ) → value_at same_entry e rows ≡ Some w → number_at k (set rows) ≡ cond (same_entry e k) v (number_at k rows)
    number-set rows w is = set-by (same_entry e k) rows w refl is

  abbrev less : List (PrestartEntry × ℕ) → List (PrestartEntry × ℕ)
  less rows = removed key_of same_entry e rows

  left-by : (b : Bool) (x : PrestartEntry × ℕ) (xs : List (PrestartEntry × ℕ)) → is_of e x ≡ b → same_entry e k ≡ false → find (is_of k) (less xs) ≡ find (is_of k) xs → find (is_of k) (cond (not b) (x ∷ less xs) (less xs)) ≡ find (is_of k) (x ∷ xs)
  left-by true x xs h apart rest = rest ∙ sym (ap (λ b. cond b (Some x) (find (is_of k) xs)) (other-row x apart h))
  left-by false x xs h apart rest = ap (cond (is_of k x) (Some x)) rest

  left : (rows : List (PrestartEntry × ℕ)) → same_entry e k ≡ false → find (is_of k) (less rows) ≡ find (is_of k) rows
  left [] apart = refl
  left (x ∷ xs) apart = left-by (is_of e x) x xs refl apart (left xs apart)

  gone-by : (o : Option (PrestartEntry × ℕ)) (rows : List (PrestartEntry × ℕ)) → find (is_of e) (less rows) ≡ o → number_by o ≡ 0
  gone-by None rows h = refl
  gone-by (Some r) rows h =
      let found = find-Some (is_of e) (less rows) r h in
      let kept = Contains-from_filter (λ x. not (is_of e x)) rows r found.0 in
      absurd (false≢true (ap not (sym found.1) ∙ kept.1))

  removed-by : (b : Bool) (rows : List (PrestartEntry × ℕ)) → same_entry e k ≡ b → number_at k (less rows) ≡ cond b 0 (number_at k rows)
  removed-by true rows h = subst (λ q. number_at q (less rows) ≡ 0) (one_entry e k h) (gone-by (find (is_of e) (less rows)) rows refl)
  removed-by false rows h = ap number_by (left rows h)

  -- without the row of an entry
  pub number-removed : (rows : List (PrestartEntry × ℕ)) → number_at k (less rows) ≡ cond (same_entry e k) 0 (number_at k rows)
  number-removed rows = removed-by (same_entry e k) rows refl

-- rows with numbers above 0 stay so
pub some-added : (rows : List (PrestartEntry × ℕ)) (i : ℕ) (r : PrestartEntry × ℕ) → 1 ≤ r.1 → HaveSome rows → HaveSome (insert rows i r)
some-added rows i r more some q there = elim (Contains-insert_cases rows i r q there) [ inl e ↦ subst (λ (x : PrestartEntry × ℕ). 1 ≤ x.1) e more | inr old ↦ some q old ]

pub some-removed : (e : PrestartEntry) (rows : List (PrestartEntry × ℕ)) → HaveSome rows → HaveSome (removed key_of same_entry e rows)
some-removed e rows some q there = some q (Contains-from_filter (λ x. not (is_of e x)) rows q there).0

some-by : (b : Bool) (v : ℕ) (x q : PrestartEntry × ℕ) → 1 ≤ v → 1 ≤ x.1 → cond b (x.0, v) x ≡ q → 1 ≤ q.1
some-by true v x q above some e = subst (λ (y : PrestartEntry × ℕ). 1 ≤ y.1) e above
some-by false v x q above some e = subst (λ (y : PrestartEntry × ℕ). 1 ≤ y.1) e some

pub some-set : (e : PrestartEntry) (v : ℕ) (rows : List (PrestartEntry × ℕ)) → 1 ≤ v → HaveSome rows → HaveSome (with_value same_entry e v rows)
some-set e v rows more some q there =
    let from = Contains-from_mapped (λ x. cond (is_of e x) (x.0, v) x) rows q there in
    some-by (is_of e from.0) v from.0 q more (some from.0 from.1) from.2

value-of : (o : Option ℕ) (n : ℕ) → unwrap_or o 0 ≡ n → 1 ≤ n → o ≡ Some n
value-of None n is some = absurd (omega (arith, is, some))
value-of (Some m) n is some = ap Some is

-- an entry with a number has a row
pub value-there : (e : PrestartEntry) (rows : List (PrestartEntry × ℕ)) (n : ℕ) → number_at e rows ≡ n → 1 ≤ n → value_at same_entry e rows ≡ Some n
value-there e rows n is some = value-of (value_at same_entry e rows) n is some

module _ (e k : PrestartEntry) (rows : List (PrestartEntry × ℕ)) where
  own : (n : ℕ) → number_at e rows ≡ n → same_entry e k ≡ true → number_at k rows ≡ n
  own n is h = subst (λ q. number_at q rows ≡ n) (one_entry e k h) is

  raised-by : (b : Bool) (w v : ℕ) → same_entry e k ≡ b → number_at e rows ≡ w → v ≡ w + 1 → cond b v (number_at k rows) ≡ number_at k rows + cond b 1 0
  raised-by true w v h is more = omega (arith, own w is h, more)
  raised-by false w v h is more = omega arith

  pub number-raised : (w v : ℕ) → value_at same_entry e rows ≡ Some w → v ≡ w + 1 → number_at k (with_value same_entry e v rows) ≡ number_at k rows + cond (same_entry e k) 1 0
  number-raised w v is more = number-set e k v rows w is ∙ raised-by (same_entry e k) w v refl (ap (λ o. unwrap_or o 0) is) more

  lowered-by : (b : Bool) (w v : ℕ) → same_entry e k ≡ b → number_at e rows ≡ w → v + 1 ≡ w → cond b v (number_at k rows) + cond b 1 0 ≡ number_at k rows
  lowered-by true w v h is less = omega (arith, own w is h, less)
  lowered-by false w v h is less = omega arith

  pub number-lowered : (w v : ℕ) → value_at same_entry e rows ≡ Some w → v + 1 ≡ w → number_at k (with_value same_entry e v rows) + cond (same_entry e k) 1 0 ≡ number_at k rows
  number-lowered w v is less = ap (λ n. n + cond (same_entry e k) 1 0) (number-set e k v rows w is) ∙ lowered-by (same_entry e k) w v refl (ap (λ o. unwrap_or o 0) is) less

  taken-by : (b : Bool) → same_entry e k ≡ b → number_at e rows ≡ 1 → cond b 0 (number_at k rows) + cond b 1 0 ≡ number_at k rows
  taken-by true h is = omega (arith, own 1 is h)
  taken-by false h is = omega arith

  pub number-taken : number_at e rows ≡ 1 → number_at k (removed key_of same_entry e rows) + cond (same_entry e k) 1 0 ≡ number_at k rows
  number-taken is = ap (λ n. n + cond (same_entry e k) 1 0) (number-removed e k rows) ∙ taken-by (same_entry e k) refl is
