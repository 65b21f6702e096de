-- Two lists in an order, in which what ties stands alike, are the same.
use Rattle.std.proofs.Common.{◌≡◌, ℕ, suc, ◌+◌, ◌<◌, ◌≤◌, Bool, true, false, cond, not, ◌&&◌, List, [], ◌∷◌, ◌++◌, length, get_or, filter, fold, count_by, insert, refl, sym, ap, ◌∙◌, subst, true≢false, arith, one-add, zero-add, append-nil, append_assoc}
use Rattle.std.proofs.lemmas.List.Sums.{sum_by-cons}
use Rattle.std.proofs.lemmas.List.Sorted.{sorted_far}
use Rattle.std.specs.Cmp.{IsStrictWeakOrder}
use Rattle.std.specs.List.Sorted.{ties, IsStableBy, IsSortedBy}
use Rattle.wm_views.specs.Sorted.{put_in, sorted}

module _ {E : Type 0} (lt : E → E → Bool) where
  -- none of them goes before an element
  abbrev pub AllFrom : E → List E → Type 0
  AllFrom x [] = Unit {0}
  AllFrom x (y ∷ ys) = (lt y x ≡ false) × AllFrom x ys

  -- none goes before one that it stands behind
  abbrev pub Up : List E → Type 0
  Up [] = Unit {0}
  Up (x ∷ xs) = AllFrom x xs × Up xs

  -- an element stands behind all that it doesn't go before
  abbrev pub ins : E → List E → List E
  ins x [] = x ∷ []
  ins x (y ∷ ys) = cond (lt x y) (x ∷ y ∷ ys) (y ∷ ins x ys)

  cons-not-nil : {x : E} {xs : List E} → x ∷ xs ≡ [] → ⊥
  cons-not-nil e = absurd (cc)

  insert_cons : (n : ℕ) (x y : E) (ys : List E) → insert (y ∷ ys) (1 + n) x ≡ y ∷ insert ys n x
  insert_cons n x y ys = ap (λ (m : ℕ). insert (y ∷ ys) m x) (one-add n)

  kept_cons : (x : E) (b : Bool) (xs ys zs : List E) → xs ≡ ys ++ zs → cond b (x ∷ xs) xs ≡ cond b (x ∷ ys) ys ++ zs
  kept_cons x true xs ys zs e = ap (λ (l : List E). x ∷ l) e
  kept_cons x false xs ys zs e = e

  kept_append : (t : E → Bool) (xs ys : List E) → filter t (xs ++ ys) ≡ filter t xs ++ filter t ys
  kept_append t [] ys = refl
  kept_append t (x ∷ xs) ys = kept_cons x (t x) _ _ _ (kept_append t xs ys)

  module _ (o : IsStrictWeakOrder lt) where
    -- an element goes before what another that it goes before doesn't stand behind
    less_then : (x y z : E) → lt x y ≡ true → lt z y ≡ false → lt x z ≡ true
    less_then x y z p q = by (lt x z) refl
      where
        by : (b : Bool) → lt x z ≡ b → lt x z ≡ true
        by true e = e
        by false e = absurd (true≢false (sym p ∙ o.chain x z y e q))

    -- none goes before itself
    pub never_less : (x : E) → lt x x ≡ false
    never_less x = by (lt x x) refl
      where
        by : (b : Bool) → lt x x ≡ b → lt x x ≡ false
        by true e = o.one_way x x e
        by false e = e

    -- where it goes before the first of an ordered list, it goes before all
    count_none : (x y : E) (ys : List E) → lt x y ≡ true → AllFrom y ys → count_by (λ z. not (lt x z)) ys ≡ 0
    count_none x y [] p h = refl
    count_none x y (z ∷ zs) p h =
        sum_by-cons (λ (w : E). cond (not (lt x w)) 1 0) z zs
        ∙ ap (λ (b : Bool). cond (not b) 1 0 + count_by (λ w. not (lt x w)) zs) (less_then x y z p h.0)
        ∙ zero-add (count_by (λ w. not (lt x w)) zs)
        ∙ count_none x y zs p h.1

    put_by : (x y : E) (ys : List E) → Up (y ∷ ys) → (b : Bool) → lt x y ≡ b → put_in lt ys x ≡ ins x ys → put_in lt (y ∷ ys) x ≡ cond b (x ∷ y ∷ ys) (y ∷ ins x ys)
    put_by x y ys h true e rest =
        ap (λ (n : ℕ). insert (y ∷ ys) n x)
        (sum_by-cons (λ (w : E). cond (not (lt x w)) 1 0) y ys
        ∙ ap (λ (b : Bool). cond (not b) 1 0 + count_by (λ w. not (lt x w)) ys) e
        ∙ zero-add (count_by (λ w. not (lt x w)) ys)
        ∙ count_none x y ys e h.0)
    put_by x y ys h false e rest =
        ap (λ (n : ℕ). insert (y ∷ ys) n x)
        (sum_by-cons (λ (w : E). cond (not (lt x w)) 1 0) y ys ∙ ap (λ (b : Bool). cond (not b) 1 0 + count_by (λ w. not (lt x w)) ys) e)
        ∙ insert_cons (count_by (λ w. not (lt x w)) ys) x y ys
        ∙ ap (λ (l : List E). y ∷ l) rest

    pub put_is_ins : (x : E) (ys : List E) → Up ys → put_in lt ys x ≡ ins x ys
    put_is_ins x [] h = refl
    put_is_ins x (y ∷ ys) h = put_by x y ys h (lt x y) refl (put_is_ins x ys h.1)

    from_less : (x y : E) (ys : List E) → lt y x ≡ false → AllFrom y ys → AllFrom x ys
    from_less x y [] p h = tt
    from_less x y (z ∷ zs) p h = (o.chain z y x h.0 p, from_less x y zs p h.1)

    from_by : (x y z : E) (zs : List E) (b : Bool) → lt x y ≡ false → AllFrom y (z ∷ zs) → AllFrom y (ins x zs) → AllFrom y (cond b (x ∷ z ∷ zs) (z ∷ ins x zs))
    from_by x y z zs true p h rest = (p, h)
    from_by x y z zs false p h rest = (h.0, rest)

    from_ins : (x y : E) (ys : List E) → lt x y ≡ false → AllFrom y ys → AllFrom y (ins x ys)
    from_ins x y [] p h = (p, tt)
    from_ins x y (z ∷ zs) p h = from_by x y z zs (lt x z) p h (from_ins x y zs p h.1)

    up_by : (x y : E) (ys : List E) (b : Bool) → lt x y ≡ b → Up (y ∷ ys) → Up (ins x ys) → Up (cond b (x ∷ y ∷ ys) (y ∷ ins x ys))
    up_by x y ys true e h rest = ((o.one_way x y e, from_less x y ys (o.one_way x y e) h.0), h)
    up_by x y ys false e h rest = (from_ins x y ys e h.0, rest)

    pub up_ins : (x : E) (ys : List E) → Up ys → Up (ins x ys)
    up_ins x [] h = (tt, tt)
    up_ins x (y ∷ ys) h = up_by x y ys (lt x y) refl h (up_ins x ys h.1)

    tie_parts : (x y : E) → ties lt x y ≡ true → (lt x y ≡ false) × (lt y x ≡ false)
    tie_parts x y h = by (lt x y) (lt y x) refl refl
      where
        by : (a b : Bool) → lt x y ≡ a → lt y x ≡ b → (lt x y ≡ false) × (lt y x ≡ false)
        by true b p q = absurd (true≢false (sym h ∙ ap (λ (c : Bool). not c && not (lt y x)) p))
        by false true p q = absurd (true≢false (sym h ∙ ap (λ (c : Bool). not c && not (lt y x)) p ∙ ap (λ (c : Bool). not false && not c) q))
        by false false p q = (p, q)

    parts_tie : (x y : E) → lt x y ≡ false → lt y x ≡ false → ties lt x y ≡ true
    parts_tie x y p q = ap (λ (c : Bool). not c && not (lt y x)) p ∙ ap (λ (c : Bool). not false && not c) q

    -- what is above an element doesn't tie with what ties with it
    apart : (z x y : E) → ties lt z x ≡ true → lt x y ≡ true → ties lt z y ≡ false
    apart z x y h p = ap (λ (c : Bool). not c && not (lt y z)) up
      where
        up : lt z y ≡ true
        up = by (lt z y) refl
          where
            by : (b : Bool) → lt z y ≡ b → lt z y ≡ true
            by true e = e
            by false e = absurd (true≢false (sym p ∙ o.chain x z y (tie_parts z x h).1 e))

    none_tie : (z x y : E) (ys : List E) → ties lt z x ≡ true → lt x y ≡ true → AllFrom y ys → filter (ties lt z) ys ≡ []
    none_tie z x y [] h p all = refl
    none_tie z x y (w ∷ ws) h p all =
        ap (λ (b : Bool). cond b (w ∷ filter (ties lt z) ws) (filter (ties lt z) ws)) (apart z x w h (less_then x y w p all.0))
        ∙ none_tie z x y ws h p all.1

    -- where it goes before all of an ordered list, it ties with none that tie with it
    kept_first : (z x y : E) (ys : List E) (b : Bool) → ties lt z x ≡ b → lt x y ≡ true → AllFrom y ys → cond b (x ∷ filter (ties lt z) (y ∷ ys)) (filter (ties lt z) (y ∷ ys)) ≡ filter (ties lt z) (y ∷ ys) ++ cond b (x ∷ []) []
    kept_first z x y ys true q e h =
        let none : filter (ties lt z) (y ∷ ys) ≡ [] = none_tie z x y (y ∷ ys) q e (never_less y, h) in
        ap (λ (l : List E). x ∷ l) none ∙ sym (ap (λ (l : List E). l ++ x ∷ []) none)
    kept_first z x y ys false q e h = sym (append-nil (filter (ties lt z) (y ∷ ys)))

    kept_by : (z x y : E) (ys : List E) (b : Bool) → lt x y ≡ b → Up (y ∷ ys) → filter (ties lt z) (ins x ys) ≡ filter (ties lt z) (ys ++ x ∷ []) → filter (ties lt z) (cond b (x ∷ y ∷ ys) (y ∷ ins x ys)) ≡ filter (ties lt z) (y ∷ ys ++ x ∷ [])
    kept_by z x y ys true e h rest = kept_first z x y ys (ties lt z x) refl e h.0 ∙ sym (kept_append (ties lt z) (y ∷ ys) (x ∷ []))
    kept_by z x y ys false e h rest = ap (λ (l : List E). cond (ties lt z y) (y ∷ l) l) rest

    -- an element comes in behind those that tie with it
    kept_ins : (z x : E) (ys : List E) → Up ys → filter (ties lt z) (ins x ys) ≡ filter (ties lt z) (ys ++ x ∷ [])
    kept_ins z x [] h = refl
    kept_ins z x (y ∷ ys) h = kept_by z x y ys (lt x y) refl h (kept_ins z x ys h.1)

    up_sorted : (acc xs : List E) → Up acc → Up (fold (put_in lt) acc xs)
    up_sorted acc [] h = h
    up_sorted acc (x ∷ xs) h = up_sorted (put_in lt acc x) xs (subst Up (sym (put_is_ins x acc h)) (up_ins x acc h))

    kept_sorted : (z : E) (acc xs : List E) → Up acc → filter (ties lt z) (fold (put_in lt) acc xs) ≡ filter (ties lt z) (acc ++ xs)
    kept_sorted z acc [] h = ap (filter (ties lt z)) (sym (append-nil acc))
    kept_sorted z acc (x ∷ xs) h =
        let t = ties lt z in
        kept_sorted z (put_in lt acc x) xs (subst Up (sym (put_is_ins x acc h)) (up_ins x acc h))
        ∙ kept_append t (put_in lt acc x) xs
        ∙ ap (λ (l : List E). filter t l ++ filter t xs) (put_is_ins x acc h)
        ∙ ap (λ (l : List E). l ++ filter t xs) (kept_ins z x acc h)
        ∙ sym (kept_append t (acc ++ x ∷ []) xs)
        ∙ ap (filter t) (append_assoc acc (x ∷ []) xs)

    kept_self : (x : E) (xs : List E) → filter (ties lt x) (x ∷ xs) ≡ x ∷ filter (ties lt x) xs
    kept_self x xs = ap (λ (b : Bool). cond b (x ∷ filter (ties lt x) xs) (filter (ties lt x) xs)) (parts_tie x x (never_less x) (never_less x))

    -- an element that ties with one of an ordered list doesn't go before its first
    not_before : (x y : E) (xs ys : List E) → Up (y ∷ ys) → filter (ties lt x) (x ∷ xs) ≡ filter (ties lt x) (y ∷ ys) → lt x y ≡ false
    not_before x y xs ys h e = by (lt x y) refl
      where
        full : x ∷ filter (ties lt x) xs ≡ filter (ties lt x) (y ∷ ys)
        full = sym (kept_self x xs) ∙ e

        by : (b : Bool) → lt x y ≡ b → lt x y ≡ false
        by true p = absurd (cons-not-nil (full ∙ none_tie x x y (y ∷ ys) (parts_tie x x (never_less x) (never_less x)) p (never_less y, h.0)))
        by false p = p

    -- without a first element that both have, they still keep alike what ties
    rest_kept : (z x : E) (b : Bool) (xs ys : List E) → cond b (x ∷ xs) xs ≡ cond b (x ∷ ys) ys → xs ≡ ys
    rest_kept z x true xs ys e = cc
    rest_kept z x false xs ys e = e

    -- two ordered lists are the same where they keep alike what ties
    pub same_order : (xs ys : List E) → Up xs → Up ys → ((z : E) → filter (ties lt z) xs ≡ filter (ties lt z) ys) → xs ≡ ys
    same_order [] [] h k e = refl
    same_order [] (y ∷ ys) h k e = absurd (cons-not-nil (sym (kept_self y ys) ∙ sym (e y)))
    same_order (x ∷ xs) [] h k e = absurd (cons-not-nil (sym (kept_self x xs) ∙ e x))
    same_order (x ∷ xs) (y ∷ ys) h k e =
        let over = not_before x y xs ys k (e x) in
        let under = not_before y x ys xs h (sym (e y)) in
        let tied : filter (ties lt x) (y ∷ ys) ≡ y ∷ filter (ties lt x) ys =
        ap (λ (b : Bool). cond b (y ∷ filter (ties lt x) ys) (filter (ties lt x) ys)) (parts_tie x y over under) in
        let heads : x ∷ filter (ties lt x) xs ≡ y ∷ filter (ties lt x) ys = sym (kept_self x xs) ∙ e x ∙ tied in
        let same : y ≡ x = cc in
        let ends : xs ≡ ys = same_order xs ys h.1 k.1 (λ z. rest_kept z x (ties lt z x) (filter (ties lt z) xs) (filter (ties lt z) ys) (e z ∙ ap (λ (w : E). filter (ties lt z) (w ∷ ys)) same)) in
        ap (λ (l : List E). x ∷ l) ends ∙ ap (λ (w : E). w ∷ ys) (sym same)

    from_all : (x : E) (xs : List E) → ((j : ℕ) (d : E) → j < length xs → lt (get_or xs j d) x ≡ false) → AllFrom x xs
    from_all x [] h = tt
    from_all x (y ∷ ys) h = (h 0 y (omega arith), from_all x ys (λ j d w. h (suc j) d (omega (arith, w))))

    up_all : (xs : List E) → ((i j : ℕ) (d : E) → i ≤ j → j < length xs → lt (get_or xs j d) (get_or xs i d) ≡ false) → Up xs
    up_all [] h = tt
    up_all (x ∷ xs) h = (
      from_all x xs (λ j d w. h 0 (suc j) d (omega arith) (omega (arith, w))),
      up_all xs (λ i j d v w. h (suc i) (suc j) d (omega (arith, v)) (omega (arith, w))),
    )

    up_of : (xs : List E) → IsSortedBy lt xs → Up xs
    up_of xs h = up_all xs (sorted_far lt o xs h)

    -- what a stable sort gives is the list in its order
    pub sorted_is : (xs ys : List E) → IsSortedBy lt ys → IsStableBy lt xs ys → ys ≡ sorted lt xs
    sorted_is xs ys up stable = same_order ys (sorted lt xs) (up_of ys up) (up_sorted [] xs tt) (λ z. stable z ∙ sym (kept_sorted z [] xs tt))
