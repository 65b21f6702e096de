-- What a place in a list says of a count, a search and a filter.
use Rattle.std.proofs.Common.{◌≡◌, ℕ, zero, suc, ◌<◌, ◌≤◌, Bool, true, false, not, cond, List, [], ◌∷◌, length, get_or, set, map, Some, None, is_some, ◌||◌, refl, ap, ◌∙◌, subst, arith}
use Rattle.std.specs.List.{AllWithin, HoldsAt, count_by, find, filter, remove, list_any, items_where_true}
use Rattle.std.specs.List.Retain.{ReturnsInTurn, IsFiltered}
use Rattle.std.proofs.lemmas.List.Sums.{sum_by-cons}

module _ {X : Type 0} (p : X → Bool) where
  -- the first element and the others
  within_tail : (P : X → Type 0) (x : X) (xs : List X) (low high : ℕ) → AllWithin P (x ∷ xs) (suc low) (suc high) → AllWithin P xs low high
  within_tail P x xs low high h k d le lt = h (suc k) d (omega arith) (omega arith)

  from_start : (P : X → Type 0) (x : X) (xs : List X) (high : ℕ) → AllWithin P (x ∷ xs) 0 (suc high) → AllWithin P xs 0 high
  from_start P x xs high h k d le lt = h (suc k) d (omega arith) (omega arith)

  -- the elements before place i pass, and no others do
  pub count_by-split : (xs : List X) (i : ℕ) → i ≤ length xs → AllWithin (λ y. p y ≡ true) xs 0 i → AllWithin (λ y. p y ≡ false) xs i (length xs) → count_by p xs ≡ i
  count_by-split [] i le before after = omega arith
  count_by-split (x ∷ xs) zero le before after =
      let here = after 0 x (omega arith) (omega arith) in
      let rest = count_by-split xs zero (omega arith) (λ k d _ lt. absurd (omega arith)) (from_start (λ y. p y ≡ false) x xs (length xs) after) in
      rw (sum_by-cons (λ y. cond (p y) 1 0) x xs, here, rest) refl
  count_by-split (x ∷ xs) (suc i) le before after =
      let here = before 0 x (omega arith) (omega arith) in
      let rest = count_by-split xs i (omega arith) (from_start (λ y. p y ≡ true) x xs i before) (within_tail (λ y. p y ≡ false) x xs i (length xs) after) in
      rw (sum_by-cons (λ y. cond (p y) 1 0) x xs, here, rest) (omega arith)

  -- no element passes
  pub find-none : (xs : List X) → AllWithin (λ y. p y ≡ false) xs 0 (length xs) → find p xs ≡ None
  find-none [] none = refl
  find-none (x ∷ xs) none = rw (none 0 x (omega arith) (omega arith)) (find-none xs (from_start (λ y. p y ≡ false) x xs (length xs) none))

  -- the element at place i is the first that passes
  pub find-first : (xs : List X) (i : ℕ) (d : X) → i < length xs → AllWithin (λ y. p y ≡ false) xs 0 i → HoldsAt (λ y. p y ≡ true) xs i → find p xs ≡ Some (get_or xs i d)
  find-first [] i d lt before here = absurd (omega arith)
  find-first (x ∷ xs) zero d lt before here = rw (here x) refl
  find-first (x ∷ xs) (suc i) d lt before here = rw (before 0 x (omega arith) (omega arith)) (find-first xs i d (omega arith) (from_start (λ y. p y ≡ false) x xs i before) here)

  pub filter-none : (xs : List X) → AllWithin (λ y. p y ≡ false) xs 0 (length xs) → filter (λ x. not (p x)) xs ≡ xs
  filter-none [] none = refl
  filter-none (x ∷ xs) none = rw (none 0 x (omega arith) (omega arith)) (ap (λ ys. x ∷ ys) (filter-none xs (from_start (λ y. p y ≡ false) x xs (length xs) none)))

  -- the element at place i alone passes
  pub filter-one : (xs : List X) (i : ℕ) → i < length xs → AllWithin (λ y. p y ≡ false) xs 0 i → HoldsAt (λ y. p y ≡ true) xs i → AllWithin (λ y. p y ≡ false) xs (suc i) (length xs) → filter (λ x. not (p x)) xs ≡ remove xs i
  filter-one [] i lt before here after = absurd (omega arith)
  filter-one (x ∷ xs) zero lt before here after = rw (here x) (filter-none xs (within_tail (λ y. p y ≡ false) x xs zero (length xs) after))
  filter-one (x ∷ xs) (suc i) lt before here after =
      rw (before 0 x (omega arith) (omega arith)) (ap (λ ys. x ∷ ys) (filter-one xs i (omega arith) (from_start (λ y. p y ≡ false) x xs i before) here (within_tail (λ y. p y ≡ false) x xs (suc i) (length xs) after)))

  any_or_found : (b : Bool) (x : X) (xs : List X) → list_any p xs ≡ is_some (find p xs) → (b || list_any p xs) ≡ is_some (cond b (Some x) (find p xs))
  any_or_found true x xs h = refl
  any_or_found false x xs h = h

  -- whether an element passes is whether one is found
  pub list_any-find : (xs : List X) → list_any p xs ≡ is_some (find p xs)
  list_any-find [] = refl
  list_any-find (x ∷ xs) = any_or_found (p x) x xs (list_any-find xs)

  module _ (f : X → X) where
    map-none : (xs : List X) → AllWithin (λ y. p y ≡ false) xs 0 (length xs) → map (λ x. cond (p x) (f x) x) xs ≡ xs
    map-none [] none = refl
    map-none (x ∷ xs) none = rw (none 0 x (omega arith) (omega arith)) (ap (λ ys. x ∷ ys) (map-none xs (from_start (λ y. p y ≡ false) x xs (length xs) none)))

    -- the element at place i alone passes, and is changed
    pub map-one : (xs : List X) (i : ℕ) (d : X) → i < length xs → AllWithin (λ y. p y ≡ false) xs 0 i → HoldsAt (λ y. p y ≡ true) xs i → AllWithin (λ y. p y ≡ false) xs (suc i) (length xs) → map (λ x. cond (p x) (f x) x) xs ≡ set xs i (f (get_or xs i d))
    map-one [] i d lt before here after = absurd (omega arith)
    map-one (x ∷ xs) zero d lt before here after = rw (here x) (ap (λ ys. f x ∷ ys) (map-none xs (within_tail (λ y. p y ≡ false) x xs zero (length xs) after)))
    map-one (x ∷ xs) (suc i) d lt before here after =
        rw (before 0 x (omega arith) (omega arith)) (ap (λ ys. x ∷ ys) (map-one xs i d (omega arith) (from_start (λ y. p y ≡ false) x xs i before) here (within_tail (λ y. p y ≡ false) x xs (suc i) (length xs) after)))

kept_first : {X : Type 0} (b : Bool) (x : X) (bs : List Bool) (xs zs : List X) → items_where_true bs xs ≡ zs → items_where_true (b ∷ bs) (x ∷ xs) ≡ cond b (x ∷ zs) zs
kept_first true x bs xs zs h = ap (λ ys. x ∷ ys) h
kept_first false x bs xs zs h = h

-- what `retain` keeps, where each call answers the test and leaves the closure as it was
module _ {X P : Type 0} (R : P → X → Bool → P → Type 0) (test : X → Bool) (f : P) (says : (x : X) (b : Bool) (g : P) → R f x b g → (b ≡ test x) × (g ≡ f)) where
  kept_in_turn : (bs : List Bool) (xs : List X) (g : P) → length bs ≡ length xs → ReturnsInTurn R f bs xs g → items_where_true bs xs ≡ filter test xs
  kept_in_turn [] [] g same turns = refl
  kept_in_turn [] (x ∷ xs) g same turns = absurd (omega arith)
  kept_in_turn (b ∷ bs) [] g same turns = absurd turns
  kept_in_turn (b ∷ bs) (x ∷ xs) g same (h, step, turns) =
      let said = says x b h step in
      let rest = kept_in_turn bs xs g (omega arith) (subst (λ k. ReturnsInTurn R k bs xs g) said.1 turns) in
      rw said.0 (kept_first (test x) x bs xs (filter test xs) rest)

  pub filter-retain : (xs ys : List X) → IsFiltered R f xs ys → ys ≡ filter test xs
  filter-retain xs ys (bs, g, same, turns, is) = is ∙ kept_in_turn bs xs g same turns
