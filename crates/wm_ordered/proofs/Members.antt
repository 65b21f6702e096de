-- What stands in a list after an edit, and what a search finds.
use Rattle.std.proofs.Common.{◌≡◌, ◌⊎◌, ℕ, zero, suc, ◌<◌, ◌≤◌, Bool, true, false, cond, List, [], ◌∷◌, length, get_or, map, take, drop, Option, Some, None, inl, inr, refl, ap, sym, ◌∙◌, subst, arith, Contains}
use Rattle.std.specs.List.{filter, find, insert, list_any, AllPairs, slice_get}
use mathlib.Core.Bool.{false≢true}
use Rattle.std.proofs.lemmas.Bool.{or_parts}
use Rattle.std.proofs.lemmas.List.{take-append-drop}
use Rattle.std.proofs.lemmas.List.Elements.{Contains-append_left, Contains-append_right, Contains-append_cases}
use Rattle.wm_base.proofs.Lists.{length-filter_few}

module _ {X : Type 0} where
  pub Contains-head : (x : X) (xs : List X) → Contains (x ∷ xs) x
  Contains-head x xs = (0, omega arith, refl)

  pub Contains-cons : (x y : X) (xs : List X) → Contains xs y → Contains (x ∷ xs) y
  Contains-cons x y xs p = (suc p.0, omega (arith, p.1), p.2)

  pub Contains-nil : (y : X) → Contains [] y → ⊥
  Contains-nil y p = omega (arith, p.1)

  pub Contains-cases : (x y : X) (xs : List X) → Contains (x ∷ xs) y → (x ≡ y) ⊎ Contains xs y
  Contains-cases x y xs p = by_index p.0 p.1 p.2
    where
      by_index : (k : ℕ) → k < suc (length xs) → get_or (x ∷ xs) k y ≡ y → (x ≡ y) ⊎ Contains xs y
      by_index zero within found = inl found
      by_index (suc k) within found = inr (k, omega arith, found)

  -- after `insert`
  pub Contains-insert_new : (xs : List X) (i : ℕ) (x : X) → Contains (insert xs i x) x
  Contains-insert_new xs i x = Contains-append_right (take i xs) (x ∷ drop i xs) x (Contains-head x (drop i xs))

  pub Contains-insert_old : (xs : List X) (i : ℕ) (x y : X) → Contains xs y → Contains (insert xs i x) y
  Contains-insert_old xs i x y p =
      elim (Contains-append_cases (take i xs) (drop i xs) y (subst (λ l. Contains l y) (sym (take-append-drop i xs)) p)) [
        | inl before ↦ Contains-append_left (take i xs) (x ∷ drop i xs) y before
        | inr after ↦ Contains-append_right (take i xs) (x ∷ drop i xs) y (Contains-cons x y (drop i xs) after)
      ]

  pub Contains-insert_cases : (xs : List X) (i : ℕ) (x y : X) → Contains (insert xs i x) y → (x ≡ y) ⊎ Contains xs y
  Contains-insert_cases xs i x y p =
      elim (Contains-append_cases (take i xs) (x ∷ drop i xs) y p) [
        | inl before ↦ inr (subst (λ l. Contains l y) (take-append-drop i xs) (Contains-append_left (take i xs) (drop i xs) y before))
        | inr here ↦ elim (Contains-cases x y (drop i xs) here) [
          | inl same ↦ inl same
          | inr after ↦ inr (subst (λ l. Contains l y) (take-append-drop i xs) (Contains-append_right (take i xs) (drop i xs) y after))
        ]
      ]

  module _ (p : X → Bool) where
    kept : (b : Bool) (x y : X) (xs : List X) → Contains xs y → Contains (cond b (x ∷ xs) xs) y
    kept true x y xs h = Contains-cons x y xs h
    kept false x y xs h = h

    kept_head : (b : Bool) (x : X) (xs : List X) → b ≡ true → Contains (cond b (x ∷ xs) xs) x
    kept_head true x xs h = Contains-head x xs
    kept_head false x xs h = absurd (false≢true h)

    kept_cases : (b : Bool) (x y : X) (xs : List X) → Contains (cond b (x ∷ xs) xs) y → ((b ≡ true) × (x ≡ y)) ⊎ Contains xs y
    kept_cases true x y xs h = elim (Contains-cases x y xs h) [ inl e ↦ inl (refl, e) | inr r ↦ inr r ]
    kept_cases false x y xs h = inr h

    -- a filter keeps what passes
    pub Contains-filter : (xs : List X) (y : X) → Contains xs y → p y ≡ true → Contains (filter p xs) y
    Contains-filter [] y h passes = h
    Contains-filter (x ∷ xs) y h passes =
        elim (Contains-cases x y xs h) [
          | inl same ↦ subst (λ z. Contains (cond (p x) (x ∷ filter p xs) (filter p xs)) z) same (kept_head (p x) x (filter p xs) (ap p same ∙ passes))
          | inr later ↦ kept (p x) x y (filter p xs) (Contains-filter xs y later passes)
        ]

    pub Contains-from_filter : (xs : List X) (y : X) → Contains (filter p xs) y → Contains xs y × (p y ≡ true)
    Contains-from_filter [] y h = absurd (Contains-nil y h)
    Contains-from_filter (x ∷ xs) y h =
        elim (kept_cases (p x) x y (filter p xs) h) [
          | inl (passes, same) ↦ (subst (λ z. Contains (x ∷ xs) z) same (Contains-head x xs), sym (ap p same) ∙ passes)
          | inr later ↦ (let rest = Contains-from_filter xs y later in (Contains-cons x y xs rest.0, rest.1))
        ]

    shorter : (b : Bool) (x : X) (l xs : List X) → length l < length xs → length (cond b (x ∷ l) l) < length (x ∷ xs)
    shorter true x l xs lt = omega arith
    shorter false x l xs lt = omega arith

    dropped : (b : Bool) (x : X) (l xs : List X) → b ≡ false → length l ≤ length xs → length (cond b (x ∷ l) l) < length (x ∷ xs)
    dropped true x l xs e le = absurd (false≢true (sym e))
    dropped false x l xs e le = omega arith

    -- a filter that drops an element is shorter
    pub filter-less : (xs : List X) (y : X) → Contains xs y → p y ≡ false → length (filter p xs) < length xs
    filter-less [] y there fails = absurd (Contains-nil y there)
    filter-less (x ∷ xs) y there fails =
        elim (Contains-cases x y xs there) [
          | inl same ↦ dropped (p x) x (filter p xs) xs (ap p same ∙ fails) (length-filter_few p xs)
          | inr later ↦ shorter (p x) x (filter p xs) xs (filter-less xs y later fails)
        ]

    -- nothing passes
    pub filter-empty : (xs : List X) → ((y : X) → Contains xs y → p y ≡ false) → filter p xs ≡ []
    filter-empty [] none = refl
    filter-empty (x ∷ xs) none = rw (none x (Contains-head x xs)) (filter-empty xs (λ y h. none y (Contains-cons x y xs h)))

    pub filter-whole : (xs : List X) → ((y : X) → Contains xs y → p y ≡ true) → filter p xs ≡ xs
    filter-whole [] all = refl
    filter-whole (x ∷ xs) all = rw (all x (Contains-head x xs)) (ap (λ l. x ∷ l) (filter-whole xs (λ y h. all y (Contains-cons x y xs h))))

    found_cases : (b : Bool) (x y : X) (o : Option X) → cond b (Some x) o ≡ Some y → ((b ≡ true) × (x ≡ y)) ⊎ (o ≡ Some y)
    found_cases true x y o h = inl (refl, cc h)
    found_cases false x y o h = inr h

    -- what a search finds is there and passes
    pub find-Some : (xs : List X) (y : X) → find p xs ≡ Some y → Contains xs y × (p y ≡ true)
    find-Some [] y h = absurd (cc h)
    find-Some (x ∷ xs) y h =
        elim (found_cases (p x) x y (find p xs) h) [
          | inl (passes, same) ↦ (subst (λ z. Contains (x ∷ xs) z) same (Contains-head x xs), sym (ap p same) ∙ passes)
          | inr later ↦ (let rest = find-Some xs y later in (Contains-cons x y xs rest.0, rest.1))
        ]

    lost_head : (b : Bool) (x : X) (o : Option X) → cond b (Some x) o ≡ None → (b ≡ false) × (o ≡ None)
    lost_head true x o h = absurd (cc h)
    lost_head false x o h = (refl, h)

    -- where it finds nothing, nothing passes
    pub find-None : (xs : List X) (y : X) → find p xs ≡ None → Contains xs y → p y ≡ false
    find-None [] y h there = absurd (Contains-nil y there)
    find-None (x ∷ xs) y h there =
        let here = lost_head (p x) x (find p xs) h in
        elim (Contains-cases x y xs there) [ inl same ↦ sym (ap p same) ∙ here.0 | inr later ↦ find-None xs y here.1 later ]

    pub list_any-false : (xs : List X) (y : X) → list_any p xs ≡ false → Contains xs y → p y ≡ false
    list_any-false [] y h there = absurd (Contains-nil y there)
    list_any-false (x ∷ xs) y h there =
        let parts = or_parts (p x) (list_any p xs) h in
        elim (Contains-cases x y xs there) [ inl same ↦ sym (ap p same) ∙ parts.0 | inr later ↦ list_any-false xs y parts.1 later ]

    pub list_any-none : (xs : List X) → ((y : X) → Contains xs y → p y ≡ false) → list_any p xs ≡ false
    list_any-none [] none = refl
    list_any-none (x ∷ xs) none = rw (none x (Contains-head x xs)) (list_any-none xs (λ y h. none y (Contains-cons x y xs h)))

  -- the first element and the others
  pub AllPairs-tail : (R : X → X → Type 0) (x : X) (xs : List X) → AllPairs R (x ∷ xs) → AllPairs R xs
  AllPairs-tail R x xs h i j d lt in_range = h (suc i) (suc j) d (omega arith) (omega arith)

  pub AllPairs-head : (R : X → X → Type 0) (x y : X) (xs : List X) → AllPairs R (x ∷ xs) → Contains xs y → R x y
  AllPairs-head R x y xs h p = subst (λ z. R x z) p.2 (h 0 (suc p.0) y (omega arith) (omega (arith, p.1)))

  found_first : (R : X → X → Type 0) (p : X → Bool) (b : Bool) (x : X) (xs : List X) (r y : X) → p x ≡ b → AllPairs R (x ∷ xs) → cond b (Some x) (find p xs) ≡ Some r → Contains (x ∷ xs) y → p y ≡ true → (find p xs ≡ Some r → Contains xs y → (y ≡ r) ⊎ R r y) → (y ≡ r) ⊎ R r y
  found_first R p true x xs r y e sorted found there passes rest =
      let here : x ≡ r = cc found in
      elim (Contains-cases x y xs there) [ inl same ↦ inl (sym same ∙ here) | inr later ↦ inr (subst (λ z. R z y) here (AllPairs-head R x y xs sorted later)) ]
  found_first R p false x xs r y e sorted found there passes rest =
      elim (Contains-cases x y xs there) [ inl same ↦ absurd (false≢true (sym e ∙ (ap p same ∙ passes))) | inr later ↦ rest found later ]

  -- the first in a sorted list that passes comes before all others that pass
  pub find-before : (R : X → X → Type 0) (p : X → Bool) (xs : List X) (r y : X) → AllPairs R xs → find p xs ≡ Some r → Contains xs y → p y ≡ true → (y ≡ r) ⊎ R r y
  find-before R p [] r y sorted found there passes = absurd (Contains-nil y there)
  find-before R p (x ∷ xs) r y sorted found there passes =
      found_first R p (p x) x xs r y refl sorted found there passes (λ later_found later. find-before R p xs r y (AllPairs-tail R x xs sorted) later_found later passes)

  -- the first of a sorted list comes before all others
  pub first-before : (R : X → X → Type 0) (xs : List X) (r y : X) → AllPairs R xs → slice_get xs 0 ≡ Some r → Contains xs y → (y ≡ r) ⊎ R r y
  first-before R [] r y sorted found there = absurd (Contains-nil y there)
  first-before R (x ∷ xs) r y sorted found there =
      let here : x ≡ r = cc found in
      elim (Contains-cases x y xs there) [ inl same ↦ inl (sym same ∙ here) | inr later ↦ inr (subst (λ z. R z y) here (AllPairs-head R x y xs sorted later)) ]

  pub first-there : (xs : List X) (r : X) → slice_get xs 0 ≡ Some r → Contains xs r
  first-there [] r found = absurd (cc found)
  first-there (x ∷ xs) r found = let here : x ≡ r = cc found in subst (λ z. Contains (x ∷ xs) z) here (Contains-head x xs)

  pub at-there : (xs : List X) (k : ℕ) (x : X) → slice_get xs k ≡ Some x → Contains xs x
  at-there [] k x at = absurd (cc at)
  at-there (y ∷ ys) zero x at = let here : y ≡ x = cc at in subst (λ z. Contains (y ∷ ys) z) here (Contains-head y ys)
  at-there (y ∷ ys) (suc k) x at = Contains-cons y x ys (at-there ys k x at)

  pub first-none : (xs : List X) (y : X) → slice_get xs 0 ≡ None → Contains xs y → ⊥
  first-none [] y found there = Contains-nil y there
  first-none (x ∷ xs) y found there = cc found

-- what a map makes
module _ {X Y : Type 0} (f : X → Y) where
  pub Contains-mapped : (xs : List X) (x : X) → Contains xs x → Contains (map f xs) (f x)
  Contains-mapped [] x h = absurd (Contains-nil x h)
  Contains-mapped (y ∷ ys) x h =
      elim (Contains-cases y x ys h) [
        | inl same ↦ subst (λ z. Contains (f y ∷ map f ys) (f z)) same (Contains-head (f y) (map f ys))
        | inr later ↦ Contains-cons (f y) (f x) (map f ys) (Contains-mapped ys x later)
      ]

  pub Contains-from_mapped : (xs : List X) (y : Y) → Contains (map f xs) y → (x : X) × Contains xs x × (f x ≡ y)
  Contains-from_mapped [] y h = absurd (Contains-nil y h)
  Contains-from_mapped (x ∷ xs) y h =
      elim (Contains-cases (f x) y (map f xs) h) [
        | inl same ↦ (x, Contains-head x xs, same)
        | inr later ↦ (let rest = Contains-from_mapped xs y later in (rest.0, Contains-cons x rest.0 xs rest.1, rest.2))
      ]
