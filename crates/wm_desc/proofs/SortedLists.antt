-- What a search finds in a sorted list, and what an edit at that place leaves.
use Rattle.std.proofs.Common.{◌≡◌, ℕ, zero, suc, ◌+◌, ◌<◌, ◌≤◌, ◌-◌, Bool, true, false, List, [], ◌∷◌, length, get_or, Some, None, is_some, is_ok, Result, Ok, Err, MatchResult, inl, inr, refl, ap, sym, ◌∙◌, subst, arith}
use Rattle.std.specs.declared.cmp.Ordering.{Ordering}
use Rattle.std.specs.declared.cmp.Ordering.TheVariants.{Less, Equal, Greater}
use Rattle.std.specs.Ordering.{is_lt, is_eq, ordering_index}
use Rattle.std.specs.Cmp.{IsTotalOrder}
use Rattle.std.specs.List.{AllAdjacentBelow, IsAllAdjacentAnswer, insert, remove}
use Rattle.std.specs.List.Sorted.{IsSearchInRange, IsBinarySearchResult, IsNonDecreasingBy}
use mathlib.Core.Bool.{false≢true}
use Rattle.std.proofs.lemmas.Bool.{cases_lt}
use Rattle.std.proofs.lemmas.Cmp.{alike_right}
use Rattle.std.proofs.lemmas.List.Edits.{length-insert, get_or-insert_below, get_or-insert_at, get_or-insert_above}
use Rattle.std.proofs.lemmas.List.Sorted.{searchable_from_sorted}
use Rattle.wm_base.proofs.Orderings.{turned-Less, turned-Greater}
use Rattle.wm_desc.specs.Sorted.{IsSortedOnce, with_key, has_key, place_of, added, removed}
use Rattle.wm_desc.specs.Place.{IsAt, IsGap}
use Rattle.wm_desc.proofs.Places.{count_by-split, find-none, find-first, filter-none, filter-one, list_any-find}

module _ {E K : Type 0} (key : E → K) (cmp : K → K → Ordering) (o : IsTotalOrder cmp) where
  -- as a binary search asks
  keys_rise : (xs : List E) (k : K) → IsSortedOnce key cmp xs → IsNonDecreasingBy (λ x. ordering_index (cmp (key x) k)) xs
  keys_rise xs k sorted = searchable_from_sorted o key xs k (λ i d _ lt. ap is_lt (turned-Less cmp o _ _ (sorted i (i + 1) d (omega arith) lt)))

  -- a binary search ends at the key or at the gap for it
  pub searched : (xs : List E) (k : K) (r : Result ℕ ℕ) → IsSortedOnce key cmp xs → IsSearchInRange r (length xs) → IsBinarySearchResult (λ x. cmp (key x) k) xs r → MatchResult r (IsAt key cmp k xs) (IsGap key cmp k xs)
  searched xs k (Ok i) sorted in_range found = record {
    in_range = in_range;
    before = λ j d _ lt. sym (alike_right o _ _ (key (get_or xs j d)) (found d)) ∙ sorted j i d lt in_range;
    here = found;
    after = λ j d le lt. sym (alike_right o _ _ (key (get_or xs j d)) (found d)) ∙ turned-Less cmp o _ _ (sorted i j d (omega arith) lt);
  }
  searched xs k (Err i) sorted in_range parted = let parts = parted (keys_rise xs k sorted) in record { in_range = in_range; before = parts.0; after = parts.1 }

  module _ (k : K) (xs : List E) (i : ℕ) where
    -- the lesser keys are counted
    pub place_of-at : IsAt key cmp k xs i → place_of key cmp k xs ≡ i
    place_of-at h = count_by-split (λ x. is_lt (cmp (key x) k)) xs i (omega (arith, h.in_range)) (λ j d le lt. ap is_lt (h.before j d le lt)) not_less
      where
        not_less : (j : ℕ) (d : E) → i ≤ j → j < length xs → is_lt (cmp (key (get_or xs j d)) k) ≡ false
        not_less j d le lt =
            elim (cases_lt i j) [
              | inl hi ↦ ap is_lt (h.after j d hi lt)
              | inr lo ↦ let same : i ≡ j = omega arith in ap is_lt (subst (λ q. cmp (key (get_or xs q d)) k ≡ Equal) same (h.here d))
            ]

    pub place_of-gap : IsGap key cmp k xs i → place_of key cmp k xs ≡ i
    place_of-gap h = count_by-split (λ x. is_lt (cmp (key x) k)) xs i h.in_range (λ j d le lt. ap is_lt (h.before j d le lt)) (λ j d le lt. ap is_lt (h.after j d le lt))

    module _ (eq : K → K → Bool) (ties : (a b : K) → eq a b ≡ is_eq (cmp a b)) where
      pub with_key-at : (d : E) → IsAt key cmp k xs i → with_key key eq k xs ≡ Some (get_or xs i d)
      with_key-at d h = find-first (λ x. eq (key x) k) xs i d h.in_range (λ j d le lt. ties _ _ ∙ ap is_eq (h.before j d le lt)) (λ d. ties _ _ ∙ ap is_eq (h.here d))

      pub with_key-gap : IsGap key cmp k xs i → with_key key eq k xs ≡ None
      with_key-gap h = find-none (λ x. eq (key x) k) xs (λ j d _ lt. other j d lt)
        where
          other : (j : ℕ) (d : E) → j < length xs → eq (key (get_or xs j d)) k ≡ false
          other j d lt = elim (cases_lt j i) [ inl lo ↦ ties _ _ ∙ ap is_eq (h.before j d (omega arith) lo) | inr hi ↦ ties _ _ ∙ ap is_eq (h.after j d hi lt) ]

      pub removed-at : IsAt key cmp k xs i → removed key eq k xs ≡ remove xs i
      removed-at h = filter-one (λ x. eq (key x) k) xs i h.in_range (λ j d le lt. ties _ _ ∙ ap is_eq (h.before j d le lt)) (λ d. ties _ _ ∙ ap is_eq (h.here d)) (λ j d le lt. ties _ _ ∙ ap is_eq (h.after j d le lt))

      pub removed-gap : IsGap key cmp k xs i → removed key eq k xs ≡ xs
      removed-gap h = filter-none (λ x. eq (key x) k) xs (λ j d _ lt. other j d lt)
        where
          other : (j : ℕ) (d : E) → j < length xs → eq (key (get_or xs j d)) k ≡ false
          other j d lt = elim (cases_lt j i) [ inl lo ↦ ties _ _ ∙ ap is_eq (h.before j d (omega arith) lo) | inr hi ↦ ties _ _ ∙ ap is_eq (h.after j d hi lt) ]

  module _ (k : K) (xs : List E) (eq : K → K → Bool) (ties : (a b : K) → eq a b ≡ is_eq (cmp a b)) where
    -- whether a search finds a key is whether an element has it
    pub has_key-searched : (r : Result ℕ ℕ) → MatchResult r (IsAt key cmp k xs) (IsGap key cmp k xs) → has_key key eq k xs ≡ is_ok r
    has_key-searched (Ok i) h = list_any-find (λ x. eq (key x) k) xs ∙ is_there xs i h
      where
        is_there : (xs : List E) (i : ℕ) → IsAt key cmp k xs i → is_some (with_key key eq k xs) ≡ true
        is_there [] i h = absurd (omega (arith, h.in_range))
        is_there (x ∷ xs) i h = rw (with_key-at k (x ∷ xs) i eq ties x h) refl
    has_key-searched (Err i) h = list_any-find (λ x. eq (key x) k) xs ∙ ap is_some (with_key-gap k xs i eq ties h)

  pub added-gap : (x : E) (xs : List E) (i : ℕ) → IsGap key cmp (key x) xs i → added key cmp x xs ≡ insert xs i x
  added-gap x xs i h = ap (λ n. insert xs n x) (place_of-gap (key x) xs i h)

  -- an element in the gap for its key keeps the order: those before it are lesser, and those after it greater
  pub sorted-insert : (x : E) (xs : List E) (i : ℕ) → IsSortedOnce key cmp xs → IsGap key cmp (key x) xs i → IsSortedOnce key cmp (insert xs i x)
  sorted-insert x xs i sorted gap a b d lt in_range =
      let new = insert xs i x in
      let n = length-insert xs i x gap.in_range in
      let lower : (j : ℕ) → j < i → get_or new j d ≡ get_or xs j d = λ j lo. get_or-insert_below xs i x d j lo gap.in_range in
      let here : (j : ℕ) → j ≡ i → get_or new j d ≡ x = λ j e. rw e (get_or-insert_at xs i x d gap.in_range) in
      let upper : (j : ℕ) → i < j → get_or new j d ≡ get_or xs (j - 1) d = λ j hi. subst (λ q. get_or new q d ≡ get_or xs (j - 1) d) {x = j - 1 + 1} (omega arith) (get_or-insert_above xs i x d (j - 1) (omega arith) gap.in_range) in
      let before : a < i → cmp (key (get_or xs a d)) (key x) ≡ Less = λ lo. gap.before a d (omega arith) lo in
      let after : i < b → cmp (key x) (key (get_or xs (b - 1) d)) ≡ Less = λ hi. turned-Greater cmp o _ _ (gap.after (b - 1) d (omega arith) (omega arith)) in
      grind (arith, lower a, here a, upper a, lower b, here b, upper b, before, after, sorted a b d, sorted a (b - 1) d, sorted (a - 1) (b - 1) d)

  is_lt-Less : (r : Ordering) → is_lt r ≡ true → r ≡ Less
  is_lt-Less Less h = refl
  is_lt-Less Equal h = absurd (false≢true h)
  is_lt-Less Greater h = absurd (false≢true h)

  sorted_upto : (xs : List E) → AllAdjacentBelow (λ x y. is_lt (cmp (key x) (key y)) ≡ true) xs (length xs) → (i j : ℕ) (d : E) → i < j → j < length xs → cmp (key (get_or xs i d)) (key (get_or xs j d)) ≡ Less
  sorted_upto xs steps i zero d lt in_range = absurd (omega arith)
  sorted_upto xs steps i (suc j) d lt in_range =
      let last : cmp (key (get_or xs j d)) (key (get_or xs (suc j) d)) ≡ Less = is_lt-Less _ (subst (λ q. is_lt (cmp (key (get_or xs j d)) (key (get_or xs q d))) ≡ true) {x = j + 1} (omega arith) (steps j d (omega arith))) in
      elim (cases_lt i j) [
        | inl before ↦ o.trans _ _ _ (sorted_upto xs steps i j d before (omega arith)) last
        | inr at_j ↦ let same : j ≡ i = omega arith in subst (λ q. cmp (key (get_or xs q d)) (key (get_or xs (suc j) d)) ≡ Less) same last
      ]

  -- whether each element and the next rise is whether the whole list does
  pub sorted-adjacent : (xs : List E) (r : Bool) → IsAllAdjacentAnswer (λ x y b. b ≡ is_lt (cmp (key x) (key y))) xs r → (r ≡ true → IsSortedOnce key cmp xs) × (IsSortedOnce key cmp xs → r ≡ true)
  sorted-adjacent xs true answer = (λ _. sorted_upto xs (λ k d lt. sym (answer k d lt)), λ _. refl)
  sorted-adjacent [] false (k, lt, unsorted) = absurd (omega arith)
  sorted-adjacent (x ∷ xs) false (k, lt, unsorted) = (λ e. absurd (false≢true e), λ sorted. unsorted x ∙ ap is_lt (sorted k (k + 1) x (omega arith) lt))
