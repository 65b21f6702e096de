-- What is found at a node of sorted pairs, and what is left without it, by how its key stands to the one that is sought.
use Rattle.std.proofs.Common.{◌≡◌, Bool, true, false, not, List, ◌∷◌, ◌++◌, All, Some, option_map, refl, ap, sym, ◌∙◌, subst}
use Rattle.std.specs.declared.cmp.Ordering.{Ordering}
use Rattle.std.specs.declared.cmp.Ordering.TheVariants.{Less, Equal, Greater}
use Rattle.std.specs.Cmp.{IsTotalOrder}
use Rattle.std.specs.Option.{option_or}
use Rattle.std.specs.Ordering.{is_lt, is_eq, is_gt}
use Rattle.std.proofs.lemmas.Bool.{false≢true}
use Rattle.std.proofs.lemmas.Cmp.{alike_right}
use Rattle.wm_base.proofs.Orderings.{is_lt-Less, turned-Less, turned-Greater}
use Rattle.wm_desc.specs.Sorted.{IsSortedOnce, removed}
use Rattle.wm_ordered.specs.Ordered.{key_of, value_at, with_value, first_from, first_above}
use Rattle.wm_ordered.proofs.Sides.{Sides, sides}
use Rattle.wm_ordered.proofs.Tested.{find-right, find-left, find-here, find-left_or, filter-right, filter-left, filter-here, map-right, map-left, map-here}

Less-not_gt : (c : Ordering) → c ≡ Less → is_gt c ≡ false
Less-not_gt c h = ap is_gt h

-- pairs d are those of a node: l is what lies left of e, and r what lies right of it
module _ {K V : Type 0} (cmp : K → K → Ordering) (o : IsTotalOrder cmp) (k : K) (d l : List (K × V)) (e : K × V) (r : List (K × V)) (is : d ≡ l ++ e ∷ r) (sorted : IsSortedOnce key_of cmp d) where
  parts : Sides (λ (x y : K × V). cmp x.0 y.0 ≡ Less) l e r
  parts = sides (λ (x y : K × V). cmp x.0 y.0 ≡ Less) l e r (subst (λ xs. IsSortedOnce key_of cmp xs) is sorted)

  pub left_sorted : IsSortedOnce key_of cmp l
  left_sorted = parts.left

  pub right_sorted : IsSortedOnce key_of cmp r
  right_sorted = parts.right

  -- how the keys of a side stand to the one that is sought
  pub left_of_less : cmp e.0 k ≡ Less → All (λ x. cmp x.0 k ≡ Less) l
  left_of_less h j d lt = o.trans _ _ _ (parts.below j d lt) h

  pub left_of_equal : cmp e.0 k ≡ Equal → All (λ x. cmp x.0 k ≡ Less) l
  left_of_equal h j d lt = sym (alike_right o _ _ _ h) ∙ parts.below j d lt

  pub right_of_equal : cmp e.0 k ≡ Equal → All (λ x. cmp x.0 k ≡ Greater) r
  right_of_equal h j d lt = turned-Less cmp o _ _ (sym (o.congr _ _ _ h) ∙ parts.above j d lt)

  pub right_of_greater : cmp e.0 k ≡ Greater → All (λ x. cmp x.0 k ≡ Greater) r
  right_of_greater h j d lt = turned-Less cmp o _ _ (o.trans _ _ _ (turned-Greater cmp o _ _ h) (parts.above j d lt))

  module _ (eq : K → K → Bool) (ties : (a b : K) → eq a b ≡ is_eq (cmp a b)) where
    as_tested : (c : Ordering) → cmp e.0 k ≡ c → eq e.0 k ≡ is_eq c
    as_tested c h = ties e.0 k ∙ ap is_eq h

    apart : (xs : List (K × V)) (c : Ordering) → is_eq c ≡ false → All (λ x. cmp x.0 k ≡ c) xs → All (λ x. eq x.0 k ≡ false) xs
    apart xs c differs h j d lt = ties _ _ ∙ (ap is_eq (h j d lt) ∙ differs)

    pub value-right : cmp e.0 k ≡ Less → value_at eq k d ≡ value_at eq k r
    value-right h = ap (λ xs. value_at eq k xs) is ∙ ap (option_map (λ pair. pair.1)) (find-right (λ x. eq x.0 k) l e r (apart l Less refl (left_of_less h)) (as_tested Less h))

    pub value-here : cmp e.0 k ≡ Equal → value_at eq k d ≡ Some e.1
    value-here h = ap (λ xs. value_at eq k xs) is ∙ ap (option_map (λ pair. pair.1)) (find-here (λ x. eq x.0 k) l e r (apart l Less refl (left_of_equal h)) (as_tested Equal h))

    pub value-left : cmp e.0 k ≡ Greater → value_at eq k d ≡ value_at eq k l
    value-left h = ap (λ xs. value_at eq k xs) is ∙ ap (option_map (λ pair. pair.1)) (find-left (λ x. eq x.0 k) l e r (as_tested Greater h) (apart r Greater refl (right_of_greater h)))

    module _ (v : V) where
      pub set-right : cmp e.0 k ≡ Less → with_value eq k v d ≡ l ++ e ∷ with_value eq k v r
      set-right h = ap (λ xs. with_value eq k v xs) is ∙ map-right (λ x. eq x.0 k) (λ x. (x.0, v)) l e r (apart l Less refl (left_of_less h)) (as_tested Less h)

      pub set-here : cmp e.0 k ≡ Equal → with_value eq k v d ≡ l ++ (e.0, v) ∷ r
      set-here h = ap (λ xs. with_value eq k v xs) is ∙ map-here (λ x. eq x.0 k) (λ x. (x.0, v)) l e r (apart l Less refl (left_of_equal h)) (as_tested Equal h) (apart r Greater refl (right_of_equal h))

      pub set-left : cmp e.0 k ≡ Greater → with_value eq k v d ≡ with_value eq k v l ++ e ∷ r
      set-left h = ap (λ xs. with_value eq k v xs) is ∙ map-left (λ x. eq x.0 k) (λ x. (x.0, v)) l e r (as_tested Greater h) (apart r Greater refl (right_of_greater h))

    pub removed-right : cmp e.0 k ≡ Less → removed key_of eq k d ≡ l ++ e ∷ removed key_of eq k r
    removed-right h = ap (λ xs. removed key_of eq k xs) is ∙ filter-right (λ x. eq x.0 k) l e r (apart l Less refl (left_of_less h)) (as_tested Less h)

    pub removed-here : cmp e.0 k ≡ Equal → removed key_of eq k d ≡ l ++ r
    removed-here h = ap (λ xs. removed key_of eq k xs) is ∙ filter-here (λ x. eq x.0 k) l e r (apart l Less refl (left_of_equal h)) (as_tested Equal h) (apart r Greater refl (right_of_equal h))

    pub removed-left : cmp e.0 k ≡ Greater → removed key_of eq k d ≡ removed key_of eq k l ++ e ∷ r
    removed-left h = ap (λ xs. removed key_of eq k xs) is ∙ filter-left (λ x. eq x.0 k) l e r (as_tested Greater h) (apart r Greater refl (right_of_greater h))

  pub from-right : is_lt (cmp e.0 k) ≡ true → first_from cmp k d ≡ first_from cmp k r
  from-right h = ap (λ xs. first_from cmp k xs) is ∙ find-right (λ x. not (is_lt (cmp x.0 k))) l e r (λ j d lt. ap (λ c. not (is_lt c)) (left_of_less (is_lt-Less _ h) j d lt)) (ap not h)

  pub from-left : is_lt (cmp e.0 k) ≡ false → first_from cmp k d ≡ option_or (first_from cmp k l) (Some e)
  from-left h = ap (λ xs. first_from cmp k xs) is ∙ find-left_or (λ x. not (is_lt (cmp x.0 k))) l e r (ap not h)

  -- what lies left of a key that isn't above the one that is sought isn't above it either
  left_not_above : (c : Ordering) → cmp e.0 k ≡ c → is_gt c ≡ false → All (λ x. cmp x.0 k ≡ Less) l
  left_not_above Less h not_above = left_of_less h
  left_not_above Equal h not_above = left_of_equal h
  left_not_above Greater h not_above = absurd (false≢true (sym not_above))

  pub above-right : is_gt (cmp e.0 k) ≡ false → first_above cmp k d ≡ first_above cmp k r
  above-right h =
      ap (λ xs. first_above cmp k xs) is
      ∙ find-right (λ x. is_gt (cmp x.0 k)) l e r (λ j d lt. Less-not_gt _ (left_not_above (cmp e.0 k) refl h j d lt)) h

  pub above-left : is_gt (cmp e.0 k) ≡ true → first_above cmp k d ≡ option_or (first_above cmp k l) (Some e)
  above-left h = ap (λ xs. first_above cmp k xs) is ∙ find-left_or (λ x. is_gt (cmp x.0 k)) l e r h
