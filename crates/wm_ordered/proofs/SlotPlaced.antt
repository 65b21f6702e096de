-- What the slot of a serial, or the place where it would be, says of the pairs.
use Rattle.std.proofs.Common.{◌≡◌, ℕ, suc, ◌+◌, ◌<◌, ◌≤◌, List, ◌∷◌, ◌++◌, length, get_or, set, take, drop, insert, Some, None, Option, option_map, slice_get, is_some, inl, inr, false, refl, ap, sym, ◌∙◌, subst, arith, length-append, length-set, get_or-set_same, get_or-set_other}
use Rattle.std.specs.Prelude.{nat_eq}
use Rattle.std.specs.List.{cons_option}
use Rattle.std.specs.declared.cmp.Ordering.TheVariants.{Less, Greater}
use Rattle.std.specs.Ordering.{nat_cmp}
use Rattle.std.proofs.lemmas.Bool.{true≢false, cases_lt}
use Rattle.std.proofs.lemmas.List.{take-append-drop}
use Rattle.std.proofs.lemmas.List.Elements.{filter_map-append}
use Rattle.wm_base.proofs.Orderings.{eq-Equal}
use Rattle.wm_desc.specs.Place.{IsAt, IsGap}
use Rattle.wm_desc.specs.Sorted.{IsSortedOnce, has_key, added, removed}
use Rattle.wm_ordered.specs.Ordered.{key_of, value_at, with_value, first_above}
use Rattle.wm_ordered.proofs.Tested.{list_any-part}
use Rattle.wm_ordered.specs.declared.slot.Slot.{Slot}
use Rattle.wm_ordered.specs.Slots.{serial_of, slot_with, pair_of, pairs_in}
use Rattle.wm_ordered.proofs.Around.{Around, value-none, value-one, removed-here, removed-none, set-here, set-none, added-here, above-gap, above-here}
use Rattle.wm_ordered.proofs.Parted.{keyed}
use Rattle.wm_ordered.proofs.SlotParts.{split, split-set, all_taken, all_dropped}

module _ {V : Type 0} (k : ℕ) (xs : List (Slot V)) (i : ℕ) where
  -- the pair of the serial, where there is one, before others
  abbrev one : Option V → List (ℕ × V) → List (ℕ × V)
  one o ys = cons_option (option_map (λ v. (k, v)) o) ys

  abbrev left : List (ℕ × V)
  left = pairs_in (take i xs)

  abbrev right : List (ℕ × V)
  right = pairs_in (drop (suc i) xs)

  abbrev rest : List (ℕ × V)
  rest = pairs_in (drop i xs)

  module _ (at : IsAt serial_of nat_cmp k xs i) where
    lt : i < length xs
    lt = at.in_range

    at-around : Around k left right
    at-around = record {
      low = keyed serial_of (λ (s : Slot V). s.value) (λ n. nat_cmp n k ≡ Less) (take i xs) (all_taken (λ (s : Slot V). nat_cmp s.serial k ≡ Less) xs i (omega (arith, lt)) at.before);
      high = keyed serial_of (λ (s : Slot V). s.value) (λ n. nat_cmp n k ≡ Greater) (drop (suc i) xs) (all_dropped (λ (s : Slot V). nat_cmp s.serial k ≡ Greater) xs (suc i) (omega (arith, lt)) at.after);
    }

    at-pairs : (d : Slot V) → pairs_in xs ≡ left ++ one (get_or xs i d).value right
    at-pairs d =
        let is : (get_or xs i d).serial ≡ k = eq-Equal _ _ (at.here d) in
        ap pairs_in (split xs i d lt) ∙ (filter_map-append pair_of (take i xs) (get_or xs i d ∷ drop (suc i) xs) ∙ ap (λ n. left ++ cons_option (option_map (λ v. (n, v)) (get_or xs i d).value) right) is)

    set-pairs : (o : Option V) → pairs_in (set xs i (slot_with k o)) ≡ left ++ one o right
    set-pairs o = ap pairs_in (split-set xs i (slot_with k o) lt) ∙ filter_map-append pair_of (take i xs) (slot_with k o ∷ drop (suc i) xs)

    pub value-at : (d : Slot V) → value_at nat_eq k (pairs_in xs) ≡ (get_or xs i d).value
    value-at d = ap (value_at nat_eq k) (at-pairs d) ∙ value-one k left right at-around (get_or xs i d).value

    removed-of : (o : Option V) → removed key_of nat_eq k (left ++ one o right) ≡ left ++ right
    removed-of None = removed-none k left right at-around
    removed-of (Some v) = removed-here k left right at-around v

    pub removed-at : (d : Slot V) → pairs_in (set xs i (slot_with k None)) ≡ removed key_of nat_eq k (pairs_in xs)
    removed-at d = set-pairs None ∙ sym (ap (removed key_of nat_eq k) (at-pairs d) ∙ removed-of (get_or xs i d).value)

    -- where the slot is empty
    pub removed-empty : (d : Slot V) → (get_or xs i d).value ≡ None → removed key_of nat_eq k (pairs_in xs) ≡ pairs_in xs
    removed-empty d empty =
        let pairs : pairs_in xs ≡ left ++ right = at-pairs d ∙ ap (λ o. left ++ one o right) empty in
        ap (removed key_of nat_eq k) pairs ∙ (removed-none k left right at-around ∙ sym pairs)

    pub set-empty : (d : Slot V) (v : V) → (get_or xs i d).value ≡ None → with_value nat_eq k v (pairs_in xs) ≡ pairs_in xs
    set-empty d v empty =
        let pairs : pairs_in xs ≡ left ++ right = at-pairs d ∙ ap (λ o. left ++ one o right) empty in
        ap (with_value nat_eq k v) pairs ∙ (set-none k left right at-around v ∙ sym pairs)

    pub set-at : (d : Slot V) (was v : V) → (get_or xs i d).value ≡ Some was → pairs_in (set xs i (slot_with k (Some v))) ≡ with_value nat_eq k v (pairs_in xs)
    set-at d was v full =
        let pairs : pairs_in xs ≡ left ++ (k, was) ∷ right = at-pairs d ∙ ap (λ o. left ++ one o right) full in
        set-pairs (Some v) ∙ sym (ap (with_value nat_eq k v) pairs ∙ set-here k left right at-around was v)

    none-of : (o : Option V) → is_some o ≡ false → o ≡ None
    none-of None h = refl
    none-of (Some v) h = absurd (true≢false h)

    pub empty-new : (d : Slot V) → has_key key_of nat_eq k (pairs_in xs) ≡ false → (get_or xs i d).value ≡ None
    empty-new d new =
        none-of _ (ap is_some (sym (value-at d)) ∙ (sym (list_any-part (λ (x : ℕ × V). nat_eq x.0 k) (λ (x : ℕ × V). x.1) (pairs_in xs)) ∙ new))

    pub added-at : (d : Slot V) (v : V) → has_key key_of nat_eq k (pairs_in xs) ≡ false → pairs_in (set xs i (slot_with k (Some v))) ≡ added key_of nat_cmp (k, v) (pairs_in xs)
    added-at d v new =
        let pairs : pairs_in xs ≡ left ++ right = at-pairs d ∙ ap (λ o. left ++ one o right) (empty-new d new) in
        set-pairs (Some v) ∙ sym (ap (added key_of nat_cmp (k, v)) pairs ∙ added-here k left right at-around v)

    above-of : (o : Option V) → first_above nat_cmp k (left ++ one o right) ≡ slice_get right 0
    above-of None = above-gap k left right at-around
    above-of (Some v) = above-here k left right at-around v

    pub above-at : (d : Slot V) → first_above nat_cmp k (pairs_in xs) ≡ slice_get right 0
    above-at d = ap (first_above nat_cmp k) (at-pairs d) ∙ above-of (get_or xs i d).value

    -- how many pairs there are with another value, or none
    pub length-at : (d : Slot V) → (get_or xs i d).value ≡ None → (v : V) → length (pairs_in (set xs i (slot_with k (Some v)))) ≡ length (pairs_in xs) + 1
    length-at d empty v =
        omega (arith, ap length (set-pairs (Some v)), ap length (at-pairs d ∙ ap (λ o. left ++ one o right) empty), length-append left ((k, v) ∷ right), length-append left right)

    pub length-removed : (d : Slot V) (was : V) → (get_or xs i d).value ≡ Some was → length (pairs_in xs) ≡ length (pairs_in (set xs i (slot_with k None))) + 1
    length-removed d was full =
        omega (arith, ap length (set-pairs None), ap length (at-pairs d ∙ ap (λ o. left ++ one o right) full), length-append left ((k, was) ∷ right), length-append left right)

    pub length-set_at : (d : Slot V) (was v : V) → (get_or xs i d).value ≡ Some was → length (pairs_in (set xs i (slot_with k (Some v)))) ≡ length (pairs_in xs)
    length-set_at d was v full =
        omega (arith, ap length (set-pairs (Some v)), ap length (at-pairs d ∙ ap (λ o. left ++ one o right) full), length-append left ((k, was) ∷ right), length-append left ((k, v) ∷ right))

    as_before : (o : Option V) (j : ℕ) (d : Slot V) → (get_or (set xs i (slot_with k o)) j d).serial ≡ (get_or xs j d).serial
    as_before o j d =
        elim (cases_lt j i) [
          | inl less ↦ ap (λ (s : Slot V). s.serial) (get_or-set_other xs i j (slot_with k o) d (omega (arith, less)))
          | inr not_less ↦ at_or_above o j d not_less
        ]
      where
        at_or_above : (o : Option V) (j : ℕ) (d : Slot V) → i ≤ j → (get_or (set xs i (slot_with k o)) j d).serial ≡ (get_or xs j d).serial
        at_or_above o j d le =
            elim (cases_lt i j) [
              | inl more ↦ ap (λ (s : Slot V). s.serial) (get_or-set_other xs i j (slot_with k o) d (omega (arith, more)))
              | inr here ↦ let e : i ≡ j = omega arith in
                  subst (λ n. (get_or (set xs i (slot_with k o)) n d).serial ≡ (get_or xs n d).serial) e (ap (λ (s : Slot V). s.serial) (get_or-set_same xs i (slot_with k o) d lt) ∙ sym (eq-Equal _ _ (at.here d)))
            ]

    pub sorted-set : (o : Option V) → IsSortedOnce serial_of nat_cmp xs → IsSortedOnce serial_of nat_cmp (set xs i (slot_with k o))
    sorted-set o sorted a b d less in_range =
        let n = length-set xs i (slot_with k o) in
        subst (λ m. nat_cmp m (get_or (set xs i (slot_with k o)) b d).serial ≡ Less) (sym (as_before o a d)) (subst (λ m. nat_cmp (get_or xs a d).serial m ≡ Less) (sym (as_before o b d)) (sorted a b d less (omega (arith, n, in_range))))

  module _ (gap : IsGap serial_of nat_cmp k xs i) where
    le : i ≤ length xs
    le = gap.in_range

    gap-around : Around k left rest
    gap-around = record {
      low = keyed serial_of (λ (s : Slot V). s.value) (λ n. nat_cmp n k ≡ Less) (take i xs) (all_taken (λ (s : Slot V). nat_cmp s.serial k ≡ Less) xs i le gap.before);
      high = keyed serial_of (λ (s : Slot V). s.value) (λ n. nat_cmp n k ≡ Greater) (drop i xs) (all_dropped (λ (s : Slot V). nat_cmp s.serial k ≡ Greater) xs i le gap.after);
    }

    gap-pairs : pairs_in xs ≡ left ++ rest
    gap-pairs = ap pairs_in (sym (take-append-drop i xs)) ∙ filter_map-append pair_of (take i xs) (drop i xs)

    insert-pairs : (v : V) → pairs_in (insert xs i (slot_with k (Some v))) ≡ left ++ (k, v) ∷ rest
    insert-pairs v = filter_map-append pair_of (take i xs) (slot_with k (Some v) ∷ drop i xs)

    pub value-gap : value_at nat_eq k (pairs_in xs) ≡ None
    value-gap = ap (value_at nat_eq k) gap-pairs ∙ value-none k left rest gap-around

    pub removed-gap : removed key_of nat_eq k (pairs_in xs) ≡ pairs_in xs
    removed-gap = ap (removed key_of nat_eq k) gap-pairs ∙ (removed-none k left rest gap-around ∙ sym gap-pairs)

    pub set-gap : (v : V) → with_value nat_eq k v (pairs_in xs) ≡ pairs_in xs
    set-gap v = ap (with_value nat_eq k v) gap-pairs ∙ (set-none k left rest gap-around v ∙ sym gap-pairs)

    pub added-gap : (v : V) → pairs_in (insert xs i (slot_with k (Some v))) ≡ added key_of nat_cmp (k, v) (pairs_in xs)
    added-gap v = insert-pairs v ∙ sym (ap (added key_of nat_cmp (k, v)) gap-pairs ∙ added-here k left rest gap-around v)

    pub above-none : first_above nat_cmp k (pairs_in xs) ≡ slice_get rest 0
    above-none = ap (first_above nat_cmp k) gap-pairs ∙ above-gap k left rest gap-around

    pub length-gap : (v : V) → length (pairs_in (insert xs i (slot_with k (Some v)))) ≡ length (pairs_in xs) + 1
    length-gap v = omega (arith, ap length (insert-pairs v), ap length gap-pairs, length-append left ((k, v) ∷ rest), length-append left rest)
