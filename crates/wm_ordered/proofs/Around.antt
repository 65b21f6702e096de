-- What is found, left out, changed and added between pairs of lesser serials and pairs of greater ones.
use Rattle.std.proofs.Common.{◌≡◌, ℕ, Bool, true, false, List, [], ◌∷◌, ◌++◌, All, Some, None, option_map, slice_get, refl, ap, sym, ◌∙◌}
use Rattle.std.specs.declared.cmp.Ordering.{Ordering}
use Rattle.std.specs.declared.cmp.Ordering.TheVariants.{Less, Greater}
use Rattle.std.specs.Cmp.{unsigned_ties, tied_itself}
use Rattle.std.specs.Ordering.{nat_cmp, is_eq, is_lt, is_gt}
use Rattle.std.specs.Prelude.{nat_eq, Option}
use Rattle.std.specs.List.{cons_option}
use Rattle.std.proofs.lemmas.Cmp.{nat_cmp_total}
use Rattle.std.proofs.lemmas.List.Elements.{All-append, All-head, All-tail, AllWithin-from_all}
use Rattle.wm_desc.specs.Sorted.{added, removed}
use Rattle.wm_desc.proofs.Places.{find-none, filter-none}
use Rattle.wm_ordered.specs.Ordered.{key_of, value_at, with_value, first_above}
use Rattle.wm_ordered.specs.Tree.{IsCut}
use Rattle.wm_ordered.proofs.Cuts.{added-cut}
use Rattle.wm_ordered.proofs.Tested.{all_same, find-here, filter-here, map-here}

-- the serials of the pairs on the left are below a serial, and those on the right above it
pub record Around {V : Type 0} (k : ℕ) (l r : List (ℕ × V)) : Type 0 where
  pub low : All (λ x. nat_cmp x.0 k ≡ Less) l
  pub high : All (λ x. nat_cmp x.0 k ≡ Greater) r

itself : (k : ℕ) → nat_eq k k ≡ true
itself k = unsigned_ties k k ∙ ap is_eq (tied_itself nat_cmp_total k)

module _ {V : Type 0} (k : ℕ) where
  abbrev has : ℕ × V → Bool
  has x = nat_eq x.0 k

  apart : (o : Ordering) → is_eq o ≡ false → (xs : List (ℕ × V)) → All (λ x. nat_cmp x.0 k ≡ o) xs → All (λ x. has x ≡ false) xs
  apart o differs xs all j d lt = unsigned_ties _ _ ∙ (ap is_eq (all j d lt) ∙ differs)

  none_above : (xs : List (ℕ × V)) → All (λ x. nat_cmp x.0 k ≡ Less) xs → All (λ x. is_gt (nat_cmp x.0 k) ≡ false) xs
  none_above xs all j d lt = ap is_gt (all j d lt)

  first_right : (r : List (ℕ × V)) → All (λ x. nat_cmp x.0 k ≡ Greater) r → first_above nat_cmp k r ≡ slice_get r 0
  first_right [] all = refl
  first_right (x ∷ r) all = rw (All-head (λ (x : ℕ × V). nat_cmp x.0 k ≡ Greater) x r all) refl

  past : (l r : List (ℕ × V)) → All (λ x. is_gt (nat_cmp x.0 k) ≡ false) l → first_above nat_cmp k (l ++ r) ≡ first_above nat_cmp k r
  past [] r all = refl
  past (x ∷ l) r all = rw (All-head (λ (x : ℕ × V). is_gt (nat_cmp x.0 k) ≡ false) x l all) (past l r (All-tail (λ (x : ℕ × V). is_gt (nat_cmp x.0 k) ≡ false) x l all))

  module _ (l r : List (ℕ × V)) (around : Around k l r) where
    left : All (λ x. has x ≡ false) l
    left = apart Less refl l around.low

    right : All (λ x. has x ≡ false) r
    right = apart Greater refl r around.high

    neither : All (λ x. has x ≡ false) (l ++ r)
    neither = All-append (λ (x : ℕ × V). has x ≡ false) l r left right

    pub value-here : (v : V) → value_at nat_eq k (l ++ (k, v) ∷ r) ≡ Some v
    value-here v = ap (option_map (λ pair. pair.1)) (find-here has l (k, v) r left (itself k))

    pub value-none : value_at nat_eq k (l ++ r) ≡ None
    value-none = ap (option_map (λ pair. pair.1)) (find-none has (l ++ r) (AllWithin-from_all (λ (x : ℕ × V). has x ≡ false) (l ++ r) neither))

    -- where the serial may have a value
    pub value-one : (o : Option V) → value_at nat_eq k (l ++ cons_option (option_map (λ v. (k, v)) o) r) ≡ o
    value-one None = value-none
    value-one (Some v) = value-here v

    pub removed-here : (v : V) → removed key_of nat_eq k (l ++ (k, v) ∷ r) ≡ l ++ r
    removed-here v = filter-here has l (k, v) r left (itself k) right

    pub removed-none : removed key_of nat_eq k (l ++ r) ≡ l ++ r
    removed-none = filter-none has (l ++ r) (AllWithin-from_all (λ (x : ℕ × V). has x ≡ false) (l ++ r) neither)

    pub set-here : (v w : V) → with_value nat_eq k w (l ++ (k, v) ∷ r) ≡ l ++ (k, w) ∷ r
    set-here v w = map-here has (λ x. (x.0, w)) l (k, v) r left (itself k) right

    pub set-none : (w : V) → with_value nat_eq k w (l ++ r) ≡ l ++ r
    set-none w = all_same has (λ x. (x.0, w)) (l ++ r) neither

    cut : IsCut nat_cmp k (l ++ r) l r
    cut = record {
      whole = refl;
      below = λ j d lt. ap is_lt (around.low j d lt);
      rest = λ j d lt. ap is_lt (around.high j d lt);
    }

    pub added-here : (v : V) → added key_of nat_cmp (k, v) (l ++ r) ≡ l ++ (k, v) ∷ r
    added-here v = sym (added-cut nat_cmp (k, v) (l ++ r) l r cut)

    pub above-gap : first_above nat_cmp k (l ++ r) ≡ slice_get r 0
    above-gap = past l r (none_above l around.low) ∙ first_right r around.high

    pub above-here : (v : V) → first_above nat_cmp k (l ++ (k, v) ∷ r) ≡ slice_get r 0
    above-here v =
        let equal : is_gt (nat_cmp k k) ≡ false = ap is_gt (tied_itself nat_cmp_total k) in
        past l ((k, v) ∷ r) (none_above l around.low) ∙ rw equal (first_right r around.high)
