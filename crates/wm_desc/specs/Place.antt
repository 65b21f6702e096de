-- Where a key stands in a sorted list.
use Rattle.std.specs.Prelude.{◌≡◌, ℕ, suc, ◌<◌, ◌≤◌, List, length}
use Rattle.std.specs.List.{AllWithin, HoldsAt}
use Rattle.std.specs.declared.cmp.Ordering.{Ordering}
use Rattle.std.specs.declared.cmp.Ordering.TheVariants.{Less, Equal, Greater}

-- the key stands at place i: lesser ones before it, and greater ones after it
pub record IsAt {E K : Type 0} (key : E → K) (cmp : K → K → Ordering) (k : K) (xs : List E) (i : ℕ) : Type 0 where
  pub in_range : i < length xs
  pub before : AllWithin (λ x. cmp (key x) k ≡ Less) xs 0 i
  pub here : HoldsAt (λ x. cmp (key x) k ≡ Equal) xs i
  pub after : AllWithin (λ x. cmp (key x) k ≡ Greater) xs (suc i) (length xs)

-- the key doesn't stand in the list, and would stand at place i
pub record IsGap {E K : Type 0} (key : E → K) (cmp : K → K → Ordering) (k : K) (xs : List E) (i : ℕ) : Type 0 where
  pub in_range : i ≤ length xs
  pub before : AllWithin (λ x. cmp (key x) k ≡ Less) xs 0 i
  pub after : AllWithin (λ x. cmp (key x) k ≡ Greater) xs i (length xs)
