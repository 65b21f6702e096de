-- What a contract sees of an ordered map.
use Rattle.std.specs.Prelude.{ℕ, Bool, not, List, map, find, Option, option_map, if◌then◌else◌}
use Rattle.std.specs.Ordering.{is_lt, is_gt}
use Rattle.std.specs.declared.cmp.Ordering.{Ordering}
use Rattle.wm_desc.specs.Sorted.{with_key}

-- the pairs in ascending order of their keys, each key once, and for how many more pairs there is room
pub record Pairs (K V : Type 0) : Type 0 where
  pub items : List (K × V)
  pub spare : ℕ

-- what pairs are sorted by
abbrev pub key_of : {K V : Type 0} → K × V → K
key_of pair = pair.0

-- the value of a key, where it has one
abbrev pub value_at : {K V : Type 0} → (K → K → Bool) → K → List (K × V) → Option V
value_at eq key items = option_map (λ pair. pair.1) (with_key key_of eq key items)

-- the pairs, with another value at a key
abbrev pub with_value : {K V : Type 0} → (K → K → Bool) → K → V → List (K × V) → List (K × V)
with_value eq key value items = map (λ pair. if eq pair.0 key then (pair.0, value) else pair) items

-- the first pair whose key isn't below a key
abbrev pub first_from : {K V : Type 0} → (K → K → Ordering) → K → List (K × V) → Option (K × V)
first_from cmp key items = find (λ pair. not (is_lt (cmp pair.0 key))) items

-- the first pair whose key is above a key
abbrev pub first_above : {K V : Type 0} → (K → K → Ordering) → K → List (K × V) → Option (K × V)
first_above cmp key items = find (λ pair. is_gt (cmp pair.0 key)) items
