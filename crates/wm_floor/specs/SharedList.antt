-- A list in parts, as a contract sees it, and what holds of the parts.
use Rattle.std.specs.Prelude.{◌≡◌, ◌++◌, ◌^◌, ◌≤◌, ℕ, List, length}
use Rattle.std.specs.List.{flat_map, All}
use Rattle.wm_floor.specs.declared.shared_list.TheConstants.{PART}

-- the values, and for how many more there is room
pub record Listed (T : Type 0) : Type 0 where
  pub items : List T
  pub room : ℕ

-- each full part has as many values as a part takes, and the last one no more; the number of all fits
pub record AreParts {V T : Type 0} (items : V → List T) (full : List V) (last : List T) : Type 0 where
  pub each : All (λ part. length (items part) ≡ PART) full
  pub within : length last ≤ PART
  pub most : length (flat_map items full ++ last) ≤ 2 ^ 32
