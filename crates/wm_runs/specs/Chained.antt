-- What runs over one store come to for its rows.
use Rattle.std.specs.Prelude.{◌≡◌, ℕ, ℤ, List, [], ◌∷◌, map, Option, Some, IfSome}
use Rattle.std.specs.List.{flat_map}
use Rattle.wm_tables.specs.Chain.{IsChain, Run}
use Rattle.wm_law.specs.Kept.{starts}
use Rattle.wm_law.specs.Laws.{IsIn}
use Rattle.wm_run.specs.declared.whole_run.Ran.{Ran}
use Rattle.wm_traits.specs.declared.row.Row.{Row}

-- the serials that all these runs ordered to start
abbrev pub started : List Ran → List ℕ
started rans = flat_map (λ r. starts r.log) rans

-- the rows that the last of some runs has left
abbrev pub last_left : List Row → List Run → List Row
last_left found [] = found
last_left found (r ∷ runs) = last_left r.left runs

-- the runs with these histories follow one another, from the rows that the first one found to those that the last one left
pub record AreChained (offset : ℤ) (found left : List Row) (rans : List Ran) : Type 0 where
  pub runs : List Run
  pub chain : IsChain found runs
  pub logs : map (λ r. r.log) runs ≡ map (λ r. r.log) rans
  pub offsets : (r : Run) → IsIn r runs → r.offset ≡ offset
  pub leaves : last_left found runs ≡ left

-- so they do where the rows are told to the end
abbrev pub HasChain : ℤ → Option (List Row) → Option (List Row) → List Ran → Type 0
HasChain offset old new rans = IfSome new (λ left. (found : List Row) × (old ≡ Some found) × AreChained offset found left rans)
