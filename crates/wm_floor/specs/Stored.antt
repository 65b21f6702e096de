-- A machine with its keeper, and how the two stand in step.
use Rattle.std.specs.Prelude.{◌≡◌, List, Option, IfSome}
use Rattle.wm_traits.specs.declared.row.Row.{Row}
use Rattle.wm_law.specs.Sound.{IsSound}
use Rattle.wm_law.specs.declared.state.State.{State}
use Rattle.wm_tables.specs.Ranges.{IsInRange}
use Rattle.wm_tables.specs.Tables.{tables}

-- the state of the machine, and the keeper of its rows
pub record Stored (K : Type 0) : Type 0 where
  pub state : State
  pub keeper : K

-- where they are told, the tables are those of the state
abbrev pub HasTables : State → Option (List Row) → Type 0
HasTables s told = IfSome told (λ rows. rows ≡ tables s)

-- the state is sound and in range, and its tables are kept
pub record IsInStep (s : State) (told : Option (List Row)) : Type 0 where
  pub sound : IsSound s
  pub range : IsInRange s
  pub tables : HasTables s told
