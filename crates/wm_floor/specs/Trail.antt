-- Which tables a history has had.
use Rattle.std.specs.Prelude.{List, [], ◌∷◌, ◌++◌, IfSome}
use Rattle.wm_traits.specs.declared.row.Row.{Row}
use Rattle.wm_traits.specs.Told.{Grows}
use Rattle.wm_law.specs.declared.call.Entry.{Entry}
use Rattle.wm_law.specs.declared.state.State.{State}
use Rattle.wm_law.specs.History.{stepped}
use Rattle.wm_tables.specs.Tables.{tables}
use Rattle.wm_floor.specs.Keeping.{added, Telling}
use Rattle.wm_floor.specs.History.{History}

-- the tables of a state, and those after each entry
abbrev pub tables_along : State → List Entry → List (List Row)
tables_along s [] = tables s ∷ []
tables_along s (e ∷ es) = tables s ∷ tables_along (stepped s e).state es

-- of tables behind one, those that aren't the same as the one right before them
abbrev pub without_repeats : List Row → List (List Row) → List (List Row)
without_repeats before [] = []
without_repeats before (after ∷ later) = added before after ++ without_repeats after later

-- where tables were told as the history opened, the trail has those of the opened state and of each entry behind them, without repeats
abbrev pub HasTrail : History → Telling → Telling → Type 0
HasTrail h found now = IfSome found.tables (λ rows. Grows found.trail now.trail (without_repeats rows (tables_along h.opened h.log)))
