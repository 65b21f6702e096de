-- How many calls of a keeper of the tests have failed.
use Rattle.std.specs.Prelude.{ℕ, Option, Some, None}
use Rattle.wm_sqlkeep.specs.declared.opened.OpenedKeeper.{OpenedKeeper}
use Rattle.wm_sqlkeep.specs.Opened.{opened_faults}

-- those of its file, where it has one
abbrev pub file_faults : Option OpenedKeeper → ℕ
file_faults (Some keeper) = opened_faults keeper
file_faults None = 0
