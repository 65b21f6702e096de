-- What the calls of an opened keeper come to: in memory always so, and in a file while the disk returns what was written.
use Rattle.std.specs.Prelude.{◌≡◌, ℕ, List}
use Rattle.wm_traits.specs.declared.row.Row.{Row}
use Rattle.wm_traits.specs.declared.row.RowChange.{RowChange}
use Rattle.sqlite.specs.State.{HasCleanDisk}
use Rattle.sqlite.specs.Held.{state}
use Rattle.sqlite.specs.Steps.{over_memory}
use Rattle.sqlite.specs.Files.{over_files, file_state}
use Rattle.wm_sqlkeep.specs.declared.opened.OpenedKeeper.{OpenedKeeper}
use Rattle.wm_sqlkeep.specs.declared.opened.OpenedKeeper.TheVariants.{Memory, File}
use Rattle.wm_sqlkeep.specs.Causes.{FailsToLoad, FailsToApply}
use Rattle.wm_sqlkeep.specs.Changes.{IsAsItWas}
use Rattle.wm_sqlkeep.specs.Done.{Loads, Applies}
use Rattle.wm_sqlkeep.specs.Faults.{keeper_faults}

-- the calls that failed
abbrev pub opened_faults : OpenedKeeper → ℕ
opened_faults (Memory keeper) = keeper_faults keeper
opened_faults (File keeper) = keeper_faults keeper

-- these are all rows
abbrev pub HasLoaded : List Row → OpenedKeeper → OpenedKeeper → Type 0
HasLoaded rows (Memory old) (Memory new) = Loads over_memory old.connection new.connection rows
HasLoaded rows (File old) (File new) = HasCleanDisk (file_state new.connection) → Loads over_files old.connection new.connection rows
HasLoaded _ _ _ = ⊥

-- a load has a cause to fail
abbrev pub LoadFails : OpenedKeeper → OpenedKeeper → Type 0
LoadFails (Memory old) (Memory new) = FailsToLoad over_memory old.connection new.connection
LoadFails (File old) (File new) = HasCleanDisk (file_state new.connection) → FailsToLoad over_files old.connection new.connection
LoadFails _ _ = ⊥

-- all changes are made and committed
abbrev pub HasApplied : List RowChange → OpenedKeeper → OpenedKeeper → Type 0
HasApplied changes (Memory old) (Memory new) = Applies over_memory changes old.connection new.connection
HasApplied changes (File old) (File new) = HasCleanDisk (file_state new.connection) → Applies over_files changes old.connection new.connection
HasApplied _ _ _ = ⊥

-- an apply has a cause to fail
abbrev pub ApplyFails : List RowChange → OpenedKeeper → OpenedKeeper → Type 0
ApplyFails changes (Memory old) (Memory new) = FailsToApply over_memory changes old.connection new.connection
ApplyFails changes (File old) (File new) = HasCleanDisk (file_state new.connection) → FailsToApply over_files changes old.connection new.connection
ApplyFails _ _ _ = ⊥

-- the database is as it was: in a file, while it is open
abbrev pub HasStayed : OpenedKeeper → OpenedKeeper → Type 0
HasStayed (Memory old) (Memory new) = (state over_memory new.connection).now ≡ (state over_memory old.connection).now
HasStayed (File old) (File new) = IsAsItWas (file_state old.connection) (file_state new.connection)
HasStayed _ _ = ⊥
