-- What a report says.
use Rattle.std.specs.Prelude.{◌≡◌, ◌⊎◌, ⊤, ℕ, true, List, Contains, remove, slice_get, Option, Some, None, Result, Ok, Err}
use Rattle.wm_base.specs.declared.job.Event.{Event}
use Rattle.wm_base.specs.declared.job.Event.TheVariants.{Ended, Used}
use Rattle.wm_traits.specs.Cause.{raised}
use Rattle.wm_traits.specs.declared.fault.Failed.{Failed}
use Rattle.wm_children.specs.declared.finished.Finished.{Finished}
use Rattle.wm_children.specs.declared.spawner.SysSpawner.{SysSpawner}
use Rattle.wm_children.specs.Children.{children_out, has_lost, last_end}
use Rattle.wm_children.specs.Programs.{HasEnded}

-- the event is the end of this child: its serial, and how std told that it ended
abbrev pub IsEndOf : Finished → Event → Type 0
IsEndOf finished (Ended serial exit) = (serial ≡ finished.running.serial) × HasEnded finished.running exit
IsEndOf finished (Used serial) = ⊥

-- what is reported is the end of this child
abbrev pub TellsEndOf : Option Finished → Result (Option Event) Failed → Type 0
TellsEndOf (Some finished) (Ok (Some event)) = IsEndOf finished event
TellsEndOf None (Ok (Some event)) = ⊥
TellsEndOf last (Ok None) = ⊤
TellsEndOf last (Err failed) = ⊤

-- each end that came is reported: one came where one is reported, and none where nothing is
abbrev pub ReportsEach : Result (Option Event) Failed → ℕ → ℕ → Type 0
ReportsEach (Ok (Some event)) old new = new ≡ raised old
ReportsEach (Ok None) old new = new ≡ old
ReportsEach (Err failed) old new = ⊤

-- after a look one who was out isn't any more, where its end was reported; else nobody left
abbrev pub GivesUp : Result (Option Event) Failed → List ℕ → List ℕ → Type 0
GivesUp (Ok (Some (Ended serial exit))) old new = (k : ℕ) × (slice_get old k ≡ Some serial) × (new ≡ remove old k)
GivesUp (Ok (Some (Used serial))) old new = ⊥
GivesUp (Ok None) old new = new ≡ old
GivesUp (Err failed) old new = new ≡ old

-- a child has ended that isn't among these
abbrev pub IsNotOut : Option Finished → List ℕ → Type 0
IsNotOut (Some finished) out = Contains out finished.running.serial → ⊥
IsNotOut None out = ⊥

-- why an end can't be reported: that of a child is lost, or it is the end of one that isn't out
abbrev pub CannotReport : {R : Type 0} → SysSpawner R → SysSpawner R → Type 0
CannotReport old new = (has_lost new ≡ true) ⊎ IsNotOut (last_end new) (children_out old)
