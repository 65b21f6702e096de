-- What is seen of the spawner.
use Rattle.std.specs.Prelude.{◌≡◌, ◌⊎◌, ℕ, ◌≤◌, Bool, true, List, length, Option, is_some}
use Rattle.wm_traits.specs.Cause.{raised}
use Rattle.wm_children.specs.declared.finished.Finished.{Finished}
use Rattle.wm_children.specs.declared.reading.Reading.{Reading}
use Rattle.wm_children.specs.declared.spawner.SysSpawner.{SysSpawner}
use Rattle.wm_children.specs.declared.waiters.TheConstants.{MOST_CHILDREN}
use Rattle.wm_children.specs.Programs.{serials_of}
use Rattle.wm_children.specs.Waiting.{HasCome}

-- the children that are out, the longest out first
abbrev pub children_out : {R : Type 0} → SysSpawner R → List ℕ
children_out s = serials_of s.children.items

-- the starts that failed
abbrev pub child_misses : {R : Type 0} → SysSpawner R → ℕ
child_misses s = s.misses

-- the other calls that failed
abbrev pub child_faults : {R : Type 0} → SysSpawner R → ℕ
child_faults s = s.faults

-- how often the channel of the ends was looked at
abbrev pub child_looks : {R : Type 0} → SysSpawner R → ℕ
child_looks s = s.ends.looks

-- the ends that came over it
abbrev pub ends_came : {R : Type 0} → SysSpawner R → ℕ
ends_came s = s.ends.came

-- the rings that were heard, each by a wait that it ended
abbrev pub rings_heard : {R : Type 0} → SysSpawner R → ℕ
rings_heard s = s.ends.heard

-- whether a ring was met that no wait has heard yet
abbrev pub keeps_ring : {R : Type 0} → SysSpawner R → Bool
keeps_ring s = is_some s.ends.met

-- whether the end of a child is lost
abbrev pub has_lost : {R : Type 0} → SysSpawner R → Bool
has_lost s = s.lost

-- the child whose end was reported last, as it came over the channel
abbrev pub last_end : {R : Type 0} → SysSpawner R → Option Finished
last_end s = s.last

-- the clock as the last wait read it that gave up
abbrev pub last_reading : {R : Type 0} → SysSpawner R → Reading
last_reading s = s.reading

-- how often std was asked to start a program, and how often that failed
abbrev pub programs_asked : {R : Type 0} → SysSpawner R → ℕ
programs_asked s = s.programs.asked

abbrev pub programs_failed : {R : Type 0} → SysSpawner R → ℕ
programs_failed s = s.programs.failed

-- the threads that wait for children, how often one could not be made, and the children that they were handed
abbrev pub child_threads : {R : Type 0} → SysSpawner R → ℕ
child_threads s = s.waiters.hired

abbrev pub threads_refused : {R : Type 0} → SysSpawner R → ℕ
threads_refused s = s.waiters.refused

abbrev pub children_handed : {R : Type 0} → SysSpawner R → ℕ
children_handed s = s.waiters.handed

-- each child that is out has a thread that waits for it
abbrev pub HasThreads : {R : Type 0} → SysSpawner R → Type 0
HasThreads s = length (children_out s) ≤ child_threads s

-- std was asked for no program, no thread was hired, and no child was handed over
abbrev pub StartsNothing : {R : Type 0} → SysSpawner R → SysSpawner R → Type 0
StartsNothing old new = (new.programs ≡ old.programs) × (new.waiters ≡ old.waiters)

-- one program was started, and its child handed over
abbrev pub StartsOne : {R : Type 0} → SysSpawner R → SysSpawner R → Type 0
StartsOne old new = (programs_asked new ≡ raised (programs_asked old)) × (children_handed new ≡ raised (children_handed old))

-- why a start failed: so many children are out as may be, no thread could be made, or std started no program
abbrev pub CannotStart : {R : Type 0} → SysSpawner R → SysSpawner R → Type 0
CannotStart old new = (MOST_CHILDREN ≤ length (children_out old)) ⊎ ((threads_refused new ≡ raised (threads_refused old)) ⊎ (programs_failed new ≡ raised (programs_failed old)))

-- a wait until the moment may end with nothing: the moment has come by the last reading, or a ring was heard
abbrev pub MayComeBack : {R : Type 0} → SysSpawner R → SysSpawner R → ℕ → Type 0
MayComeBack old new moment = HasCome (last_reading new) moment ⊎ (rings_heard new ≡ raised (rings_heard old))

-- a ring that is kept stays kept until it is heard
abbrev pub LosesNoRing : {R : Type 0} → SysSpawner R → SysSpawner R → Type 0
LosesNoRing old new = keeps_ring old ≡ true → (keeps_ring new ≡ true) ⊎ (rings_heard new ≡ raised (rings_heard old))

-- nothing was started, looked at or waited for
abbrev pub OnlyReports : {R : Type 0} → SysSpawner R → SysSpawner R → Type 0
OnlyReports old new = StartsNothing old new × ((child_misses new ≡ child_misses old) × ((new.ends ≡ old.ends) × (last_reading new ≡ last_reading old)))
