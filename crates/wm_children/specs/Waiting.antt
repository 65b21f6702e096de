-- Waits until a moment.
use Rattle.std.specs.Prelude.{ℕ, ◌-◌, ◌*◌, ◌≤◌, min, Option, Some, None, ⊤}
use Rattle.std.specs.Duration.{as_nanos}
use Rattle.wm_traits.specs.Cause.{raised}
use Rattle.wm_children.specs.declared.finished.Finished.{Finished}
use Rattle.wm_children.specs.declared.reading.Reading.{Reading}
use Rattle.wm_children.specs.declared.reading.TheConstants.{LONGEST_SLEEP}
use Rattle.wm_children.specs.declared.ends.Waited.{Waited}
use Rattle.wm_children.specs.declared.ends.Waited.TheVariants.{Came, Passed, Rung, Gone}

-- so many seconds in nanoseconds
abbrev pub nanos_of : ℕ → ℕ
nanos_of seconds = seconds * 1_000_000_000

-- the moment has come, by this reading of a clock
abbrev pub HasCome : Reading → ℕ → Type 0
HasCome reading moment = nanos_of moment ≤ as_nanos reading.time

-- what is left until the moment, but at most the longest sleep
abbrev pub nanos_to_sleep : Reading → ℕ → ℕ
nanos_to_sleep reading moment = min (nanos_of moment - as_nanos reading.time) (nanos_of LONGEST_SLEEP)

-- a wait has passed only where its moment has come, by the reading that it tells
abbrev pub PassesAt : ℕ → Waited → Type 0
PassesAt moment (Passed reading) = HasCome reading moment
PassesAt moment (Came finished) = ⊤
PassesAt moment (Rung ring) = ⊤
PassesAt moment Gone = ⊤

-- a wait came to a ring
abbrev pub IsRung : Waited → Type 0
IsRung (Came finished) = ⊥
IsRung (Passed reading) = ⊥
IsRung (Rung ring) = ⊤
IsRung Gone = ⊥

-- the ends that came, once a look has found this
abbrev pub came_with : Option Finished → ℕ → ℕ
came_with (Some finished) came = raised came
came_with None came = came

-- the same once a wait came to this
abbrev pub came_by : Waited → ℕ → ℕ
came_by (Came finished) came = raised came
came_by (Passed reading) came = came
came_by (Rung ring) came = came
came_by Gone came = came
