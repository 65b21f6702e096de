-- The next moment that Pending tells: the soonest above the clock of those that it looks at.
use Rattle.std.specs.Prelude.{◌≡◌, ℕ, ◌<◌, ◌≤◌, ◌⊎◌, true, Option, Some, None}
use Rattle.wm_law.specs.declared.job.Job.{Job}
use Rattle.wm_law.specs.declared.state.State.{State}
use Rattle.wm_law.specs.declared.state.Sbs.{Sbs}
use Rattle.wm_law.specs.Counts.{is_waiting}
use Rattle.wm_law.specs.Laws.{IsIn}
use Rattle.wm_law.specs.Pending.{active_moment, next_moment}
use Rattle.wm_law.specs.Settling.{sbs_moment}

-- at the moment a Waiting job is due, held or not
abbrev pub IsDueThen : State → ℕ → Type 0
IsDueThen s moment = (j : Job) × IsIn j s.jobs × (is_waiting j.phase ≡ true) × (j.due ≡ moment)

-- at the moment an active job is to end by its wish
abbrev pub IsWishedThen : State → ℕ → Type 0
IsWishedThen s moment = (j : Job) × IsIn j s.jobs × (active_moment j ≡ Some moment)

-- at the moment an ending subsystem is to end
abbrev pub EndsThen : State → ℕ → Type 0
EndsThen s moment = (b : Sbs) × IsIn b s.started × (sbs_moment b.phase ≡ Some moment)

-- a moment that is looked at: it is above the clock, and one of these three
abbrev pub IsLookedAt : State → ℕ → Type 0
IsLookedAt s moment = (s.clock < moment) × ((IsDueThen s moment ⊎ IsWishedThen s moment) ⊎ EndsThen s moment)

-- the soonest of the moments that have a property, or that none has it
abbrev pub IsSoonest : (ℕ → Type 0) → Option ℕ → Type 0
IsSoonest Has None = (moment : ℕ) → Has moment → ⊥
IsSoonest Has (Some least) = Has least × ((moment : ℕ) → Has moment → least ≤ moment)

-- the next moment is the soonest that is looked at, and there is none only where none is
abbrev pub NextMomentIsSoonest : Type 0
NextMomentIsSoonest = (s : State) → IsSoonest (IsLookedAt s) (next_moment s)
