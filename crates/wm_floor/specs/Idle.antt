-- No entry is idle: where others call too, a monitor calls Hand and Tick where there was something to do.
use Rattle.std.specs.Prelude.{◌≡◌, ◌⊎◌, ℕ, ◌≤◌, ◌==◌, ⊤, List, [], ◌∷◌, Some, if◌then◌else◌}
use Rattle.wm_law.specs.declared.call.Call.{Call}
use Rattle.wm_law.specs.declared.call.Call.TheVariants.{Change, Hand, Started, StartFailed, Finished, UseDone, Tick}
use Rattle.wm_law.specs.declared.call.Entry.{Entry}
use Rattle.wm_law.specs.declared.state.State.{State}
use Rattle.wm_law.specs.History.{stepped}
use Rattle.wm_law.specs.Pending.{next_moment, orders_left}

-- the pass of a run's monitor
abbrev pub monitor_pass : ℕ
monitor_pass = 1

-- something was due above the clock, and by the moment
pub record IsDueBy (s : State) (moment : ℕ) : Type 0 where
  pub due : ℕ
  pub next : next_moment s ≡ Some due
  pub passed : due ≤ moment

-- a Hand is called for where there is an order for the monitor of this number, a Tick where something is due by its moment
abbrev pub IsCalledFor : ℕ → State → ℕ → Call → Type 0
IsCalledFor m s moment (Change user c) = ⊤
IsCalledFor m s moment Hand = 1 ≤ orders_left s m
IsCalledFor m s moment (Started serial) = ⊤
IsCalledFor m s moment (StartFailed serial why) = ⊤
IsCalledFor m s moment (Finished serial end) = ⊤
IsCalledFor m s moment (UseDone serial) = ⊤
IsCalledFor m s moment Tick = IsDueBy s moment

-- it was called for in one of these states
abbrev pub WasCalledFor : ℕ → List State → ℕ → Call → Type 0
WasCalledFor m [] moment call = ⊥
WasCalledFor m (s ∷ range) moment call = IsCalledFor m s moment call ⊎ WasCalledFor m range moment call

-- the range behind an entry: an entry of the monitor's own begins a new one
abbrev pub range_behind : ℕ → Entry → List State → List State
range_behind m e range = if e.caller == m then [] else range

-- each entry of the monitor, among these, was called for in a state of its range: the states behind its own entry before, at the earliest those that are given, up to the one just before it
abbrev pub NoneIsIdle : ℕ → List State → State → List Entry → Type 0
NoneIsIdle m range s [] = ⊤
NoneIsIdle m range s (e ∷ es) =
    (e.caller ≡ m → WasCalledFor m (s ∷ range) e.moment e.call) × NoneIsIdle m (range_behind m e (s ∷ range)) (stepped s e).state es
