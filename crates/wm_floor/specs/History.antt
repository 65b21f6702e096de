-- The history of a machine, and what a call adds to it.
use Rattle.std.specs.Prelude.{ℕ, List, [], ◌∷◌, ◌++◌}
use Rattle.wm_law.specs.declared.call.Call.{Call}
use Rattle.wm_law.specs.declared.call.Entry.{Entry}
use Rattle.wm_law.specs.declared.state.State.{State}
use Rattle.wm_law.specs.History.{after}
use Rattle.wm_law.specs.Machine.{step}

-- the state that a machine was opened with, and the entries of its calls
pub record History : Type 0 where
  pub opened : State
  pub log : List Entry

-- the state that the calls reach
abbrev pub reached : History → State
reached h = after h.opened h.log

-- the entry of a call behind a history: its reply is the machine's
abbrev pub entry_at : History → ℕ → Call → ℕ → Entry
entry_at h caller call now = record { caller = caller; call = call; moment = now; reply = (step (reached h) caller call now).reply }

-- the history with that entry at its end
abbrev pub with_call : History → ℕ → Call → ℕ → History
with_call h caller call now = record { opened = h.opened; log = h.log ++ entry_at h caller call now ∷ [] }
