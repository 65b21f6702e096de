-- What a call comes to.
use Rattle.wm_base.specs.declared.refusal.Refusal.{Refusal}
use Rattle.wm_law.specs.declared.call.Reply.{Reply}
use Rattle.wm_law.specs.declared.call.Reply.TheVariants.{No}
use Rattle.wm_law.specs.declared.state.State.{State}

-- a reply, and the state after it
pub record Stepped : Type 0 where
  pub reply : Reply
  pub state : State

-- a refusal leaves the state
abbrev pub refused : State → Refusal → Stepped
refused s x = record { reply = No x; state = s }
