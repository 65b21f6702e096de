-- What is known of a step whose rows are to be kept.
use Rattle.std.specs.Prelude.{◌≡◌, ℕ, Option}
use Rattle.wm_law.specs.Stepped.{Stepped}
use Rattle.wm_law.specs.declared.call.Call.{Call}
use Rattle.wm_law.specs.declared.call.Reply.{Reply}
use Rattle.wm_law.specs.declared.state.State.{State}
use Rattle.wm_tables.specs.Changes.{counts_of, removed_number, AreKept}
use Rattle.wm_core.specs.LastStep.{LastStep}
use Rattle.wm_tables.specs.declared.counts.Counts.{Counts}

-- the machine made this step last; its reply, the number of a removed entry, and the counters before it
pub record IsLastStep (s : State) (call : Call) (t : Stepped) (core : LastStep) (answer : Reply) (number : Option ℕ) (old : Counts) : Type 0 where
  pub reply : answer ≡ t.reply
  pub before : core.before ≡ s
  pub state : core.state ≡ t.state
  pub removed : number ≡ removed_number s.objects call
  pub counts : old ≡ counts_of s
  pub was : AreKept s
  pub is : AreKept t.state
