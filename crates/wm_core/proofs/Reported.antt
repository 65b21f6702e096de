-- A report that moves the job of a serial on.
use Rattle.std.proofs.Common.{◌≡◌, ◌∙◌, ◌==◌, ℕ, Bool, true, cond, Some, ap}
use Rattle.std.specs.List.{find}
use Rattle.wm_base.specs.declared.refusal.Refusal.TheVariants.{WrongPhase}
use Rattle.wm_law.specs.declared.call.Reply.TheVariants.{Noted}
use Rattle.wm_law.specs.declared.job.Job.{Job}
use Rattle.wm_law.specs.declared.job.Phase.{Phase}
use Rattle.wm_law.specs.declared.state.State.{State}
use Rattle.wm_law.specs.Reports.{phase_word, report, report_on}
use Rattle.wm_law.specs.Stepped.{refused}
use Rattle.wm_core.specs.Moved.{moved_on}

-- where the job of the serial passes the test, the state is the one in which it has moved on
pub reported : (s : State) (serial : ℕ) (test : Phase → Bool) (phase : Job → Phase) (stops : Job → Bool) (j : Job) → find (λ i. i.serial == serial) s.jobs ≡ Some j → test j.phase ≡ true
    → report s serial test phase stops ≡ record { reply = Noted; state = moved_on s serial (phase j) j.how (stops j) }
reported s serial test phase stops j found passes =
    ap (report_on s serial test phase stops) found
    ∙ ap (λ (t : Bool). cond t (record { reply = Noted; state = moved_on s serial (phase j) j.how (stops j) }) (refused s (WrongPhase (phase_word j.phase)))) passes
