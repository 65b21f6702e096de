use Rattle.std.proofs.Common.{◌≡◌, ◌∙◌, ◌==◌, Bool, true, Some, find, ap, sym}
use Rattle.std.specs.Option.{option_copied}
use Rattle.wm_base.specs.declared.job.EndCause.{EndCause}
use Rattle.wm_law.specs.declared.job.Job.{Job}
use Rattle.wm_law.specs.declared.job.Phase.TheVariants.{Ended}
use Rattle.wm_law.specs.Reports.{end_cause, is_run_by, is_unused}
use Rattle.wm_law.specs.Stepped.{Stepped}
use Rattle.wm_core.specs.MachineInside.{Seen}
use Rattle.wm_core.specs.Moved.{moved_on}
use Rattle.wm_core.proofs.Reported.{reported}
use Rattle.wm_core.proofs.machine.Machine.report_finished.Goals as goal

pub returns-clause-state : goal.returns-clause-state
returns-clause-state c =
    let s = c.args.self.now.state in
    let m = c.args.monitor in
    let serial = c.args.serial in
    let end = c.args.exit.now in
    let job : Job = c.in-Some.job.now in
    let found : find (λ (j : Job). j.serial == serial) s.jobs ≡ Some job =
    ap (λ (t : Seen). find (λ (j : Job). j.serial == serial) t.state.jobs) (sym c.self.view_is) ∙ (sym c.job.ensures.found ∙ ap option_copied c.in-Some.is) in
    let runs : is_run_by m job.phase ≡ true = sym c.is_run_by.ensures ∙ c.if-not-is_run_by.false in
    c.in_ok-move_on.ensures.ok
    ∙ (ap (λ (e : EndCause). moved_on s serial (Ended e) job.how c.is_unused-stops.result) c.end_cause-cause.ensures
    ∙ (ap (λ (b : Bool). moved_on s serial (Ended (end_cause end job.wish)) job.how b) c.is_unused-stops.ensures
    ∙ sym (ap (λ (t : Stepped). t.state) (reported s serial (is_run_by m) (λ j. Ended (end_cause end j.wish)) is_unused job found runs))))
