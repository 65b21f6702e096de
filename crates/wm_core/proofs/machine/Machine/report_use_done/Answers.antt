use Rattle.std.proofs.Common.{◌≡◌, ◌∙◌, ◌==◌, Option, Some, find, true, refl, ap, sym}
use Rattle.std.specs.Option.{option_copied}
use Rattle.wm_law.specs.declared.call.Reply.TheVariants.{Noted}
use Rattle.wm_law.specs.declared.job.Job.{Job}
use Rattle.wm_law.specs.Reports.{is_run_by}
use Rattle.wm_law.specs.Stepped.{Stepped}
use Rattle.wm_law.specs.Uses.{use_done_on}
use Rattle.wm_core.specs.MachineInside.{Seen}
use Rattle.wm_law.proofs.Members.{found_among}
use Rattle.wm_core.proofs.Done.{same_serial, use_is_done}
use Rattle.wm_core.proofs.machine.Machine.report_use_done.Goals as goal

pub returns-clause-state : goal.returns-clause-state
returns-clause-state c =
    let s = c.args.self.now.state in
    let m = c.args.monitor in
    let serial = c.args.serial in
    let j : Job = c.in-Some.job.now in
    let found : find (λ (i : Job). i.serial == serial) s.jobs ≡ Some j =
    ap (λ (t : Seen). find (λ (i : Job). i.serial == serial) t.state.jobs) (sym c.self.view_is) ∙ (sym c.job.ensures.found ∙ ap option_copied c.in-Some.is) in
    let runs : is_run_by m j.phase ≡ true = sym c.is_run_by.ensures ∙ c.if-not-is_run_by.false in
    c.in_ok-end_use_of.ensures.ok j (same_serial j.serial serial (found_among (λ (i : Job). i.serial == serial) s.jobs j found).1) refl
    ∙ sym (ap (λ (o : Option Job). (use_done_on s m o).state) found ∙ ap (λ (t : Stepped). t.state) (use_is_done s (is_run_by m) Noted j runs c.if-not-job.false))
