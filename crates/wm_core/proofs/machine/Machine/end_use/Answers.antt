use Rattle.std.proofs.Common.{◌≡◌, ◌∙◌, Result, Ok, true, refl, ap, sym}
use Rattle.wm_base.specs.declared.refusal.Refusal.{Refusal}
use Rattle.wm_law.specs.declared.call.Reply.TheVariants.{UseEnded}
use Rattle.wm_law.specs.declared.job.Job.{Job}
use Rattle.wm_law.specs.Named.{job_named}
use Rattle.wm_law.specs.Prestart.{is_running}
use Rattle.wm_law.specs.Stepped.{Stepped}
use Rattle.wm_law.specs.Uses.{end_use_found}
use Rattle.wm_core.specs.MachineInside.{Seen}
use Rattle.wm_core.proofs.Done.{use_is_done}
use Rattle.wm_core.proofs.machine.Machine.end_use.Goals as goal

pub returns-clause-state : goal.returns-clause-state
returns-clause-state c =
    let s = c.args.self.now.state in
    let j : Job = c.in-Ok.job.now in
    let named : job_named s c.args.command.now.job ≡ Ok j = ap (λ (t : Seen). job_named t.state c.args.command.now.job) (sym c.self.view_is) ∙ c.in-Ok.ensures in
    let runs : is_running j.phase ≡ true = sym c.is_running.ensures ∙ c.if-not-is_running.false in
    c.in_ok-end_use_of.ensures.ok j refl refl
    ∙ sym (ap (λ (r : Result Job Refusal). (end_use_found s r).state) named ∙ ap (λ (t : Stepped). t.state) (use_is_done s is_running (UseEnded j.job) j runs c.if-not-job.false))
