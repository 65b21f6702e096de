use Rattle.std.proofs.Common.{◌<◌, sym, ap, subst, ◌∙◌}
use Rattle.wm_law.specs.declared.state.State.{State}
use Rattle.wm_law.specs.Settling.{waiting, start_jobs}
use Rattle.wm_law.proofs.Settling.{launches_lessen, start_jobs-launch, start_jobs-none}
use Rattle.wm_core.proofs.machine.Machine.start_jobs.Goals as goal

pub loop-candidate-smaller : goal.loop-candidate-smaller
loop-candidate-smaller g c =
    let s = c.loop-candidate.self.state in
    let e = sym c.next.ensures ∙ c.in-Some.is in
    subst (λ (t : State). waiting t < waiting s) (sym c.launch.ensures.state) (launches_lessen.by_step s c.in-Some.candidate e)

pub loop-candidate-preserved : goal.loop-candidate-preserved
loop-candidate-preserved g c =
    let e = sym c.next.ensures ∙ c.in-Some.is in
    record {
      state = ap start_jobs c.launch.ensures.state ∙ (sym (start_jobs-launch c.loop-candidate.self.state c.in-Some.candidate e) ∙ c.loop-candidate.invariant.state);
      marks = c.launch.ensures.marks ∙ c.loop-candidate.invariant.marks;
    }

pub returns-clause-state : goal.returns-clause-state
returns-clause-state g c = sym (start_jobs-none c.loop-candidate.self.state (sym c.next.ensures ∙ c.in_default.is)) ∙ c.loop-candidate.invariant.state
