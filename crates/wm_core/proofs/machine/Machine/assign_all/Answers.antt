use Rattle.std.proofs.Common.{◌<◌, length, sym, ap, subst, ◌∙◌}
use Rattle.wm_law.specs.declared.state.State.{State}
use Rattle.wm_law.specs.Prestart.{assigned}
use Rattle.wm_law.proofs.Assigned.{assigned_none, assigned_step, assigns_lessen}
use Rattle.wm_core.proofs.Assigning.{of_none, of_serial}
use Rattle.wm_core.proofs.machine.Machine.assign_all.Goals as goal

pub loop-serial-smaller : goal.loop-serial-smaller
loop-serial-smaller c =
    let s = c.loop-serial.self.state in
    let found = of_serial _ c.in-Some.serial (sym c.in-Some.is ∙ c.assign.ensures) in
    let gone = c.in_ok-assign_to.ensures.ok found.0 found.2 in
    subst (λ (t : State). length t.evokes < length s.evokes) (sym gone) ((assigns_lessen c.args.sbs.now c.args.pgm.now).by_step s found.0 found.1)

pub loop-serial-preserved : goal.loop-serial-preserved
loop-serial-preserved c =
    let s = c.loop-serial.self.state in
    let sbs = c.args.sbs.now in
    let pgm = c.args.pgm.now in
    let found = of_serial _ c.in-Some.serial (sym c.in-Some.is ∙ c.assign.ensures) in
    let gone = c.in_ok-assign_to.ensures.ok found.0 found.2 in
    record {
      left = ap (λ (t : State). assigned t sbs pgm) gone ∙ (sym (assigned_step sbs pgm s found.0 found.1) ∙ c.loop-serial.invariant.left);
      aside = c.assign_to.ensures.aside ∙ c.loop-serial.invariant.aside;
      marks = c.assign_to.ensures.marks ∙ c.loop-serial.invariant.marks;
    }

pub returns-clause-ok : goal.returns-clause-ok
returns-clause-ok c =
    let s = c.loop-serial.self.state in
    sym (assigned_none c.args.sbs.now c.args.pgm.now s (of_none _ (sym c.in_default.is ∙ c.assign.ensures))) ∙ c.loop-serial.invariant.left
