use Rattle.std.proofs.Common.{arith, ◌∙◌}
use Rattle.wm_core.proofs.Supplies.{numbers_after, one_made}
use Rattle.wm_core.proofs.machine.Machine.make_pres.Goals as goal

pub loop-made-preserved : goal.loop-made-preserved
loop-made-preserved c =
    let at = c.loop-made in
    let is = c.in_ok-make_pre.ensures.ok in
    record {
      left = one_made c.args.sbs.now c.args.pgm.now c.args.jobs at._made at.self.state c.make_pre.new.self.state _ (omega arith) is at.invariant.left;
      numbers = numbers_after c.args.sbs.now c.args.pgm.now c.args.jobs at._made at.self.state c.make_pre.new.self.state (omega arith) is at.invariant.numbers;
      aside = c.make_pre.ensures.aside ∙ at.invariant.aside;
      marks = c.make_pre.ensures.marks ∙ at.invariant.marks;
    }
