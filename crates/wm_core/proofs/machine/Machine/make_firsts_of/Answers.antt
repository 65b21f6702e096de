use Rattle.std.proofs.Common.{◌∙◌, arith}
use Rattle.wm_law.specs.Supply.{make_first}
use Rattle.wm_core.proofs.Supplies.{next_folded}
use Rattle.wm_core.proofs.machine.Machine.make_firsts_of.Goals as goal

pub loop-entry-preserved : goal.loop-entry-preserved
loop-entry-preserved c =
    let at = c.loop-entry in
    record {
      left = λ d same. next_folded (make_first c.args.sbs.now d) c.args.entries.now at.entry-index c.entry-item.result at.self.state c.make_first.new.self.state _ (omega arith) c.entry-item.is (c.in_ok-make_first.ensures.ok d same) (at.invariant.left d same);
      aside = c.make_first.ensures.aside ∙ at.invariant.aside;
      marks = c.make_first.ensures.marks ∙ at.invariant.marks;
    }
