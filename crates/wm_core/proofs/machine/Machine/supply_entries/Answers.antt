use Rattle.std.proofs.Common.{◌∙◌, arith}
use Rattle.wm_law.specs.Supply.{supply_entry}
use Rattle.wm_core.proofs.Supplies.{next_folded}
use Rattle.wm_core.proofs.machine.Machine.supply_entries.Goals as goal

pub loop-entry-preserved : goal.loop-entry-preserved
loop-entry-preserved c =
    let at = c.loop-entry in
    record {
      left = λ d same. next_folded (supply_entry c.args.sbs.now d) c.args.entries.now at.entry-index c.entry-item.result at.self.state c.supply_entry.new.self.state _ (omega arith) c.entry-item.is (c.in_ok-supply_entry.ensures.ok d same) (at.invariant.left d same);
      aside = c.supply_entry.ensures.aside ∙ at.invariant.aside;
      marks = c.supply_entry.ensures.marks ∙ at.invariant.marks;
    }
