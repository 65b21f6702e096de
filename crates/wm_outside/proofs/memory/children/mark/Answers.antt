use Rattle.std.proofs.Common.{arith}
use Rattle.std.proofs.lemmas.List.Edits.{map_over_more}
use Rattle.wm_outside.specs.Children.{marked}
use Rattle.wm_outside.proofs.memory.children.mark.Goals as goal

pub loop-child-preserved : goal.loop-child-preserved
loop-child-preserved c =
    let item = c.child-item.is in
    rw (c.eq.ensures, ← item) (map_over_more (marked c.args.job) _ _ _ c.child-item.result (omega arith) c.loop-child.invariant item)
