use Rattle.std.proofs.Common.{arith}
use Rattle.wm_core.proofs.ByDrafts.{next-draft}
use Rattle.wm_core.proofs.autos.drafts.Goals as goal

pub loop-entry-preserved : goal.loop-entry-preserved
loop-entry-preserved c =
    next-draft c.args.jobds.now c.args.entries.now c.loop-entry.entry-index c.entry-item.result (omega arith) c.entry-item.is c.loop-entry.drafts.items c.add_draft.new.drafts.items c.loop-entry.invariant c.in_ok-add_draft.ensures
