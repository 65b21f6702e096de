use Rattle.wm_run.proofs.LogLines.{lines_more}
use Rattle.wm_run.proofs.log_lines.push_entries.Goals as goal

pub loop-at-preserved : goal.loop-at-preserved
loop-at-preserved c = lines_more c.args.log.now c.loop-at.at c.in-Some.entry.now c.args.out.now.items c.loop-at.out.items _ c.loop-at.invariant c.in-Some.ensures c.in_ok-push_entry.ensures
