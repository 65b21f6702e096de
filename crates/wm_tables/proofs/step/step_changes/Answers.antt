use Rattle.wm_tables.proofs.Taking.{are_changes}
use Rattle.wm_tables.proofs.step.step_changes.Goals as goal

pub returns : goal.returns
returns c = λ s t h. are_changes s c.args.call.now t c.args.reply.now c.args.jobs.now c.args.removed c.args.before c.args.after h c.in_ok-changes.changes.items c.put_jobs.new.changes.items c.put_counters.new.changes.items c.in_ok-put_jobs.ensures.before c.in_ok-changes.ensures c.in_ok-put_jobs.ensures.changes c.in_ok-put_counters.ensures
