use Rattle.std.proofs.Common.{◌++◌, ap, ◌∙◌}
use Rattle.std.specs.Vec.Iter.{into_iter_items}
use Rattle.wm_jobs.proofs.AtStored.{IsNext, next-left}
use Rattle.wm_jobs.proofs.table.JobTable.stored.Goals as goal

next-is : (c : goal.After-table-in-loop-job-1) → IsNext c.reserve.new.self.jobs c.in-Some.job
next-is c =
    let at = c.loop-job in
    let whole = ap (λ js. js ++ into_iter_items at.job-iterator) c.reserve.ensures.jobs ∙ (at.invariant.jobs ∙ c.into_iter-job-iterator.ensures.into_iter_gives.0) in
    next-left c.args.next_serial c.args.next_place c.args.jobs.items c.reserve.new.self.jobs (into_iter_items at.job-iterator) (into_iter_items c.next.new.self) c.in-Some.job c.requires whole c.in-Some.ensures.steps.0

pub push_stored-requires-clause-behind : goal.push_stored-requires-clause-behind
push_stored-requires-clause-behind c = (next-is c).behind

pub push_stored-requires-clause-free : goal.push_stored-requires-clause-free
push_stored-requires-clause-free c = (next-is c).free
