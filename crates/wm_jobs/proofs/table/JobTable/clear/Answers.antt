use Rattle.std.proofs.Common.{sym, ◌∙◌, arith}
use Rattle.wm_jobs.proofs.Cleared.{step, none-left, few-waited}
use Rattle.wm_jobs.proofs.table.JobTable.clear.Goals as goal

-- a job waits still, so fewer were cleared than there are jobs
pub overflow_add-cleared : goal.overflow_add-cleared
overflow_add-cleared c =
    let next = step c.args.queue.now c.loop-serial.self.jobs c.end_waiting.new.self.jobs c.in-Some.serial c.first_on.ensures.sorted c.in-Some.ensures.first c.end_waiting.ensures.jobs in
    let few = few-waited c.args.queue.now c.args.self.now.jobs c.loop-serial.self.jobs c.loop-serial.invariant.jobs in
    omega (arith, next.1, few, c.first_on.ensures.few, c.loop-serial.invariant.count)

pub loop-serial-smaller : goal.loop-serial-smaller
loop-serial-smaller c =
    let next = step c.args.queue.now c.loop-serial.self.jobs c.end_waiting.new.self.jobs c.in-Some.serial c.first_on.ensures.sorted c.in-Some.ensures.first c.end_waiting.ensures.jobs in
    omega (arith, next.1)

pub loop-serial-preserved : goal.loop-serial-preserved
loop-serial-preserved c =
    let next = step c.args.queue.now c.loop-serial.self.jobs c.end_waiting.new.self.jobs c.in-Some.serial c.first_on.ensures.sorted c.in-Some.ensures.first c.end_waiting.ensures.jobs in
    let before = c.loop-serial.invariant in
    record {
      count = omega (arith, next.1, before.count);
      jobs = next.0 ∙ before.jobs;
      clock = c.end_waiting.ensures.clock ∙ before.clock;
      next_serial = c.end_waiting.ensures.next_serial ∙ before.next_serial;
      next_place = c.end_waiting.ensures.next_place ∙ before.next_place;
      spare = omega (arith, c.end_waiting.ensures.spare, before.spare);
      changes = c.end_waiting.ensures.changes ∙ before.changes;
      ready = λ ready. c.end_waiting.ensures.ready (before.ready ready);
      marked = c.end_waiting.ensures.marked ∙ before.marked;
    }

pub returns-clause-count : goal.returns-clause-count
returns-clause-count c =
    let none = none-left c.args.queue.now c.loop-serial.self.jobs c.in_default.ensures.first in
    omega (arith, none.0, c.loop-serial.invariant.count)

pub returns-clause-jobs : goal.returns-clause-jobs
returns-clause-jobs c =
    let none = none-left c.args.queue.now c.loop-serial.self.jobs c.in_default.ensures.first in
    sym none.1 ∙ c.loop-serial.invariant.jobs
