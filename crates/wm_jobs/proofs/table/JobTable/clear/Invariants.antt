use Rattle.std.proofs.Common.{◌≡◌, ◌+◌, ◌≤◌, map}
use Rattle.std.specs.List.{count_by}
use Rattle.wm_law.specs.Queues.{waits_on, cleared_from}
use Rattle.wm_jobs.specs.Table.{IsReady}
use Rattle.wm_jobs.proofs.table.JobTable.clear.Given as goal

-- what was cleared and what still waits are all that waited, and what is left comes to the same
abbrev pub invariant-loop-serial : goal.invariant-loop-serial
invariant-loop-serial l = record {
  count : l.cleared + count_by (waits_on l.queue) l.self.jobs ≡ count_by (waits_on l.queue) l.fn.self.jobs;
  jobs : map (cleared_from l.queue) l.self.jobs ≡ map (cleared_from l.queue) l.fn.self.jobs;
  clock : l.self.clock ≡ l.fn.self.clock;
  next_serial : l.self.next_serial ≡ l.fn.self.next_serial;
  next_place : l.self.next_place ≡ l.fn.self.next_place;
  spare : l.fn.self.spare ≤ l.self.spare;
  changes : l.self.changes ≡ l.fn.self.changes;
  ready : IsReady l.fn.self → IsReady l.self;
  marked : l.self.marked ≡ l.fn.self.marked;
}

abbrev pub decreases-loop-serial : goal.decreases-loop-serial
decreases-loop-serial l = count_by (waits_on l.queue) l.self.jobs
