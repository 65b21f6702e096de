use Rattle.std.proofs.Common.{◌≡◌, ◌≤◌, length}
use Rattle.wm_jobs.proofs.table.JobTable.undo_touched.Given as goal

abbrev pub invariant-loop-self : goal.invariant-loop-self
invariant-loop-self l = record {
  jobs : length l.self.jobs ≡ length l.fn.self.jobs;
  room : length l.self.touched ≤ l.self.undos;
  marked : l.self.marked ≡ l.fn.self.marked;
}

abbrev pub decreases-loop-self : goal.decreases-loop-self
decreases-loop-self l = length l.self.touched
