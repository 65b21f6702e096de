use Rattle.std.proofs.Common.{◌≡◌, length}
use Rattle.wm_jobs.proofs.table.JobTable.drop_new.Given as goal

abbrev pub invariant-loop-self : goal.invariant-loop-self
invariant-loop-self l = record {
  touched : l.self.touched ≡ l.fn.self.touched;
  undos : l.self.undos ≡ l.fn.self.undos;
  marked : l.self.marked ≡ l.fn.self.marked;
}

abbrev pub decreases-loop-self : goal.decreases-loop-self
decreases-loop-self l = length l.self.jobs
