use Rattle.std.proofs.Common.{◌≡◌, ◌++◌, length}
use Rattle.std.specs.Vec.Iter.{into_iter_items, into_iter_len}
use Rattle.wm_jobs.proofs.table.JobTable.stored.Given as goal

-- the jobs that were taken and those that are left are all of them
abbrev pub invariant-loop-job : goal.invariant-loop-job
invariant-loop-job l = record {
  jobs : l.table.jobs ++ into_iter_items l.job-iterator ≡ into_iter_items l.initial.job-iterator;
  clock : l.table.clock ≡ 0;
  next_serial : l.table.next_serial ≡ l.next_serial;
  next_place : l.table.next_place ≡ l.next_place;
  counted : into_iter_len l.job-iterator ≡ length (into_iter_items l.job-iterator);
}
