use Rattle.std.proofs.Common.{◌≡◌, take}
use Rattle.std.specs.Prelude.{fold}
use Rattle.wm_tables.specs.Noted.{with_row}
use Rattle.wm_tables.proofs.jobs.put_all_new.Given as goal

abbrev pub invariant-loop-job : goal.invariant-loop-job
invariant-loop-job l = l.changes.items ≡ fold with_row l.initial.changes.items (take l.job-index l.new)
