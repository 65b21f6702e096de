use Rattle.std.proofs.Common.{◌≡◌, take}
use Rattle.wm_restart.specs.Written.{job_changes}
use Rattle.wm_restart.proofs.ended.job_changes.Given as goal

abbrev pub invariant-loop-job : goal.invariant-loop-job
invariant-loop-job l = l.changes.items ≡ job_changes l.found (take l.job-index l.jobs)
