-- proofs/hosting/hosted_jobs/Invariants.antt
use Rattle.std.proofs.Common.{◌≡◌, ◌++◌, length, map, filter}
use Rattle.wm_jobs.proofs.Actives.{is_from}
use Rattle.wm_views.specs.Hosts.{hosted, hosted_jobs}
use Rattle.wm_views.proofs.hosting.hosted_jobs.Given as goal

-- the active jobs are those of the list, and then those from the serial on
abbrev pub invariant-loop-job : goal.invariant-loop-job
invariant-loop-job l = hosted_jobs l.jobs.clock l.jobs.jobs ≡ l.list.items ++ map (hosted l.jobs.clock) (filter (is_from l.from) l.jobs.jobs)

-- with each step one is left less
abbrev pub decreases-loop-job : goal.decreases-loop-job
decreases-loop-job l = length (filter (is_from l.from) l.jobs.jobs)
