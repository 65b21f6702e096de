-- proofs/text/push_jobs/Invariants.antt
use Rattle.std.proofs.Common.{◌≡◌, ◌++◌, ◌+◌, ◌-◌}
use Rattle.wm_runs.specs.Text.{job_lines}
use Rattle.wm_runs.proofs.text.push_jobs.Given as goal

-- the lines so far, with those that are still to be added, are all lines
abbrev pub invariant-loop-at : goal.invariant-loop-at
invariant-loop-at l = l.text.items ++ job_lines (l.jobs - l.at) (l.at + 1) l.draws.last ≡ l.fn.text.items ++ job_lines l.jobs 1 l.fn.draws.last
