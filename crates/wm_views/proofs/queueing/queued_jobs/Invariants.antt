-- proofs/queueing/queued_jobs/Invariants.antt
use Rattle.std.proofs.Common.{length}
use Rattle.wm_views.proofs.QueuedJobs.{IsWalked, in_turn}
use Rattle.wm_views.proofs.queueing.queued_jobs.Given as goal

-- the walk has come to the next job
abbrev pub invariant-loop-next : goal.invariant-loop-next
invariant-loop-next l = IsWalked l.jobq l.jobs.clock l.jobs.jobs l.next l.lines.items

-- with each step one is left less
abbrev pub decreases-loop-next : goal.decreases-loop-next
decreases-loop-next l = length (in_turn l.jobq l.jobs.clock l.jobs.jobs l.next)
