-- The lines of the jobs that wait on a queue.
use Rattle.std.specs.Prelude.{ℕ, List, filter, map}
use Rattle.wm_base.specs.declared.qname.QName.{QName}
use Rattle.wm_law.specs.declared.job.Job.{Job}
use Rattle.wm_law.specs.Queues.{waits_on}
use Rattle.wm_views.specs.declared.shown.JobLine.{JobLine}
use Rattle.wm_views.specs.Lines.{placed}
use Rattle.wm_views.specs.Sorted.{sorted}
use Rattle.wm_views.specs.Views.{by_turn}

-- in their turn
abbrev pub queued_jobs : QName → ℕ → List Job → List JobLine
queued_jobs queue clock jobs = map (λ p. p.line) (sorted by_turn (map (placed clock) (filter (waits_on queue) jobs)))
