use Rattle.std.proofs.Common.{◌≡◌, ◌*◌, ◌≤◌, map}
use Rattle.std.specs.List.{count_by}
use Rattle.wm_subsystems.specs.Telling.{told_as}
use Rattle.wm_subsystems.specs.Walks.{KeepsRest, walked}
use Rattle.wm_subsystems.proofs.Walks.{is_ahead}
use Rattle.wm_subsystems.proofs.walk.tell_all.Given as goal

-- the jobs below the serial are told, the others are as they were, and there is room for two changes of each active one of them
abbrev pub invariant-loop-job : goal.invariant-loop-job
invariant-loop-job l = record {
  jobs : l.table.jobs ≡ map (walked l.from (told_as l.telling l.clock l.started)) l.initial.table.jobs;
  rest : KeepsRest l.initial.table l.table;
  room : 2 * count_by (is_ahead l.from) l.initial.table.jobs ≤ l.table.changes;
}

-- one active job less is left with each step
abbrev pub decreases-loop-job : goal.decreases-loop-job
decreases-loop-job l = count_by (is_ahead l.from) l.initial.table.jobs
