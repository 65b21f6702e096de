use Rattle.std.proofs.Common.{◌≡◌, ◌++◌, map, take, drop}
use Rattle.wm_law.specs.Endings.{phased}
use Rattle.wm_subsystems.specs.Telling.{passes}
use Rattle.wm_subsystems.proofs.ending.end_each.Given as goal

-- the subsystems so far are done, the others as they were
abbrev pub invariant-loop-sbs : goal.invariant-loop-sbs
invariant-loop-sbs l = l.started ≡ map (phased (passes l.those) l.phase) (take l.sbs-index l.fn.started) ++ drop l.sbs-index l.fn.started
