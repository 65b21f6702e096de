use Rattle.std.proofs.Common.{◌≡◌, ◌++◌, map, take, drop}
use Rattle.wm_law.specs.Settling.{sbs_at}
use Rattle.wm_subsystems.proofs.due.look_at_each.Given as goal

-- the subsystems so far are done, the others as they were
abbrev pub invariant-loop-sbs : goal.invariant-loop-sbs
invariant-loop-sbs l = l.started ≡ map (sbs_at l.clock) (take l.sbs-index l.fn.started) ++ drop l.sbs-index l.fn.started
