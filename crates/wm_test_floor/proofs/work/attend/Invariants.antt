use Rattle.wm_floor.specs.Floor.{IsPassOf}
use Rattle.wm_test_floor.proofs.work.attend.Given as goal

abbrev pub invariant-loop : goal.invariant-loop
invariant-loop g l = IsPassOf l.floor l.pass
