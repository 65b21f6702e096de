use Rattle.wm_floor.specs.Floor.{IsPassOf, IsSame}
use Rattle.wm_test_floor.proofs.measure.timed.Given as goal

abbrev pub invariant-loop : goal.invariant-loop
invariant-loop g l = IsPassOf l.floor l.pass × IsSame l.initial.pass l.pass
