use Rattle.wm_floor.specs.Floor.{IsPassOf, IsSame}
use Rattle.wm_test_floor.proofs.work.begin.Given as goal

abbrev pub invariant-loop-words : goal.invariant-loop-words
invariant-loop-words g l = IsPassOf l.floor l.pass × IsSame l.initial.pass l.pass
