use Rattle.wm_floor.specs.Floor.{IsPassOf, IsSame}
use Rattle.wm_test_serve.proofs.sessions.again.connect_all.Given as goal

abbrev pub invariant-connections : goal.invariant-connections
invariant-connections g l = IsPassOf l.floor l.pass × IsSame l.fn.pass l.pass
