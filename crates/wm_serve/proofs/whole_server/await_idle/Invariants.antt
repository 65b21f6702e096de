use Rattle.wm_floor.specs.Floor.{HasLooked, IsPassOf, IsSame}
use Rattle.wm_serve.proofs.whole_server.await_idle.Given as goal

-- pass 0 has looked on since the loop began
abbrev pub invariant-looks : goal.invariant-looks
invariant-looks g l = record {
  next : (goal.iterator-looks g).can_next l.iterator';
  finite : (goal.iterator-looks g).is_finite l.iterator';
  own : IsPassOf l.floor l.zero;
  same : IsSame l.fn.zero l.zero;
  looked : HasLooked l.fn.zero l.zero;
}
