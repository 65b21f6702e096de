use Rattle.wm_floor.specs.Floor.{HasLooked, IsPassOf, IsSame}
use Rattle.wm_run.proofs.seeing.see.Given as goal

-- the pass has looked on since the loop began
abbrev pub invariant-looks : goal.invariant-looks
invariant-looks g l = record {
  next : (goal.iterator-looks g).can_next l.iterator';
  finite : (goal.iterator-looks g).is_finite l.iterator';
  own : IsPassOf l.floor l.pass;
  same : IsSame l.fn.pass l.pass;
  looked : HasLooked l.fn.pass l.pass;
}
