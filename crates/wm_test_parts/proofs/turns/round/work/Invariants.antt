use Rattle.wm_test_parts.specs.Notes.{IsEven, IsReady}
use Rattle.wm_test_parts.proofs.turns.round.work.Given as goal

abbrev pub invariant-loop : goal.invariant-loop
invariant-loop g l = IsReady l.stile l.pass × IsEven l.initial.pass l.pass
