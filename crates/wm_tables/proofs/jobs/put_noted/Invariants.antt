use Rattle.wm_tables.proofs.Leaving.{IsLeft}
use Rattle.wm_tables.proofs.jobs.put_noted.Given as goal

abbrev pub invariant-loop : goal.invariant-loop
invariant-loop l = IsLeft l.jobs l.initial.changes.items l.changes.items l.initial.noted.items l.noted.items l.counter l.end
