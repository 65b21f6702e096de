use Rattle.wrkmgr.specs.System.{AreFresh}
use Rattle.wrkmgr.proofs.seats.add_seats.Given as goal

abbrev pub invariant-loop : goal.invariant-loop
invariant-loop g l = AreFresh l.crew.seats.items

abbrev pub invariant-loop-2 : goal.invariant-loop-2
invariant-loop-2 g l = AreFresh l.crew.seats.items
