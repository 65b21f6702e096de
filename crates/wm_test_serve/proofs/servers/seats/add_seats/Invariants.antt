use Rattle.wm_test_serve.specs.Fresh.{AreFresh}
use Rattle.wm_test_serve.proofs.servers.seats.add_seats.Given as goal

abbrev pub invariant-loop : goal.invariant-loop
invariant-loop l = AreFresh l.crew.seats.items

abbrev pub invariant-loop-2 : goal.invariant-loop-2
invariant-loop-2 l = AreFresh l.crew.seats.items
