use Rattle.std.proofs.Common.{◌≡◌, ◌++◌, take}
use Rattle.wm_core.proofs.Supplies.{stops_of}
use Rattle.wm_core.proofs.machine.Machine.with_stops.Given as goal

-- with the stops of the entries so far
abbrev pub invariant-loop-entry : goal.invariant-loop-entry
invariant-loop-entry l = l.stops.items ≡ l.self.state.stopped ++ stops_of l.q (take l.entry-index l.entry-items)
