use Rattle.wm_core.specs.MachineInside.{state_of}
use Rattle.wm_subsystems.proofs.GoneAlike.{leave-alike}
use Rattle.wm_core.proofs.machine.Machine.leave.Goals as goal

pub returns-clause-state : goal.returns-clause-state
returns-clause-state c =
    let s = state_of c.self.inside in
    rw (← c.self.view_is)
    (leave-alike s c.tally.result.now c.tally-2.result.now c.tally-3.result.now c.drop_gone_stops.new.stopped c.drop_gone_evokes.new.evokes c.drop_gone.new.started c.tally.ensures c.tally-2.ensures c.tally-3.ensures c.drop_gone_stops.ensures c.drop_gone_evokes.ensures c.drop_gone.ensures)
