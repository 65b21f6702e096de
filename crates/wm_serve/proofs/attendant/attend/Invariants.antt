use Rattle.wm_floor.specs.Attends.{MonitorAttends}
use Rattle.wm_serve.proofs.attendant.attend.Given as goal

-- the monitor has done its part since the loop began
abbrev pub invariant-turns : goal.invariant-turns
invariant-turns g l = record {
  next : (goal.iterator-turns g).can_next l.iterator';
  finite : (goal.iterator-turns g).is_finite l.iterator';
  part : MonitorAttends g.P.Spawner.asked g.P.Spawner.told g.P.Spawner.misses g.P.Spawner.faults l.floor l.fn.pass l.fn.monitor l.fn.spawner l.pass l.monitor l.spawner;
}
