use Rattle.std.proofs.Common.{◌≤◌, length, map, string_bytes, vec_capacity}
use Rattle.wm_runs.proofs.Partway.{ArePartway}
use Rattle.wm_runs.proofs.sequence.run_each.Given as goal

abbrev pub invariant-loop-at : goal.invariant-loop-at
invariant-loop-at g l = record {
  partway : ArePartway
      (record { left = g.I.Source.left; read_faults = g.I.Source.faults; written = g.O.Sink.written; write_faults = g.O.Sink.faults; opened = g.S.Store.opened; tables = g.S.Store.tables; trail = g.S.Store.trail; keeper_faults = g.S.Store.faults; asked = g.P.Spawner.asked; told = g.P.Spawner.told; misses = g.P.Spawner.misses; wait_faults = g.P.Spawner.faults })
      (map string_bytes l.words) l.at l.initial.inputs l.inputs l.initial.spawners l.spawners l.rans.items l.initial.out l.out l.initial.store l.store;
  room : length l.initial.inputs ≤ vec_capacity l.rans;
}
