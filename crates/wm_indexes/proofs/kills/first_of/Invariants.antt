use Rattle.std.proofs.Common.{◌≡◌, ◌==◌, find, drop}
use Rattle.std.specs.List.{slice_get}
use Rattle.wm_indexes.proofs.kills.first_of.Given as goal

-- the next row is at hand, and none before it is a kill of the monitor
abbrev pub invariant-loop-place : goal.invariant-loop-place
invariant-loop-place l = record {
  next : l.next ≡ slice_get l.kills.items l._place;
  rest : find (λ row. row.1 == l.monitor) (drop l._place l.kills.items) ≡ find (λ row. row.1 == l.monitor) l.kills.items;
}
