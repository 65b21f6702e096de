use Rattle.std.proofs.Common.{◌≡◌, ◌==◌, ◌+◌, ◌≤◌, count_by, drop}
use Rattle.std.specs.List.{slice_get}
use Rattle.wm_indexes.proofs.kills.count_of.Given as goal

-- the next row is at hand, and those before it are counted
abbrev pub invariant-loop-place : goal.invariant-loop-place
invariant-loop-place l = record {
  next : l.next ≡ slice_get l.kills.items l._place;
  few : l.count ≤ l._place;
  rest : l.count + count_by (λ row. row.1 == l.monitor) (drop l._place l.kills.items) ≡ count_by (λ row. row.1 == l.monitor) l.kills.items;
}
