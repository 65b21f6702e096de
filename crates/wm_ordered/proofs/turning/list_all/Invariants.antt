use Rattle.std.proofs.Common.{◌≡◌, take}
use Rattle.std.specs.List.{slice_get}
use Rattle.wm_ordered.specs.Index.{IsIndex, capacity_of}
use Rattle.wm_ordered.specs.Keys.{waiters_of, spot_of, rise_of, nothing_of}
use Rattle.wm_ordered.specs.Turning.{row_behind}
use Rattle.wm_ordered.specs.Waiting.{serial_of, is_up, is_ahead}
use Rattle.wm_ordered.proofs.turning.list_all.Given as goal

-- the indexes are those of the first of them, and the next one is at hand
abbrev pub invariant-loop-count : goal.invariant-loop-count
invariant-loop-count l = record {
  next : row_behind l.last l.all.items ≡ slice_get l.all.items l._count;
  turns : IsIndex spot_of serial_of (is_up l.clock) (take l._count (waiters_of l.all.items)) l.turns.items;
  early : IsIndex rise_of nothing_of (is_ahead l.clock) (take l._count (waiters_of l.all.items)) l.early.items;
  capacity_turns : capacity_of l.turns ≡ capacity_of l.fn.turns;
  capacity_early : capacity_of l.early ≡ capacity_of l.fn.early;
}
