use Rattle.std.proofs.Common.{◌-◌, ◌<◌, ◌≤◌, take, length}
use Rattle.wm_traits.specs.Rows.{IsInOrder}
use Rattle.wm_restart.proofs.restart.broken_at.Given as goal

-- so many rows stand in their order, and so many more don't
abbrev pub invariant-loop-high : goal.invariant-loop-high
invariant-loop-high l = record {
  apart : l.low < l.high;
  within : l.high ≤ length l.rows;
  before : IsInOrder (take l.low l.rows);
  broken : IsInOrder (take l.high l.rows) → ⊥;
}

abbrev pub decreases-loop-high : goal.decreases-loop-high
decreases-loop-high l = l.high - l.low
