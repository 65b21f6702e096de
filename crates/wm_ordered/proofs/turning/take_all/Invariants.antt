use Rattle.std.proofs.Common.{◌≡◌, length}
use Rattle.wm_ordered.specs.Index.{capacity_of}
use Rattle.wm_ordered.proofs.turning.take_all.Given as goal

abbrev pub invariant-loop-key : goal.invariant-loop-key
invariant-loop-key g l = capacity_of l.rows ≡ capacity_of l.fn.rows

abbrev pub decreases-loop-key : goal.decreases-loop-key
decreases-loop-key g l = length l.rows.items
