use Rattle.std.proofs.Common.{◌≡◌, ◌+◌, cond, false, length}
use Rattle.wm_ordered.specs.Bringing.{AreUnderway, AllAbove}
use Rattle.wm_ordered.specs.Index.{capacity_of}
use Rattle.wm_ordered.proofs.bringing.bring_due.Given as goal

-- where none was brought, none is left that is due
abbrev pub invariant-loop-brought : goal.invariant-loop-brought
invariant-loop-brought l = record {
  underway : AreUnderway l.now l.all l.turns l.early;
  done : l.brought ≡ false → AllAbove l.now l.early.items;
  capacity_turns : capacity_of l.turns ≡ capacity_of l.fn.turns;
  capacity_early : capacity_of l.early ≡ capacity_of l.fn.early;
}

abbrev pub decreases-loop-brought : goal.decreases-loop-brought
decreases-loop-brought l = length l.early.items + cond l.brought 1 0
