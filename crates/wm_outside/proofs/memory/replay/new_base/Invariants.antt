use Rattle.std.proofs.Common.{◌≡◌, drop}
use Rattle.wm_traits.specs.declared.row.Row.{Row}
use Rattle.wm_outside.specs.ChangeLog.{base_after}
use Rattle.wm_outside.proofs.memory.replay.new_base.Given as goal

abbrev pub invariant-loop-change : goal.invariant-loop-change
invariant-loop-change l = (base : Row) → base_after l.changes base ≡ base_after (drop l.change-index l.changes) base
