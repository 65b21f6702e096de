use Rattle.std.proofs.Common.{◌≡◌, take}
use Rattle.wm_traits.specs.Rows.{changed}
use Rattle.wm_outside.proofs.memory.replay.change_all.Given as goal

abbrev pub invariant-loop-one : goal.invariant-loop-one
invariant-loop-one l = l.rows.items ≡ changed (take l.one-index l.changes) l.initial.rows.items
