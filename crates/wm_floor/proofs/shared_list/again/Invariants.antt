use Rattle.std.proofs.Common.{◌≡◌, take}
use Rattle.wm_floor.proofs.shared_list.again.Given as goal

abbrev pub invariant-loop-value : goal.invariant-loop-value
invariant-loop-value g l = l.more.items ≡ take l.value-index l.values
