use Rattle.std.proofs.Common.{◌≡◌, ◌++◌, take}
use Rattle.std.specs.List.{flat_map}
use Rattle.wm_clwords.specs.CallText.{next_value}
use Rattle.wm_clwords.specs.Printed.{AreTexts}
use Rattle.wm_clwords.proofs.call.push_others.Given as goal

abbrev pub invariant-loop-parm : goal.invariant-loop-parm
invariant-loop-parm l = record { out : l.out ≡ l.fn.out ++ flat_map next_value (take l.parm-index l.parms); texts : AreTexts (take l.parm-index l.parms) }
