use Rattle.std.proofs.Common.{◌≡◌, ◌++◌, take}
use Rattle.std.specs.List.{flat_map}
use Rattle.wm_command.specs.Print.{given_text}
use Rattle.wm_command.proofs.printing.push_all.Given as goal

abbrev pub invariant-loop-given : goal.invariant-loop-given
invariant-loop-given l = l.out ≡ l.fn.out ++ flat_map given_text (take l.given-index l.all)
