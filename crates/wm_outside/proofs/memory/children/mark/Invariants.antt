use Rattle.std.proofs.Common.{◌≡◌, ◌++◌, take, drop, map}
use Rattle.wm_outside.specs.Children.{marked}
use Rattle.wm_outside.proofs.memory.children.mark.Given as goal

abbrev pub invariant-loop-child : goal.invariant-loop-child
invariant-loop-child l =
    l.children ≡ map (marked l.job) (take l.child-index l.initial.children) ++ drop l.child-index l.initial.children
