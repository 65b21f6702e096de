use Rattle.std.specs.Prelude.{⊤}
use Rattle.wm_children.proofs.started.kill_child.Given as goal

abbrev pub invariant-loop-child : goal.invariant-loop-child
invariant-loop-child l = ⊤
