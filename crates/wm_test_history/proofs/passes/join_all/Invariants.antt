use Rattle.wm_test_history.specs.Open.{IsOpen}
use Rattle.wm_test_history.proofs.passes.join_all.Given as goal

-- the passes that are left are those that are out
abbrev pub invariant-loop-other : goal.invariant-loop-other
invariant-loop-other l = IsOpen l.fn.floor l.zero l.others.items

abbrev pub decreases-loop-other : goal.decreases-loop-other
decreases-loop-other l = goal.left-loop-other l
