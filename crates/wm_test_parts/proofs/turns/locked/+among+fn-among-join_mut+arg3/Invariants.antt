use Rattle.wm_test_parts.proofs.turns.locked.+among+fn-among-join_mut+arg3.Given as goal

abbrev pub decreases-join_mut+arg3 : goal.decreases-join_mut+arg3
decreases-join_mut+arg3 g l = l.fewer

abbrev pub decreases-among : goal.decreases-among
decreases-among g l = l.threads
