use Rattle.wm_ordered.proofs.edit.+split.Given as goal

abbrev pub decreases-split : goal.decreases-split
decreases-split g l = l.depth
