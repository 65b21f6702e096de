use Rattle.wm_ordered.proofs.edit.+merge.Given as goal

abbrev pub decreases-merge : goal.decreases-merge
decreases-merge g l = l.depth
