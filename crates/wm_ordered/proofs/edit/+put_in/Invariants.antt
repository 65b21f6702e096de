use Rattle.wm_ordered.proofs.edit.+put_in.Given as goal

abbrev pub decreases-put_in : goal.decreases-put_in
decreases-put_in g l = l.depth
