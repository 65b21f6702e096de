use Rattle.wm_ordered.proofs.edit.+set_value.Given as goal

abbrev pub decreases-set_value : goal.decreases-set_value
decreases-set_value g l = l.depth
