use Rattle.wm_ordered.proofs.find.+least_above.Given as goal

abbrev pub decreases-least_above : goal.decreases-least_above
decreases-least_above g l = l.depth
