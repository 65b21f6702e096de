use Rattle.wm_ordered.proofs.find.+least_from.Given as goal

abbrev pub decreases-least_from : goal.decreases-least_from
decreases-least_from g l = l.depth
