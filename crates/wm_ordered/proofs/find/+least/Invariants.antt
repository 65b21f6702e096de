use Rattle.wm_ordered.proofs.find.+least.Given as goal

abbrev pub decreases-least : goal.decreases-least
decreases-least g l = l.depth
