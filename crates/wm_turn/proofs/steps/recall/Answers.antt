use Rattle.std.proofs.Common.{rules}
use Rattle.wm_turn.proofs.Keeps.{recalls}
use Rattle.wm_turn.proofs.steps.recall.Goals as goal

pub load-count-requires : goal.load-count-requires
load-count-requires g c = (search rules, search rules, recalls _ _ _ _ _ _ g.met.X.Standing.fronts _ _ _ _)
