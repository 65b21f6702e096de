use Rattle.std.proofs.Common.{rules}
use Rattle.wm_turn.proofs.Keeps.{reads}
use Rattle.wm_turn.proofs.steps.read.Goals as goal

pub load-requires : goal.load-requires
load-requires g c = let t = c.requires.turn in (search rules, search rules, reads _ _ _ _ _ _ _ _ _ _ _ _ t.3)
