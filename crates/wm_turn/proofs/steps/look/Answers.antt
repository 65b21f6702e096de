use Rattle.std.proofs.Common.{rules}
use Rattle.wm_turn.proofs.Keeps.{looks}
use Rattle.wm_turn.proofs.steps.look.Goals as goal

pub load-requires : goal.load-requires
load-requires g c = (search rules, search rules, looks _ _ _ _ _ _ _ _ _ c.requires.waits.0 c.requires.waits.1 c.requires.free c.requires.live)
