use Rattle.std.proofs.Common.{rules}
use Rattle.wm_turn.proofs.Keeps.{draws}
use Rattle.wm_turn.proofs.steps.draw.Goals as goal

pub fetch_add-requires : goal.fetch_add-requires
fetch_add-requires g c = (search rules, search rules, draws _ _ _ _ _ _ _ _ _ c.requires.idle c.requires.live)
