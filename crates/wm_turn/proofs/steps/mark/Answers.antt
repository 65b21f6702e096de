use Rattle.std.proofs.Common.{rules}
use Rattle.wm_turn.proofs.InTurn.{marks}
use Rattle.wm_turn.proofs.steps.mark.Goals as goal

pub fetch_or-requires : goal.fetch_or-requires
fetch_or-requires g c = let t = c.requires.turn in (search rules, search rules, marks _ _ _ _ _ _ _ _ _ _ _ _ _ t.3 c.requires.holds)
