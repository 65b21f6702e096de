use Rattle.std.proofs.Common.{rules, arith, ⊎_elim, ap, length}
use Rattle.wm_turn.proofs.InTurn.{enters}
use Rattle.wm_turn.proofs.steps.enter_entry.Goals as goal

pub fetch_add-requires : goal.fetch_add-requires
fetch_add-requires g c = let t = c.requires.turn in let longer = c.requires.grown.0 c.if-grown.true in ⊎_elim
    (λ same. absurd (omega (arith, ap length same)))
    (λ e. (search rules, search rules, enters _ _ _ _ _ _ _ _ _ _ e.0 _ _ _ t.3 c.requires.holds e.2 e.1 c.requires.opens (g.met.X.Standing.meets _) c.requires.room)) c.requires.grows
