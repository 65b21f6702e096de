use Rattle.std.proofs.Common.{rules, ap, ◌∙◌}
use Rattle.wm_turn.specs.Views.{failed_of}
use Rattle.wm_turn.proofs.InTurn.{passes}
use Rattle.wm_turn.proofs.steps.pass_on.Goals as goal

pub fetch_add-requires : goal.fetch_add-requires
fetch_add-requires g c = let t = c.requires.turn in (search rules, search rules, passes _ _ _ _ _ _ _ _ _ _ _ _ _ t.3 c.requires.holds c.requires.whole c.requires.opens (λ one. c.requires.marked (ap failed_of t.3 ∙ one)))
