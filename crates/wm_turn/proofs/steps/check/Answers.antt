use Rattle.std.proofs.Common.{rules, sym, ap, ◌∙◌}
use Rattle.wm_turn.specs.Views.{failed_of}
use Rattle.wm_turn.proofs.Keeps.{checks}
use Rattle.wm_turn.proofs.steps.check.Goals as goal

pub load-requires : goal.load-requires
load-requires g c = (search rules, search rules, checks _ _ _ _ _ _ _ _ _)

pub returns-clause-known : goal.returns-clause-known
returns-clause-known g c = let t = c.requires.turn in c.load.ensures.2.1 _ _ _ t.3 ∙ sym (ap failed_of t.3)
