use Rattle.std.proofs.Common.{rules, ℕ, List, ◌∷◌, Option, Some, sym, ap, ◌∙◌}
use Rattle.atomic_table.specs.Table.{rest}
use Rattle.wm_turn.proofs.steps.take_out.Goals as goal

pub exchange-requires : goal.exchange-requires
exchange-requires g c = let h = c.requires.holds in (search rules, (Some h.0, h.1 ∙ ap (λ (l : List (ℕ × Option g.row.X.Denot)). (0, Some h.0) ∷ rest l) (sym h.1)))
