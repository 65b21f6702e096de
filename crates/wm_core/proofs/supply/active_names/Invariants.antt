use Rattle.std.proofs.Common.{◌≡◌, drop, filter}
use Rattle.wm_law.specs.Choice.{is_sbs_active}
use Rattle.wm_law.specs.Supply.{in_order}
use Rattle.wm_core.proofs.supply.active_names.Given as goal

-- the names of the Active ones from there on
abbrev pub invariant-loop-at : goal.invariant-loop-at
invariant-loop-at l = l.names.items ≡ in_order (filter (λ b. is_sbs_active b.phase) (drop l.at l.started))
