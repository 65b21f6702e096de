use Rattle.std.proofs.Common.{rules, ◌≡◌, List, [], ◌∷◌, Option, Some, ap, sym, subst}
use Rattle.atomic_table.specs.Table.{opening}
use Rattle.wm_turn.specs.Rule.{Ruled}
use Rattle.wm_turn.specs.Views.{first_view}
use Rattle.wm_turn.proofs.Passes.{starts}
use Rattle.wm_turn.proofs.turnstile.Turnstile.new.Goals as goal

pub new-requires : goal.new-requires
new-requires g c = let it = c.args.value in
    let of = ap g.X.Standing.opening c.of-made_of.ensures in
    let items : c.push.new.self.items ≡ Some it ∷ [] = search rules in
    subst (λ (l : List (Option g.row.X.Denot)). Ruled g.X.Standing.opening g.X.Standing.stands g.X.Standing.mark g.X.Standing.by g.X.Standing.fact (g.X.Standing.opening c.of-made_of.result.value) (opening (0 ∷ 0 ∷ 0 ∷ 0 ∷ []) l (first_view (g.X.Standing.opening c.of-made_of.result.value)))) (sym items)
    (starts _ _ _ _ _ _ it (sym of) c.requires (g.met.X.Standing.meets it))
