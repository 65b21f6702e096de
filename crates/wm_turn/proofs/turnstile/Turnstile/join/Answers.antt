use Rattle.std.proofs.Common.{rules, ap, ◌∙◌}
use Rattle.wm_turn.specs.Passed.{Passed}
use Rattle.wm_turn.proofs.Laid.{stands_idle}
use Rattle.wm_turn.proofs.Passes.{joins}
use Rattle.wm_turn.proofs.turnstile.Turnstile.join.Goals as goal

pub join_seat-requires : goal.join_seat-requires
join_seat-requires g c =
    let number = ap (λ (p : Passed g.row.X-Opening.Denot g.row.X-Entry.Denot). p.number) c.pass.view_is in
    let idle = stands_idle _ _ _ _ (ap (λ (p : Passed g.row.X-Opening.Denot g.row.X-Entry.Denot). p.turn) c.pass.view_is ∙ c.requires.free) c.pass.invariant.stands in
    let other = stands_idle _ _ _ _ (ap (λ (p : Passed g.row.X-Opening.Denot g.row.X-Entry.Denot). p.turn) c.other.view_is ∙ c.requires.other_free) c.other.invariant.stands in
    (search rules, search rules, other.1, search rules, joins _ _ _ _ _ _ _ _ _ _ c.pass.invariant.live c.other.invariant.live (c.pass.invariant.number_is ∙ (number ∙ c.requires.zero)) idle.0 other.0)
