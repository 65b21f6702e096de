use Rattle.std.proofs.Common.{rules, arith, ap, ◌∙◌}
use Rattle.wm_turn.specs.Passed.{Passed}
use Rattle.wm_turn.proofs.Passes.{splits}
use Rattle.wm_turn.proofs.turnstile.Turnstile.split.Goals as goal

pub split_seat-place-requires : goal.split_seat-place-requires
split_seat-place-requires g c =
    let number = ap (λ (p : Passed g.row.X-Opening.Denot g.row.X-Entry.Denot). p.number) c.pass.view_is in
    let made = ap (λ (p : Passed g.row.X-Opening.Denot g.row.X-Entry.Denot). p.made) c.pass.view_is in
    (search rules, search rules, splits _ _ _ _ _ _ _ _ c.pass.invariant.live (c.pass.invariant.number_is ∙ (number ∙ c.requires.zero)) (omega (arith, c.pass.invariant.made_is, made, c.requires.room)))
