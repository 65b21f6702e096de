use Rattle.std.proofs.Common.{rules, ◌≡◌, length, arith, refl, sym, ap, ◌∙◌, subst}
use Rattle.wm_turn.specs.Passed.{Passed}
use Rattle.wm_turn.proofs.Laid.{stands_idle}
use Rattle.wm_turn.proofs.Passes.{closes, has_value, stood, Stood}
use Rattle.wm_turn.proofs.turnstile.Turnstile.close.Goals as goal

pub unreachable-requires : goal.unreachable-requires
unreachable-requires g c =
    let number = ap (λ (p : Passed g.row.X-Opening.Denot g.row.X-Entry.Denot). p.number) c.pass.view_is in
    let idle = stands_idle _ _ _ _ (ap (λ (p : Passed g.row.X-Opening.Denot g.row.X-Entry.Denot). p.turn) c.pass.view_is ∙ c.requires.free) c.pass.invariant.stands in
    let all : length c.pass.inside.place.me.0.joined ≡ c.pass.inside.place.me.0.made = omega (arith, c.pass.invariant.out_is, c.pass.invariant.made_is, c.if-pass-gt0.false) in
    let end = closes _ _ _ _ _ _ _ c.pass.inside.place.me.0 _ _ c.pass.invariant.live (c.pass.invariant.number_is ∙ (number ∙ c.requires.zero)) idle.0 all c.close_with-closed.ensures.values.2 in
    c.in_default.not-Some end.value (has_value _ _ _ _ _ _ _ _ _ end c.take-slot.ensures.value)

pub returns : goal.returns
returns g c =
    let number = ap (λ (p : Passed g.row.X-Opening.Denot g.row.X-Entry.Denot). p.number) c.pass.view_is in
    let idle = stands_idle _ _ _ _ (ap (λ (p : Passed g.row.X-Opening.Denot g.row.X-Entry.Denot). p.turn) c.pass.view_is ∙ c.requires.free) c.pass.invariant.stands in
    let all : length c.pass.inside.place.me.0.joined ≡ c.pass.inside.place.me.0.made = omega (arith, c.pass.invariant.out_is, c.pass.invariant.made_is, c.if-pass-gt0.false) in
    let end = closes _ _ _ _ _ _ _ c.pass.inside.place.me.0 _ _ c.pass.invariant.live (c.pass.invariant.number_is ∙ (number ∙ c.requires.zero)) idle.0 all c.close_with-closed.ensures.values.2 in
    let told = subst (λ (p : Passed g.row.X-Opening.Denot g.row.X-Entry.Denot). Stood g.X.Standing.opening g.X.Standing.stands g.X.Standing.mark g.X.Standing.by g.X.Standing.fact (g.X.Standing.opening c.self.inside.table.shared.key.value) p c.in-Some.value) c.pass.view_is
    (stood _ _ _ _ _ _ _ _ _ _ c.pass.inside.place.table_id c.pass.inside.number c.pass.inside.made end c.take-slot.ensures.value c.in-Some.is c.pass.invariant.made_is) in
    let joined = ap (λ (p : Passed g.row.X-Opening.Denot g.row.X-Entry.Denot). length p.joined) c.pass.view_is in
    let made = ap (λ (p : Passed g.row.X-Opening.Denot g.row.X-Entry.Denot). p.made) c.pass.view_is in
    record {
      back = ((λ _. sym joined ∙ (all ∙ (c.pass.invariant.made_is ∙ made))), λ _. refl);
      err = search rules;
      whole = told.whole;
      opening = told.opening;
      mark = told.marked;
      mine = told.mine;
      joined = told.joined;
      all = told.all;
    }
