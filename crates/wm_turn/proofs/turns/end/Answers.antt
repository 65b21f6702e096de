use Rattle.std.proofs.Common.{◌≡◌, ◌≢◌, ◌≤◌, ◌↔◌, IsTrue, sym, subst}
use Rattle.wm_turn.specs.declared.view.View.{View}
use Rattle.wm_turn.specs.Views.{IsTurn, before_of, failed_of, entered, noted}
use Rattle.wm_turn.proofs.Laid.{noted_is_turn, noted_marks, third_to}
use Rattle.wm_turn.proofs.turns.end.Goals as goal

pub pass_on-served-requires-clause-turn : goal.pass_on-served-requires-clause-turn
pass_on-served-requires-clause-turn g c =
    third_to _ _ _ _ c.args.place.now.me c.lay_in.new.place.me c.enter_entry.new.place.me c.mark.new.place.me c.lay_in.ensures.laid c.enter_entry.ensures.entered c.mark.ensures.noted (λ (v : View g.row.X-Opening.Denot g.row.X-Entry.Denot). IsTurn v.stage) (noted_is_turn c.marked-marked.result (g.X.Standing.mark c.of-kept.result.value) (entered (g.X.Standing.stands c.of-kept.result.value) c.args.place.now.me.0) c.requires.turn)

pub pass_on-served-requires-clause-marked : goal.pass_on-served-requires-clause-marked
pass_on-served-requires-clause-marked g c = let kept = c.of-kept.ensures in
    third_to _ _ _ _ c.args.place.now.me c.lay_in.new.place.me c.enter_entry.new.place.me c.mark.new.place.me c.lay_in.ensures.laid c.enter_entry.ensures.entered c.mark.ensures.noted (λ (v : View g.row.X-Opening.Denot g.row.X-Entry.Denot). failed_of v.stage ≡ 1 → g.X.Standing.mark c.of-kept.result.value ≢ 0)
    (noted_marks c.marked-marked.result (g.X.Standing.mark c.of-kept.result.value) (entered (g.X.Standing.stands c.of-kept.result.value) c.args.place.now.me.0) (subst (λ (x : g.row.X.Denot). IsTrue c.marked-marked.result ↔ (g.X.Standing.mark x ≢ 0)) (sym kept) c.marked-marked.ensures) c.requires.known
    (subst (λ (x : g.row.X.Denot). before_of c.args.place.now.me.0.stage ≤ g.X.Standing.mark x) (sym kept) c.requires.mark))
