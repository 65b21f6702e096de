-- proofs/parts/Parts/view/Answers.antt
use Rattle.std.proofs.Common.{◌≡◌, IfOk, ap, ◌∙◌, subst}
use Rattle.wm_law.specs.declared.state.State.{State}
use Rattle.wm_views.specs.declared.shown.Shown.{Shown}
use Rattle.wm_views.specs.Views.{shown}
use Rattle.wm_views.proofs.OfParts.{shown_of_parts}
use Rattle.wm_views.proofs.parts.Parts.view.Goals as goal

pub returns : goal.returns
returns c s h =
    let a = c.args.ask.now in
    let same : shown c.args.self.now a ≡ shown s a = ap (λ (t : State). shown t a) h ∙ shown_of_parts s a in
    subst (λ (v : Shown). IfOk c.shown.result (λ view. view ≡ v)) same c.shown.ensures
