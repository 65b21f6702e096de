use Rattle.std.proofs.Common.{◌≡◌, ◌&&◌, ◌||◌, Bool, false, not, ap, sym, ◌∙◌}
use Rattle.wm_law.specs.Prestart.{is_idle, is_to_run}
use Rattle.wm_law.specs.Wishes.{has_wish}
use Rattle.wm_jobs.specs.Marked.{standing_as}
use Rattle.wm_jobs.proofs.prestart.is_available.Goals as goal

pub returns-else-is_to_run : goal.returns-else-is_to_run
returns-else-is_to_run c = λ j.
    let st = c.args.standing.now in
    let idle : Bool = is_idle (standing_as st j) in
    let none : has_wish st.wish ≡ false = sym c.has_wish.ensures ∙ c.if-not-has_wish.true in
    let runs : is_to_run st.phase ≡ false = sym c.is_to_run.ensures ∙ c.if-is_to_run.false in
    c.is_idle.ensures j ∙ sym (ap (λ b. not b && (is_to_run st.phase || idle)) none ∙ ap (λ b. b || idle) runs)
