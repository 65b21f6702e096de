use Rattle.std.proofs.Common.{◌≡◌, ◌≤◌, ℕ, List, length, refl, subst, sym, arith, inl, inr}
use Rattle.std.proofs.lemmas.Bool.Decides.{nat_tests}
use Rattle.wm_runs.proofs.Drills.{drilled, memory_wanting}
use Rattle.wm_runs.proofs.Lengths.{drill_short}
use Rattle.wm_runs.proofs.whole_drill.drill_planned.Goals as goal

pub returns-in_default-clause-history : goal.returns-in_default-clause-history
returns-in_default-clause-history g c = memory_wanting c.args.plan.now _ _ c.not_begun.result.kept c.not_begun.ensures.status c.not_begun.ensures.log c.not_begun.ensures.kept

pub run_text-ran-requires : goal.run_text-ran-requires
run_text-ran-requires g c = subst (λ (text : List ℕ). length text ≤ 1000000000) (sym c.in-Ok.ensures) (drill_short c.args.plan.now.seed c.args.plan.now.jobs c.requires)

pub returns-else-ran-eq0-clause-history : goal.returns-else-ran-eq0-clause-history
returns-else-ran-eq0-clause-history g c = drilled c.args.plan.now _ c.run_text-ran.result.status c.in-Ok.text.items _ _ c.in-Ok.ensures c.run_text-ran.ensures.history (inr refl)

pub returns-then-ran-eq0-clause-history : goal.returns-then-ran-eq0-clause-history
returns-then-ran-eq0-clause-history g c =
    let t = c.if-ran-eq0.true in
    let none : c.run_text-ran.result.status ≡ 0 = grind (arith, nat_tests) in
    drilled c.args.plan.now _ c.run_text-ran.result.status c.in-Ok.text.items _ _ c.in-Ok.ensures c.run_text-ran.ensures.history (inl none)
