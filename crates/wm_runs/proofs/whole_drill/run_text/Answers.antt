use Rattle.std.proofs.Common.{arith}
use Rattle.wm_runs.proofs.DrillRuns.{none_bad_found, not_too_long, run_over}
use Rattle.wm_runs.proofs.Statuses.{left_statuses}
use Rattle.wm_runs.proofs.whole_drill.run_text.Goals as goal

pub returns-clause-statuses : goal.returns-clause-statuses
returns-clause-statuses g c =
    let ran = c.run_kept-ran.ensures in
    let over = run_over _ c.args.text.items _ _ _ _ _ _ _ _ _ _ _ _ _ _ _ c.settings.ensures c.new-input.ensures c.new-2.ensures.tables c.new-2.ensures.trail c.new-replies.ensures c.new-spawner.ensures.asked c.new-spawner.ensures.told ran.history ran.served in
    left_statuses c.run_kept-ran.result.0.status ran.statuses ran.begun
    (λ is. (let more = ran.read_fault is in absurd (omega (arith, more))))
    (λ is. (let more = ran.write_fault is in absurd (omega (arith, more))))
    (λ is. (let more = ran.keeper_fault is in absurd (omega (arith, more))))
    (λ is. (let more = ran.wait_fault is in absurd (omega (arith, more))))
    (λ is. none_bad_found c.settings.result _ _ c.settings.ensures c.new-2.ensures.tables (ran.bad_row is))
    (λ is. not_too_long c.args.text.items _ _ _ over c.requires is)
