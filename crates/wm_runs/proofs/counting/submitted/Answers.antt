-- proofs/counting/submitted/Answers.antt
use Rattle.std.proofs.Common.{sym, ◌∙◌, arith}
use Rattle.wm_runs.specs.Counts.{submits}
use Rattle.wm_runs.proofs.Counted.{counted, uncounted}
use Rattle.wm_runs.proofs.counting.submitted.Goals as goal
use Rattle.wm_runs.proofs.counting.submitted.Goals.{then-submits, else-submits}

pub loop-at-preserved : goal.loop-at-preserved
loop-at-preserved c =
    let log = c.args.log.now in
    let e = c.in-Some.entry.now in
    let before = c.loop-at.invariant in
    let says = sym c.submits.ensures in
    elim c.if-submits.branch [
      | then-submits w ↦ (
        counted submits log c.loop-at.at e c.loop-at.count c.if-submits.count c.in-Some.ensures before.0 (says ∙ w.if-submits.true) w.count-is,
        omega (arith, w.count-is, before.1),
      )
      | else-submits w ↦ (
        uncounted submits log c.loop-at.at e c.loop-at.count c.if-submits.count c.in-Some.ensures before.0 (says ∙ w.if-submits.false) w.count-is,
        omega (arith, w.count-is, before.1),
      )
    ]
