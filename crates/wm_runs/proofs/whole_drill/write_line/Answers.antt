use Rattle.std.proofs.Common.{◌≡◌}
use Rattle.wm_runs.specs.Counts.{drill_line}
use Rattle.wm_runs.proofs.Drills.{part_first, whole_first}
use Rattle.wm_runs.proofs.whole_drill.write_line.Goals as goal

pub returns-in-Ok-write_all-clause-first : goal.returns-in-Ok-write_all-clause-first
returns-in-Ok-write_all-clause-first g c =
    let bytes = c.as_bytes.ensures.value in
    let line = c.in-Ok-line.ensures in
    let counts = c.in-Ok.ensures in
    let is : c.as_bytes.result.now ≡ drill_line c.args.plan.now c.args.log.now = cc in
    whole_first _ _ (drill_line c.args.plan.now c.args.log.now) c.as_bytes.result.now is c.in-Ok-write_all.ensures.ok

pub returns-clause-first : goal.returns-clause-first
returns-clause-first g c =
    let bytes = c.as_bytes.ensures.value in
    let line = c.in-Ok-line.ensures in
    let counts = c.in-Ok.ensures in
    let is : c.as_bytes.result.now ≡ drill_line c.args.plan.now c.args.log.now = cc in
    part_first _ _ (drill_line c.args.plan.now c.args.log.now) c.as_bytes.result.now is c.in-Err.ensures.err
