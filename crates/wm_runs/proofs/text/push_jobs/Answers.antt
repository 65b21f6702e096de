-- proofs/text/push_jobs/Answers.antt
use Rattle.std.proofs.Common.{◌++◌}
use Rattle.wm_runs.specs.Text.{job_lines}
use Rattle.wm_runs.proofs.Lines.{with_next_job}
use Rattle.wm_runs.proofs.text.push_jobs.Goals as goal

pub loop-at-preserved : goal.loop-at-preserved
loop-at-preserved c =
    let at = c.loop-at in
    let ensures = c.in_ok-push_job.ensures in
    let whole = c.args.text.now.items ++ job_lines c.args.jobs 1 c.args.draws.now.last in
    with_next_job c.args.jobs at.at at.draws.last c.push_job.new.draws.last at.text.items c.push_job.new.text.items whole c.loop-at-test.true ensures.text ensures.draws at.invariant
