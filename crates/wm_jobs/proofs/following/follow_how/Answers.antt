use Rattle.std.proofs.Common.{true, false, sym}
use Rattle.wm_jobs.specs.Marked.{standing_as}
use Rattle.wm_jobs.proofs.Followed.{how-joins, how-leaves, how-stays}
use Rattle.wm_jobs.proofs.following.follow_how.Goals as goal

pub returns-in-true-true-clause-hows : goal.returns-in-true-true-clause-hows
returns-in-true-true-clause-hows c = how-stays c.args.job.now (standing_as c.args.standing.now c.args.job.now) c.args.tally.now true (sym c.in-true-true.ensures) (sym c.in-true-true.ensures') c.requires.how

pub returns-in-true-false-clause-hows : goal.returns-in-true-false-clause-hows
returns-in-true-false-clause-hows c = how-leaves c.args.job.now (standing_as c.args.standing.now c.args.job.now) c.args.tally.now c.end.new.self (sym c.in-true-false.ensures) (sym c.in-true-false.ensures') c.end.ensures.hows

pub returns-in-false-true-clause-hows : goal.returns-in-false-true-clause-hows
returns-in-false-true-clause-hows c = how-joins c.args.job.now (standing_as c.args.standing.now c.args.job.now) c.args.tally.now c.start.new.self (sym c.in-false-true.ensures) (sym c.in-false-true.ensures') c.start.ensures.hows

pub returns-in-false-false-clause-hows : goal.returns-in-false-false-clause-hows
returns-in-false-false-clause-hows c = how-stays c.args.job.now (standing_as c.args.standing.now c.args.job.now) c.args.tally.now false (sym c.in-false-false.ensures) (sym c.in-false-false.ensures') c.requires.how
