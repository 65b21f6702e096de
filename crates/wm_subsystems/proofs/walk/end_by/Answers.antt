use Rattle.wm_subsystems.proofs.Wished.{no_end}
use Rattle.wm_subsystems.proofs.walk.end_by.Goals as goal

pub returns-in_default-clause-jobs : goal.returns-in_default-clause-jobs
returns-in_default-clause-jobs c = no_end c.args.serial c.args.cause c.args.table.now.jobs c.in_default.is
