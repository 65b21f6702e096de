use Rattle.wm_subsystems.proofs.Wished.{no_wish}
use Rattle.wm_subsystems.proofs.walk.give_wish.Goals as goal

pub returns-in_default-clause-jobs : goal.returns-in_default-clause-jobs
returns-in_default-clause-jobs c = no_wish c.args.serial c.args.wish c.args.table.now.jobs c.in_default.is
