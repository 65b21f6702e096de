use Rattle.wm_clwords.proofs.CallItems.{pgm_of_one, pgm_no_item}
use Rattle.wm_clwords.proofs.called.program_alone.Goals as goal

pub returns-in_err-only-clause-all : goal.returns-in_err-only-clause-all
returns-in_err-only-clause-all c = λ pgm h. absurd (pgm_no_item c.args.items.now pgm c.in_err-only.ensures.none h)

pub returns-clause-all : goal.returns-clause-all
returns-clause-all c = λ pgm h. c.keyed_program.ensures.all pgm (pgm_of_one c.args.items.now c.in_ok-only.field-0.now pgm c.in_ok-only.ensures.some h)
