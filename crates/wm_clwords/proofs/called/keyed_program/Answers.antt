use Rattle.wm_clwords.proofs.CallItems.{pgm_value, pgm_not_one}
use Rattle.wm_clwords.proofs.called.keyed_program.Goals as goal

pub returns-in_err-only-clause-all : goal.returns-in_err-only-clause-all
returns-in_err-only-clause-all c = λ pgm h.
    absurd (pgm_not_one _ c.in_ok-values.values.now pgm c.in_ok-values.ensures.some c.in_err-only.ensures.none h)

pub returns-clause-all : goal.returns-clause-all
returns-clause-all c = λ pgm h.
    c.read_program.ensures.all pgm (pgm_value _ c.in_ok-values.values.now c.in_ok-only.field-0.now pgm c.in_ok-values.ensures.some c.in_ok-only.ensures.some h)
