use Rattle.wm_clwords.proofs.called.program.Goals as goal

pub returns-in-None-clause-keyed : goal.returns-in-None-clause-keyed
returns-in-None-clause-keyed c = λ pgm h. cc (c.in-None.ensures.all pgm h)
