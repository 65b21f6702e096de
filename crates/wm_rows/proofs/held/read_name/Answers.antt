use Rattle.std.proofs.Common.{inr, refl, ◌∙◌}
use Rattle.wm_clwords.specs.Grammar.{Quoted}
use Rattle.wm_rows.proofs.held.read_name.Goals as goal

pub returns-in-None-clause-exactly : goal.returns-in-None-clause-exactly
returns-in-None-clause-exactly c = λ q fit same.
    c.in-None.ensures.all q (Quoted c.in_ok-clone.field-0, refl, (fit.name, inr (fit.lib, c.in_ok-clone.ensures.cases ∙ same)))

pub returns-clause-exactly : goal.returns-clause-exactly
returns-clause-exactly c = λ q fit same.
    c.in-Some.ensures.all q (Quoted c.in_ok-clone.field-0, refl, (fit.name, inr (fit.lib, c.in_ok-clone.ensures.cases ∙ same)))
