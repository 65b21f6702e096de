use Rattle.std.proofs.Common.{◌∙◌, ap, arith}
use Rattle.std.proofs.lemmas.Grind.{common_steps}
use Rattle.wm_outside.specs.Children.{serials}
use Rattle.wm_outside.proofs.Reports.{serials_marked}
use Rattle.wm_outside.proofs.memory.children.Children.kill.Goals as goal

pub returns-clause-killed : goal.returns-clause-killed
returns-clause-killed c = grind (arith, common_steps)

pub returns-clause-out : goal.returns-clause-out
returns-clause-out c = ap serials (returns-clause-killed c) ∙ serials_marked _ _
