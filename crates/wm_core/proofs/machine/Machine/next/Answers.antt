use Rattle.std.proofs.Common.{◌∙◌, ap}
use Rattle.wm_law.specs.Choice.{next}
use Rattle.wm_core.proofs.machine.Machine.next.Goals as goal

pub returns : goal.returns
returns g c = c.next.ensures ∙ ap next c.parts.ensures
