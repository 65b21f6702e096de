use Rattle.std.proofs.Common.{subst, sym}
use Rattle.wm_base.specs.Text.{IsText}
use Rattle.wm_clwords.proofs.Names.{IsText-name}
use Rattle.wm_clwords.proofs.call.name_bytes.Goals as goal

pub returns-clause-text : goal.returns-clause-text
returns-clause-text c = subst IsText (sym c.as_bytes.ensures.value) (IsText-name c.args.name.now c.as_bytes.ensures.name)
