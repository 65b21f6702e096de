use Rattle.wm_clwords.proofs.ItemLemmas.{marks_of_keyed}
use Rattle.wm_clwords.proofs.levels.keyed_of.Goals as goal

pub returns : goal.returns
returns c = marks_of_keyed c.args.span c.args.key c.args.items
