use Rattle.wm_clwords.proofs.ItemLemmas.{marks_of_list}
use Rattle.wm_clwords.proofs.levels.list_of.Goals as goal

pub returns : goal.returns
returns c = marks_of_list c.args.span c.args.items
