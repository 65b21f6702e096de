use Rattle.wm_clwords.proofs.LinesLaw.{lines_from-fresh}
use Rattle.wm_clwords.proofs.joiner.Joiner.new.Goals as goal

pub returns : goal.returns
returns c = lines_from-fresh
