use Rattle.wm_clwords.proofs.LinesLaw.{length-lines_from}
use Rattle.wm_clwords.proofs.joiner.no_line_waits.Goals as goal

pub returns : goal.returns
returns c = length-lines_from
