use Rattle.wm_tables.proofs.OneDifference.{differences_are_one}
use Rattle.wm_tables.proofs.change_laws.differences_are_one.Goals as goal

pub returns : goal.returns
returns c = differences_are_one
