use Rattle.wm_children.proofs.Programs.{contained}
use Rattle.wm_children.proofs.started.kill_child.Goals as goal

pub returns : goal.returns
returns c = contained _ _ _ c.is_out.ensures
