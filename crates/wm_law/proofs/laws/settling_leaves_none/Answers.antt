use Rattle.wm_law.proofs.laws.settling_leaves_none.Goals as goal
use Rattle.wm_law.proofs.Settling.{settled_has_no_next, settled_leaves_none}

pub returns-clause-next : goal.returns-clause-next
returns-clause-next c = settled_has_no_next

pub returns-clause-none : goal.returns-clause-none
returns-clause-none c = settled_leaves_none
