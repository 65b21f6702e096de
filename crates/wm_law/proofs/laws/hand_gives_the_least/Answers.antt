use Rattle.wm_law.proofs.Handing.{handed_kill_is_least, handed_start_is_least}
use Rattle.wm_law.proofs.laws.hand_gives_the_least.Goals as goal

pub returns-clause-kill : goal.returns-clause-kill
returns-clause-kill c = handed_kill_is_least

pub returns-clause-start : goal.returns-clause-start
returns-clause-start c = handed_start_is_least
