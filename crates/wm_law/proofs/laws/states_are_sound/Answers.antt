use Rattle.wm_law.proofs.Sound.{opening_is_sound, step_keeps_sound, states_are_sound}
use Rattle.wm_law.proofs.laws.states_are_sound.Goals as goal

pub returns-clause-opening : goal.returns-clause-opening
returns-clause-opening c = opening_is_sound

pub returns-clause-step : goal.returns-clause-step
returns-clause-step c = step_keeps_sound

pub returns-clause-always : goal.returns-clause-always
returns-clause-always c = states_are_sound
