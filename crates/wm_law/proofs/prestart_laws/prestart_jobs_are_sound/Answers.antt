use Rattle.wm_law.proofs.prestart_laws.prestart_jobs_are_sound.Goals as goal
use Rattle.wm_law.proofs.SoundPrestart.{opening_is_prestart_sound, states_are_prestart_sound, step_keeps_prestart_sound}

pub returns-clause-opening : goal.returns-clause-opening
returns-clause-opening c = opening_is_prestart_sound

pub returns-clause-step : goal.returns-clause-step
returns-clause-step c = step_keeps_prestart_sound

pub returns-clause-always : goal.returns-clause-always
returns-clause-always c = states_are_prestart_sound
