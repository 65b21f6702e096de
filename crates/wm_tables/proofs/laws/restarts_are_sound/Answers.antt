use Rattle.wm_tables.proofs.PrestartRestarts.{restart_is_prestart_sound, restart_is_within_maxuse}
use Rattle.wm_tables.proofs.Restarts.{restart_is_sound}
use Rattle.wm_tables.proofs.laws.restarts_are_sound.Goals as goal

pub returns-clause-sound : goal.returns-clause-sound
returns-clause-sound c = restart_is_sound

pub returns-clause-prestart : goal.returns-clause-prestart
returns-clause-prestart c = restart_is_prestart_sound

pub returns-clause-maxuse : goal.returns-clause-maxuse
returns-clause-maxuse c = restart_is_within_maxuse
