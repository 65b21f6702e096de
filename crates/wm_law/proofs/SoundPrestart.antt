-- What holds of prestart jobs in each state that a history reaches from a sound one.
use Rattle.std.proofs.Common.{[], ◌∷◌}
use Rattle.wm_law.specs.History.{stepped}
use Rattle.wm_law.specs.SoundPrestart.{OpeningIsPrestartSound, StatesArePrestartSound, StepKeepsPrestartSound}
use Rattle.wm_law.proofs.PresInOrder.{opening_has_pres_in_order, step_keeps_pres_in_order}
use Rattle.wm_law.proofs.Sound.{step_keeps_sound}
use Rattle.wm_law.proofs.Requests.{opening_uses, step_keeps_uses}
use Rattle.wm_law.proofs.Lists.{opening_lists, step_keeps_lists}

pub opening_is_prestart_sound : OpeningIsPrestartSound
opening_is_prestart_sound offset =
    let uses = opening_uses offset in
    let lists = opening_lists offset in
    record { order = opening_has_pres_in_order offset; requests = uses.0; uses = uses.1; stops_named = lists.0; requests_named = lists.1; requests_few = lists.2 }

pub step_keeps_prestart_sound : StepKeepsPrestartSound
step_keeps_prestart_sound s caller call moment sound h =
    let uses = step_keeps_uses s caller call moment sound.numbered sound.places h.requests h.uses in
    let lists = step_keeps_lists s caller call moment sound.places h.stops_named h.requests_named h.requests_few in
    record { order = step_keeps_pres_in_order s caller call moment sound.numbered h.order; requests = uses.0; uses = uses.1; stops_named = lists.0; requests_named = lists.1; requests_few = lists.2 }

pub states_are_prestart_sound : StatesArePrestartSound
states_are_prestart_sound s [] sound h = h
states_are_prestart_sound s (e ∷ es) sound h =
    states_are_prestart_sound (stepped s e).state es (step_keeps_sound s e.caller e.call e.moment sound) (step_keeps_prestart_sound s e.caller e.call e.moment sound h)
