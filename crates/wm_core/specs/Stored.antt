-- The state that a machine has from a store.
use Rattle.wm_law.specs.declared.state.State.{State}
use Rattle.wm_law.specs.Opening.{empty}
use Rattle.wm_core.specs.declared.stored.Kept.{Kept}

-- what the store has; no subsystem is started, the clock is 0, and the power is On
abbrev pub kept_state : Kept → State
kept_state k = record (empty k.offset) { objects = k.objects; jobs = k.jobs.items; held = k.held; next_number = k.next_number; next_serial = k.next_serial; next_place = k.next_place }
