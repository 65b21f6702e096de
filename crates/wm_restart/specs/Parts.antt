-- The state that rows make, of its parts.
use Rattle.wm_law.specs.Opening.{empty}
use Rattle.wm_law.specs.declared.state.State.{State}
use Rattle.wm_restart.specs.declared.reading.ReadParts.{ReadParts}

-- no subsystem is started, the clock is 0, and the power is On
abbrev pub parts_state : ReadParts → State
parts_state r =
    record (empty r.offset) {
      objects = r.objects;
      jobs = r.jobs.items;
      held = r.held;
      next_number = r.next_number;
      next_serial = r.next_serial;
      next_place = r.next_place;
    }
