-- What lies in a `Machine`.
use Rattle.std.specs.Prelude.{◌≡◌, true}
use Rattle.wm_law.specs.declared.state.State.{State}
use Rattle.wm_jobs.specs.Table.{IsReady}
use Rattle.wm_core.specs.declared.machine.Machine.TheInside.{Inside}
use Rattle.wm_core.specs.Marks.{Marks}

-- what a contract sees of a machine: the state, and what is kept of the state before the last step
pub record Seen : Type 0 where
  pub state : State
  pub marks : Marks

-- the state that a machine is seen as: the jobs, their next numbers and the clock are those of the job table
abbrev pub state_of : Inside → State
state_of m =
    record {
      objects = m.objects;
      jobs = m.table.jobs;
      started = m.started;
      held = m.held;
      stopped = m.stopped;
      evokes = m.evokes;
      next_number = m.next_number;
      next_serial = m.table.next_serial;
      next_place = m.table.next_place;
      clock = m.table.clock;
      offset_min = m.offset;
      power = m.power;
    }

abbrev pub seen_of : Inside → Seen
seen_of m = record { state = state_of m; marks = record { mark = m.mark; jobs = m.table.marked } }

-- what is needed to take the last step back is there
abbrev pub IsMachineInside : Inside → Type 0
IsMachineInside m = m.mark.undoable ≡ true → IsReady m.table
