-- What a machine keeps of the state before its last step, and which state that was.
use Rattle.std.specs.Prelude.{true}
use Rattle.wm_law.specs.declared.call.Call.{Call}
use Rattle.wm_law.specs.declared.state.State.{State}
use Rattle.wm_making.specs.Saved.{saved_of, old_objects, old_held}
use Rattle.wm_jobs.specs.Marked.{Marked}
use Rattle.wm_core.specs.declared.mark.Mark.{Mark}

-- what is kept of the state before a step, and of the jobs
pub record Marks : Type 0 where
  pub mark : Mark
  pub jobs : Marked

-- what is kept of a state as a call begins, from which on it can be taken back
abbrev pub marks_at : State → Call → Marks
marks_at s call =
    record {
      mark = record { saved = saved_of s.objects s.held call; started = s.started; stopped = s.stopped; evokes = s.evokes; next_number = s.next_number; power = s.power; undoable = true };
      jobs = record { jobs = s.jobs; clock = s.clock; next_serial = s.next_serial; next_place = s.next_place };
    }

-- a state with the jobs, their next numbers and the clock that were kept
abbrev pub jobs_before : Marks → State → State
jobs_before m s = record s { jobs = m.jobs.jobs; next_serial = m.jobs.next_serial; next_place = m.jobs.next_place; clock = m.jobs.clock }

-- the state before the step that a state was left by
abbrev pub before : Marks → State → State
before m s =
    record (jobs_before m s) {
      objects = old_objects m.mark.saved s.objects;
      started = m.mark.started;
      held = old_held m.mark.saved s.held;
      stopped = m.mark.stopped;
      evokes = m.mark.evokes;
      next_number = m.mark.next_number;
      power = m.mark.power;
    }
