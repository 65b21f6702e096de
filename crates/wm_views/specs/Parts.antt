-- The parts of a state that are shown.
use Rattle.std.specs.Prelude.{ℕ, List, [], pos}
use Rattle.wm_base.specs.declared.qname.QName.{QName}
use Rattle.wm_desc.specs.declared.objects.Objects.{Objects}
use Rattle.wm_law.specs.declared.job.Job.{Job}
use Rattle.wm_law.specs.declared.state.State.{State}
use Rattle.wm_law.specs.declared.state.Sbs.{Sbs}
use Rattle.wm_law.specs.declared.state.Power.TheVariants.{On}

-- a state that has these parts, and else nothing
abbrev pub with_parts : Objects → List Job → List Sbs → List QName → ℕ → State
with_parts objects jobs started held clock =
    record {
      objects = objects;
      jobs = jobs;
      started = started;
      held = held;
      stopped = [];
      evokes = [];
      next_number = 1;
      next_serial = 1;
      next_place = 1;
      clock = clock;
      offset_min = pos 0;
      power = On;
    }

-- the parts of a state
abbrev pub parts_of : State → State
parts_of s = with_parts s.objects s.jobs s.started s.held s.clock
