-- The parts of a state that a choice looks at.
use Rattle.std.specs.Prelude.{◌≡◌, ℕ, List, [], Option, None, filter_map, option_map, if◌then◌else◌, pos}
use Rattle.wm_base.specs.declared.qname.QName.{QName}
use Rattle.wm_desc.specs.declared.entry.QueueEntry.{QueueEntry}
use Rattle.wm_desc.specs.declared.objects.Objects.{Objects}
use Rattle.wm_law.specs.declared.choice.Candidate.{Candidate}
use Rattle.wm_law.specs.declared.job.Job.{Job}
use Rattle.wm_law.specs.declared.state.State.{State}
use Rattle.wm_law.specs.declared.state.Sbs.{Sbs}
use Rattle.wm_law.specs.declared.state.Power.TheVariants.{On}
use Rattle.wm_law.specs.Counts.{is_waiting}
use Rattle.wm_pick.specs.Tally.{Counts, IsTally}
use Rattle.wm_ordered.specs.declared.waiter.Waiter.{Waiter}
use Rattle.wm_ordered.specs.Waiting.{Waiting, HavePlaces, HavePriorities}
use Rattle.wm_pick.specs.Tallied.{hows}

-- a state that has these parts, and else nothing
abbrev pub with_parts : Objects → List Job → List Sbs → List QName → ℕ → State
with_parts objects jobs started held clock =
    record {
      objects = objects;
      jobs = jobs;
      started = started;
      held = held;
      stopped = [];
      evokes = [];
      next_number = 1;
      next_serial = 1;
      next_place = 1;
      clock = clock;
      offset_min = pos 0;
      power = On;
    }

-- the parts of a state
abbrev pub parts_of : State → State
parts_of s = with_parts s.objects s.jobs s.started s.held s.clock

-- a job, as one that waits on a queue
abbrev pub waiter_on : QName → Job → Waiter
waiter_on queue j = record { serial = j.serial; jobq = queue; pty = j.pty; place = j.place; held = j.held; due = j.due }

-- a job that waits on its queue
abbrev pub waiter_of : Job → Option Waiter
waiter_of j = if is_waiting j.phase then option_map (λ queue. waiter_on queue j) j.jobq else None

-- the jobs that wait on a queue, in the order of the jobs
abbrev pub waiters : List Job → List Waiter
waiters jobs = filter_map waiter_of jobs

-- what one that waits is as the candidate of a subsystem's entry
abbrev pub candidate_waiting : QName → QueueEntry → Waiter → Candidate
candidate_waiting sbs e w = record { rank = record { sbs = sbs.name; seq = e.seq; pty = w.pty; place = w.place }; sbs = sbs; jobq = e.jobq; serial = w.serial }

-- what is lent beside the jobs is theirs: who waits, up to the same clock, and the tally of the active jobs' hows
pub record IsLent (jobs : List Job) (clock : ℕ) (waiting : Waiting) (tally : Counts) : Type 0 where
  pub items : waiting.items ≡ waiters jobs
  pub up_to : waiting.clock ≡ clock
  pub counts : IsTally (hows jobs) tally
  pub places : HavePlaces waiting.items
  pub priorities : HavePriorities waiting.items
