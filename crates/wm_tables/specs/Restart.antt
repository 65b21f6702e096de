-- The state that rows make, and which row isn't good.
use Rattle.std.specs.Prelude.{◌≡◌, ◌⊎◌, ℕ, ◌+◌, ◌≤◌, ℤ, false, ◌&&◌, ◌==◌, Bool, List, [], ◌∷◌, ◌++◌, length, map, max, take, slice_get, Option, Some, None, codes, IsTrue}
use Rattle.std.specs.List.{Contains, list_any}
use Rattle.std.specs.Option.{IsSome}
use Rattle.wm_base.specs.declared.job.EndCause.TheVariants.{Restarted}
use Rattle.wm_base.specs.declared.job.How.TheVariants.{NotYet}
use Rattle.wm_base.specs.declared.qname.QName.{QName}
use Rattle.wm_traits.specs.declared.row.Row.{Row}
use Rattle.wm_traits.specs.Rows.{IsInOrder}
use Rattle.wm_desc.specs.Ranges.{request_in_range}
use Rattle.wm_desc.specs.Table.{object_named}
use Rattle.wm_desc.specs.declared.objects.Objects.{Objects}
use Rattle.wm_law.specs.Counts.{is_waiting}
use Rattle.wm_law.specs.Fit.{IsBetween, IsCommand, IsQName}
use Rattle.wm_law.specs.Machine.{change}
use Rattle.wm_law.specs.Opening.{empty, opening}
use Rattle.wm_law.specs.Queues.{hold_queue}
use Rattle.wm_law.specs.Submitting.{numbers_end, serials_end}
use Rattle.wm_law.specs.declared.call.Reply.TheVariants.{Made, QueueHeld}
use Rattle.wm_law.specs.declared.command.Command.{Command}
use Rattle.wm_law.specs.declared.job.Job.{Job}
use Rattle.wm_law.specs.declared.job.JobKind.{JobKind}
use Rattle.wm_law.specs.declared.job.JobKind.TheVariants.{Bch, Asj, Pj}
use Rattle.wm_law.specs.declared.job.Phase.{Phase}
use Rattle.wm_law.specs.declared.job.Phase.TheVariants as phase
use Rattle.wm_law.specs.declared.job.Wish.TheVariants.{NoWish}
use Rattle.wm_law.specs.declared.state.State.{State}
use Rattle.wm_rows.specs.Rows.{command_row, counter_row, held_row}
use Rattle.wm_rows.specs.declared.stored.Counter.{Counter}
use Rattle.wm_rows.specs.declared.stored.Counter.TheVariants as counter
use Rattle.wm_rows.specs.JobText.{job_row}
use Rattle.wm_rows.specs.Stored.{IsStored}
use Rattle.wm_rows.specs.declared.stored_job.StoredJob.{StoredJob}
use Rattle.wm_rows.specs.declared.stored_job.StoredPhase.{StoredPhase}
use Rattle.wm_rows.specs.declared.stored_job.StoredPhase.TheVariants.{Waiting, Active, Ended}

-- Jobs

-- a job that was active at the stop is ended by it
abbrev pub phase_of : StoredPhase → Phase
phase_of Waiting = phase.Waiting
phase_of Active = phase.Ended Restarted
phase_of (Ended cause) = phase.Ended cause

-- the job of what was stored of it
abbrev pub job_of : StoredJob → Job
job_of j =
    record {
      serial = j.serial;
      job = record { number = j.number; user = j.user; name = j.name };
      kind = j.kind;
      jobq = j.jobq;
      pty = j.pty;
      place = j.place;
      rtgdta = j.rtgdta;
      rqsdta = j.rqsdta;
      held = j.held;
      due = j.due;
      phase = phase_of j.phase;
      how = NotYet;
      wish = NoWish;
      uses = 0;
      evoke = false;
    }

-- the state with a stored job behind its jobs; the next numbers are above those of the job
abbrev pub with_stored : State → StoredJob → State
with_stored s j =
    record s {
      jobs = s.jobs ++ job_of j ∷ [];
      next_number = max s.next_number (j.number + 1);
      next_serial = max s.next_serial (j.serial + 1);
      next_place = max s.next_place (j.place + 1);
    }

-- no queue, priority 5, place 0, not held
pub record HasOwnValues (j : StoredJob) : Type 0 where
  pub jobq : j.jobq ≡ None
  pub pty : j.pty ≡ 5
  pub place : j.place ≡ 0
  pub held : j.held ≡ false

-- a submitted job has a queue that is an object; an autostart or prestart job has its own values, a prestart job one blank as routing data and no request
abbrev pub IsOfKind : Objects → JobKind → StoredJob → Type 0
IsOfKind objects Bch j = (q : QName) × (j.jobq ≡ Some q) × IsSome (object_named q objects.jobqs)
IsOfKind objects Asj j = HasOwnValues j
IsOfKind objects Pj j = HasOwnValues j × (j.rtgdta ≡ codes " ") × (j.rqsdta ≡ None)

-- routing data of 1 to 80 characters, a request of at most 1,000
pub record HasLengths (j : StoredJob) : Type 0 where
  pub rtgdta : IsBetween 1 80 (length j.rtgdta)
  pub rqsdta : IsTrue (request_in_range j.rqsdta)

-- one of the jobs has the number
abbrev pub is_used : ℕ → List Job → Bool
is_used number jobs = list_any (λ k. k.job.number == number) jobs

-- one of the jobs waits at the place
abbrev pub is_taken : ℕ → List Job → Bool
is_taken place jobs = list_any (λ k. is_waiting k.phase && k.place == place) jobs

-- a stored job that keeps its ranges, with a number of its own; only a submitted job waits, at a place of its own
pub record IsGoodJob (s : State) (j : StoredJob) : Type 0 where
  pub stored : IsStored j
  pub lengths : HasLengths j
  pub kind : IsOfKind s.objects j.kind j
  pub waits : j.phase ≡ Waiting → j.kind ≡ Bch
  pub number : is_used j.number s.jobs ≡ false
  pub place : j.phase ≡ Waiting → is_taken j.place s.jobs ≡ false

-- Counters

-- the state with what a counter says; the schema says nothing of it
abbrev pub with_counter : State → Counter → ℕ → State
with_counter s counter.Number n = record s { next_number = n }
with_counter s counter.Place n = record s { next_place = n }
with_counter s counter.Schema n = s
with_counter s counter.Serial n = record s { next_serial = n }

-- a counter isn't below what the jobs before it have reached, and keeps its range; the schema is 1
abbrev pub IsGoodCount : State → Counter → ℕ → Type 0
IsGoodCount s counter.Number n = IsBetween s.next_number numbers_end n
IsGoodCount s counter.Place n = IsBetween s.next_place serials_end n
IsGoodCount s counter.Schema n = n ≡ 1
IsGoodCount s counter.Serial n = IsBetween s.next_serial serials_end n

-- What one row makes

-- the row's command makes an object or an entry, which the machine doesn't refuse
pub record Makes (s : State) (row : Row) (t : State) : Type 0 where
  pub command : Command
  pub fit : IsCommand command
  pub is_row : command_row command ≡ Some row
  pub accepted : (change s (codes "QSYS") command).reply ≡ Made
  pub makes : t ≡ (change s (codes "QSYS") command).state

-- the row holds a queue, which the machine doesn't refuse
pub record Holds (s : State) (row : Row) (t : State) : Type 0 where
  pub queue : QName
  pub fit : IsQName queue
  pub is_row : held_row queue ≡ row
  pub accepted : (hold_queue s queue).reply ≡ QueueHeld
  pub makes : t ≡ (hold_queue s queue).state

-- the row is that of a good job
pub record Enters (s : State) (row : Row) (t : State) : Type 0 where
  pub job : StoredJob
  pub is_row : job_row job ≡ row
  pub good : IsGoodJob s job
  pub makes : t ≡ with_stored s job

-- the row is that of a good counter
pub record Counts (s : State) (row : Row) (t : State) : Type 0 where
  pub counter : Counter
  pub count : ℕ
  pub is_row : counter_row counter count ≡ row
  pub good : IsGoodCount s counter count
  pub makes : t ≡ with_counter s counter count

-- one row makes a state of a state
abbrev pub Takes : State → Row → State → Type 0
Takes s row t = Makes s row t ⊎ Holds s row t ⊎ Enters s row t ⊎ Counts s row t

-- What rows make

-- rows make a state of a state, one after another
abbrev pub IsRead : State → List Row → State → Type 0
IsRead s [] t = t ≡ s
IsRead s (row ∷ rows) t = (u : State) × Takes s row u × IsRead u rows t

-- rows in their order make a state of none, where local time is so many minutes ahead of UTC
pub record AreGood (offset : ℤ) (rows : List Row) (s : State) : Type 0 where
  pub order : IsInOrder rows
  pub read : IsRead (empty offset) rows s

-- no counter lacks
abbrev pub HasCounters : List Row → Type 0
HasCounters rows = (c : Counter) → (n : ℕ) × Contains rows (counter_row c n)

-- the state that a run opens with: that of the opening commands where there are no rows, else the one that they make
abbrev pub IsRestart : ℤ → List Row → State → Type 0
IsRestart offset [] s = s ≡ opening offset
IsRestart offset (row ∷ rows) s = AreGood offset (row ∷ rows) s × HasCounters (row ∷ rows)

-- behind the rows that make a state: where there is a row, no state is made with it; where there is none, a counter lacks
abbrev pub IsNotGood : ℤ → List Row → ℕ → State → Option Row → Type 0
IsNotGood offset rows n s None = HasCounters rows → ⊥
IsNotGood offset rows n s (Some row) = IsInOrder (take (n + 1) rows) → (t : State) → Takes s row t → ⊥

-- the first row that isn't good has this number, counted from 0; where all are good but a counter lacks, it is the number of rows
pub record IsBad (offset : ℤ) (rows : List Row) (n : ℕ) : Type 0 where
  pub some : 1 ≤ length rows
  pub within : n ≤ length rows
  pub state : State
  pub before : AreGood offset (take n rows) state
  pub not_good : IsNotGood offset rows n state (slice_get rows n)

-- What a stop leaves of a state

-- what a new run knows of a job: one that was active has ended
abbrev pub restarted_phase : Phase → Phase
restarted_phase phase.Waiting = phase.Waiting
restarted_phase phase.Starting = phase.Ended Restarted
restarted_phase (phase.Handed monitor) = phase.Ended Restarted
restarted_phase (phase.Running monitor) = phase.Ended Restarted
restarted_phase (phase.Ended cause) = phase.Ended cause

abbrev pub restarted_job : Job → Job
restarted_job j = record j { phase = restarted_phase j.phase; how = NotYet; wish = NoWish; uses = 0; evoke = false }

-- the objects, the held queues, the jobs and the counters of a state, and nothing else of it
abbrev pub restarted : ℤ → State → State
restarted offset s =
    record (empty offset) {
      objects = s.objects;
      jobs = map restarted_job s.jobs;
      held = s.held;
      next_number = s.next_number;
      next_serial = s.next_serial;
      next_place = s.next_place;
    }
