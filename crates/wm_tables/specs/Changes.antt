-- Which rows a step changes.
use Rattle.std.specs.Prelude.{◌≡◌, ℕ, ◌==◌, Bool, true, false, not, List, [], ◌∷◌, ◌++◌, filter, Option, Some, None, option_map, option_to_list, if◌then◌else◌}
use Rattle.wm_base.specs.QName.{qname_text}
use Rattle.wm_base.specs.declared.qname.QName.{QName}
use Rattle.wm_traits.specs.declared.row.Row.{Row}
use Rattle.wm_traits.specs.declared.row.RowChange.{RowChange}
use Rattle.wm_traits.specs.declared.row.RowChange.TheVariants.{Put, Del}
use Rattle.wm_desc.specs.Table.{object_named}
use Rattle.wm_desc.specs.declared.description.Sbsd.{Sbsd}
use Rattle.wm_desc.specs.declared.objects.Objects.{Objects}
use Rattle.wm_law.specs.Choice.{entry_for}
use Rattle.wm_law.specs.Laws.{IsIn}
use Rattle.wm_law.specs.Sound.{HasJobsInOrder}
use Rattle.wm_law.specs.Stepped.{Stepped}
use Rattle.wm_law.specs.declared.call.Call.{Call}
use Rattle.wm_law.specs.declared.call.Call.TheVariants.{Change, Hand, Started, StartFailed, Finished, UseDone, Tick}
use Rattle.wm_law.specs.declared.call.Reply.{Reply}
use Rattle.wm_law.specs.declared.call.Reply.TheVariants.{Made, SbsStarted, SbsEnding, Submitted, Held, Released, Changed, JobEnding, JobEnded, QueueHeld, QueueReleased, QueueCleared, PreStarted, PreEnding, Evoked, EvokeWaits, UseEnded, PowerDown, Order, Nothing, Noted, No}
use Rattle.wm_law.specs.declared.command.Command.{Command}
use Rattle.wm_law.specs.declared.command.Command.TheVariants as command
use Rattle.wm_law.specs.declared.job.Job.{Job}
use Rattle.wm_law.specs.declared.state.State.{State}
use Rattle.wm_rows.specs.Places.{entry_place, numbered_place, object_place}
use Rattle.wm_rows.specs.Rows.{command_row, counter_row, held_row}
use Rattle.wm_rows.specs.declared.place.Place.{Place}
use Rattle.wm_rows.specs.declared.stored.Counter.{Counter}
use Rattle.wm_rows.specs.declared.stored.Counter.TheVariants as counter
use Rattle.wm_rows.specs.Stored.{IsStored, stored_of}
use Rattle.wm_jobs.specs.Table.{Table}
use Rattle.wm_tables.specs.Opened.{is_found}
use Rattle.wm_tables.specs.Tables.{job_rows, puts}
use Rattle.wm_tables.specs.declared.counts.Counts.{Counts}

-- Objects, entries and held queues

-- the number of a description's entry for a queue
abbrev pub number_in : QName → Option Sbsd → Option ℕ
number_in jobq None = None
number_in jobq (Some description) = option_map (λ entry. entry.seq) (entry_for jobq description)

-- RMVJOBQE names its entry by a queue: the number that the entry has before the step
abbrev pub number_of : Objects → Command → Option ℕ
number_of objects (command.Rmvjobqe c) = number_in c.jobq (object_named c.sbsd objects.sbsds)
number_of objects c = None

-- that of the entry that a call removes so
abbrev pub removed_number : Objects → Call → Option ℕ
removed_number objects (Change user c) = number_of objects c
removed_number objects Hand = None
removed_number objects (Started serial) = None
removed_number objects (StartFailed serial why) = None
removed_number objects (Finished serial end) = None
removed_number objects (UseDone serial) = None
removed_number objects Tick = None

-- the row at a place is deleted
abbrev pub deletion : Place → RowChange
deletion place = Del place.tab place.key

-- what an accepted command changes of objects, entries and held queues; the number is that of the entry that RMVJOBQE names
abbrev pub command_change : Option ℕ → Command → Option RowChange
command_change number (command.Rmvjobqe c) = option_map (λ n. deletion (numbered_place 6 c.sbsd n)) number
command_change number (command.Rmvrtge c) = Some (deletion (numbered_place 7 c.sbsd c.seqnbr))
command_change number (command.Rmvaje c) = Some (deletion (entry_place 8 c.sbsd c.job))
command_change number (command.Rmvpje c) = Some (deletion (entry_place 9 c.sbsd (qname_text c.pgm)))
command_change number (command.Hldjobq c) = Some (Put (held_row c.jobq))
command_change number (command.Rlsjobq c) = Some (deletion (object_place 10 c.jobq))
command_change number c = option_map (λ row. Put row) (command_row c)

-- an object, an entry or a held queue was made or removed
abbrev pub is_accepted : Reply → Bool
is_accepted Made = true
is_accepted (SbsStarted sbs) = false
is_accepted (SbsEnding sbs) = false
is_accepted (Submitted job jobq) = false
is_accepted (Held job) = false
is_accepted (Released job) = false
is_accepted (Changed job) = false
is_accepted (JobEnding job) = false
is_accepted (JobEnded job) = false
is_accepted QueueHeld = true
is_accepted QueueReleased = true
is_accepted (QueueCleared count) = false
is_accepted PreStarted = false
is_accepted PreEnding = false
is_accepted (Evoked job) = false
is_accepted (EvokeWaits count) = false
is_accepted (UseEnded job) = false
is_accepted PowerDown = false
is_accepted (Order asked) = false
is_accepted Nothing = false
is_accepted Noted = false
is_accepted (No refusal) = false

-- what a call changes of these, where its reply accepts it
abbrev pub call_change : Option ℕ → Call → Reply → Option RowChange
call_change number (Change user c) reply = if is_accepted reply then command_change number c else None
call_change number Hand reply = None
call_change number (Started serial) reply = None
call_change number (StartFailed serial why) reply = None
call_change number (Finished serial end) reply = None
call_change number (UseDone serial) reply = None
call_change number Tick reply = None

-- Jobs

-- the rows of jobs that aren't among those from before
abbrev pub new_job_rows : List Job → List Job → List Row
new_job_rows before after = filter (λ row. not (is_found (job_rows before) row)) (job_rows after)

-- Counters

-- the numbers that come next
abbrev pub counts_of : State → Counts
counts_of s = record { next_number = s.next_number; next_place = s.next_place; next_serial = s.next_serial }

-- the row of a counter, where it isn't what it was
abbrev pub counter_change : Counter → ℕ → ℕ → List RowChange
counter_change c before after = if before == after then [] else Put (counter_row c after) ∷ []

-- those of the three counters that steps change
abbrev pub counter_changes : Counts → Counts → List RowChange
counter_changes before after =
    counter_change counter.Number before.next_number after.next_number
    ++ counter_change counter.Place before.next_place after.next_place
    ++ counter_change counter.Serial before.next_serial after.next_serial

-- A step

-- what a step from a state to another changes: by its call, of the jobs, and of the counters
abbrev pub AreStepChanges : State → Call → Stepped → List RowChange → Type 0
AreStepChanges s call t changes =
    changes ≡ option_to_list (call_change (removed_number s.objects call) call t.reply)
    ++ puts (new_job_rows s.jobs t.state.jobs)
    ++ counter_changes (counts_of s) (counts_of t.state)

-- jobs stand in the order of their serials, and what is stored of them keeps its ranges
pub record AreKept (s : State) : Type 0 where
  pub order : HasJobsInOrder s
  pub stored : (j : Job) → IsIn j s.jobs → IsStored (stored_of j)

-- what is given of a step: its reply, the table of jobs after it that was marked before it, the number of a removed entry, and the counters before and after it
pub record IsTaken (s : State) (call : Call) (t : Stepped) (answer : Reply) (table : Table) (number : Option ℕ) (old new : Counts) : Type 0 where
  pub reply : answer ≡ t.reply
  pub marked : table.marked.jobs ≡ s.jobs
  pub jobs : table.jobs ≡ t.state.jobs
  pub removed : number ≡ removed_number s.objects call
  pub before : old ≡ counts_of s
  pub after : new ≡ counts_of t.state
  pub was : AreKept s
  pub is : AreKept t.state
