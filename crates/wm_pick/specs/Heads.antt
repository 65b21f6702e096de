-- Which job starts next, by the heads of the queues: the entries of a subsystem in the order of their numbers, and at each
-- the priorities from 1 to 9. `first` of `wm_law` goes over all jobs instead, and `HeadsAreFirst` says that the two are one.
use Rattle.std.specs.Prelude.{◌≡◌, ℕ, ◌≤◌, Bool, true, false, ◌&&◌, ◌==◌, List, [], Option, Some, None, filter, find, fold, nat_lt, option_map, if◌then◌else◌}
use Rattle.std.specs.List.{range_with_len}
use Rattle.std.specs.Option.{option_or}
use Rattle.std.specs.Ordering.{nat_cmp}
use Rattle.wm_base.specs.declared.qname.QName.{QName}
use Rattle.wm_base.specs.Limit.{is_below}
use Rattle.wm_desc.specs.declared.description.Sbsd.{Sbsd}
use Rattle.wm_desc.specs.declared.entry.QueueEntry.{QueueEntry}
use Rattle.wm_desc.specs.Sorted.{IsSortedOnce}
use Rattle.wm_desc.specs.Table.{same_qname, object_named}
use Rattle.wm_law.specs.declared.choice.Candidate.{Candidate}
use Rattle.wm_law.specs.declared.job.Job.{Job}
use Rattle.wm_law.specs.declared.state.Sbs.{Sbs}
use Rattle.wm_law.specs.declared.state.State.{State}
use Rattle.wm_law.specs.Choice.{entry_for, first, holder, is_ready, is_sbs_active, maxpty_of}
use Rattle.wm_law.specs.Counts.{count_in_sbs, count_from_queue, count_from_priority}
use Rattle.wm_law.specs.Laws.{IsIn}

-- the first of what the elements of a list give
abbrev pub first_given : {X Y : Type 0} → (X → Option Y) → List X → Option Y
first_given give xs = fold (λ found x. option_or found (give x)) None xs

-- of two jobs the one of lesser place, the first where neither has it
abbrev pub nearer : Option Job → Job → Option Job
nearer None j = Some j
nearer (Some best) j = if nat_lt j.place best.place then Some j else Some best

-- whether a job's queue is this one
abbrev pub is_on : QName → Option QName → Bool
is_on queue None = false
is_on queue (Some q) = same_qname q queue

-- whether the job is ready, on the queue and with the priority
abbrev pub is_turn : State → QName → ℕ → Job → Bool
is_turn s queue pty j = is_ready s j && is_on queue j.jobq && j.pty == pty

-- the head of a queue and priority: of the jobs that are ready there, the one of least place
abbrev pub head_of : State → QName → ℕ → Option Job
head_of s queue pty = fold nearer None (filter (is_turn s queue pty) s.jobs)

-- what a job is as the candidate of a subsystem's entry
abbrev pub candidate_by : QName → QueueEntry → Job → Candidate
candidate_by sbs e j = record { rank = record { sbs = sbs.name; seq = e.seq; pty = j.pty; place = j.place }; sbs = sbs; jobq = e.jobq; serial = j.serial }

-- an entry's head at a priority, where the count of that priority is below its limit
abbrev pub head_at : State → QName → QueueEntry → ℕ → Option Candidate
head_at s sbs e pty =
    if is_below (count_from_priority sbs e.jobq pty s.jobs) (maxpty_of e pty)
    then option_map (candidate_by sbs e) (head_of s e.jobq pty)
    else None

-- the priorities, in their order
unfoldable pub priorities : List ℕ
priorities = range_with_len 1 9

-- the head of an entry: that of the first priority that is below its limit and has one
abbrev pub entry_head : State → QName → QueueEntry → Option Candidate
entry_head s sbs e = first_given (head_at s sbs e) priorities

-- whether the holder of a queue is the subsystem
abbrev pub is_holder : QName → Option Sbs → Bool
is_holder sbs None = false
is_holder sbs (Some b) = same_qname b.sbsd sbs

-- whether the entry that a description has for a queue is this one
abbrev pub is_same_entry : QueueEntry → Option QueueEntry → Bool
is_same_entry e None = false
is_same_entry e (Some f) = f.seq == e.seq

-- the subsystem holds the entry's queue, the entry is the description's for that queue, and its count is below its limit
abbrev pub is_open : State → QName → Sbsd → QueueEntry → Bool
is_open s sbs d e = is_holder sbs (holder s e.jobq) && is_same_entry e (entry_for e.jobq d) && is_below (count_from_queue sbs e.jobq s.jobs) e.maxact

-- the head of an entry that is open
abbrev pub open_head : State → QName → Sbsd → QueueEntry → Option Candidate
open_head s sbs d e = if is_open s sbs d e then entry_head s sbs e else None

-- the first open entry's head, in the order of the entries' numbers
abbrev pub first_head : State → QName → Sbsd → Option Candidate
first_head s sbs d = first_given (open_head s sbs d) d.queues

-- the subsystem is Active, and its count is below its limit
abbrev pub takes_jobs : State → Sbs → Sbsd → Bool
takes_jobs s b d = is_sbs_active b.phase && is_below (count_in_sbs b.sbsd s.jobs) d.maxjobs

abbrev pub first_described : State → Sbs → Option Sbsd → Option Candidate
first_described s b None = None
first_described s b (Some d) = if takes_jobs s b d then first_head s b.sbsd d else None

abbrev pub first_started : State → Option Sbs → Option Candidate
first_started s None = None
first_started s (Some b) = first_described s b (object_named b.sbsd s.objects.sbsds)

-- the first started subsystem of a name
abbrev pub started_named : QName → List Sbs → Option Sbs
started_named sbs started = find (λ b. same_qname b.sbsd sbs) started

-- the first of a subsystem, by the heads of its entries
abbrev pub first_by_heads : State → QName → Option Candidate
first_by_heads s sbs = first_started s (started_named sbs s.started)

-- the queue entries of a description, and none where there is no description
abbrev pub queues_in : Option Sbsd → List QueueEntry
queues_in None = []
queues_in (Some d) = d.queues

-- the queue entries of a subsystem's description
abbrev pub queues_of : State → QName → List QueueEntry
queues_of s sbs = queues_in (object_named sbs s.objects.sbsds)

-- ready jobs of one place are one job, by its serial and its queue; priorities are 1 to 9; and the subsystem's queue entries
-- stand in the order of their numbers, each number once
pub record IsOrderly (s : State) (sbs : QName) : Type 0 where
  pub serials : (j k : Job) → IsIn j s.jobs → IsIn k s.jobs → is_ready s j ≡ true → is_ready s k ≡ true → j.place ≡ k.place → j.serial ≡ k.serial
  pub queues : (j k : Job) → IsIn j s.jobs → IsIn k s.jobs → is_ready s j ≡ true → is_ready s k ≡ true → j.place ≡ k.place → j.jobq ≡ k.jobq
  pub least : (j : Job) → IsIn j s.jobs → is_ready s j ≡ true → 1 ≤ j.pty
  pub greatest : (j : Job) → IsIn j s.jobs → is_ready s j ≡ true → j.pty ≤ 9
  pub entries : IsSortedOnce (λ e. e.seq) nat_cmp (queues_of s sbs)

-- the first by the heads of a subsystem's entries is the first of all its jobs
abbrev pub HeadsAreFirst : Type 0
HeadsAreFirst = (s : State) (sbs : QName) → IsOrderly s sbs → first_by_heads s sbs ≡ first s sbs
