-- Which job starts next.
use Rattle.std.specs.Prelude.{ℕ, Bool, true, false, not, ◌-◌, ◌&&◌, Option, Some, None, is_some, find, fold, nat_le, if◌then◌else◌, slice_index_or, option_and_then}
use Rattle.std.specs.List.{list_any}
use Rattle.std.specs.Ordering.{nat_cmp, is_lt, ordering_then}
use Rattle.std.specs.Cmp.Lexicographic.{slice_cmp}
use Rattle.std.specs.declared.cmp.Ordering.{Ordering}
use Rattle.wm_base.specs.declared.qname.QName.{QName}
use Rattle.wm_base.specs.declared.limit.Limit.{Limit}
use Rattle.wm_base.specs.declared.limit.Limit.TheVariants.{NoMax}
use Rattle.wm_base.specs.Limit.{is_below}
use Rattle.wm_law.specs.declared.job.Job.{Job}
use Rattle.wm_desc.specs.declared.description.Sbsd.{Sbsd}
use Rattle.wm_desc.specs.declared.entry.QueueEntry.{QueueEntry}
use Rattle.wm_law.specs.declared.state.State.{State}
use Rattle.wm_law.specs.declared.state.Sbs.{Sbs}
use Rattle.wm_law.specs.declared.state.SbsPhase.{SbsPhase}
use Rattle.wm_law.specs.declared.state.SbsPhase.TheVariants.{Active, Ending, Now}
use Rattle.wm_law.specs.declared.choice.Candidate.{Candidate}
use Rattle.wm_law.specs.declared.choice.Rank.{Rank}
use Rattle.wm_law.specs.Counts.{is_waiting, count_in_sbs, count_from_queue, count_from_priority}
use Rattle.wm_desc.specs.Table.{same_qname, object_named}

-- a queue of the state is held
abbrev pub is_held : State → QName → Bool
is_held s queue = list_any (λ q. same_qname q queue) s.held

-- the job has a queue that isn't held
abbrev pub has_free_queue : State → Option QName → Bool
has_free_queue s None = false
has_free_queue s (Some queue) = not (is_held s queue)

-- Waiting and not held, on a queue that isn't held, and due
abbrev pub is_ready : State → Job → Bool
is_ready s j = is_waiting j.phase && not j.held && has_free_queue s j.jobq && nat_le j.due s.clock

-- a description's entry for a queue
abbrev pub entry_for : QName → Sbsd → Option QueueEntry
entry_for queue d = find (λ e. same_qname e.jobq queue) d.queues

-- whether a subsystem's description has an entry for the queue
abbrev pub has_entry : State → QName → Sbs → Bool
has_entry s queue b = is_some (option_and_then (entry_for queue) (object_named b.sbsd s.objects.sbsds))

-- the holder of a queue: the first started subsystem whose description has an entry for it
abbrev pub holder : State → QName → Option Sbs
holder s queue = find (has_entry s queue) s.started

-- whether a subsystem of the phase starts jobs
abbrev pub is_sbs_active : SbsPhase → Bool
is_sbs_active Active = true
is_sbs_active (Ending until) = false
is_sbs_active Now = false

-- an entry's limit for jobs of a priority, 1 to 9
abbrev pub maxpty_of : QueueEntry → ℕ → Limit
maxpty_of e pty = slice_index_or e.maxpty (pty - 1) NoMax

-- the subsystem is Active, and its count, its entry's count and the count with the priority are each below their limits
abbrev pub is_allowed : State → Sbs → Sbsd → QueueEntry → ℕ → Bool
is_allowed s b d e pty =
    is_sbs_active b.phase
    && is_below (count_in_sbs b.sbsd s.jobs) d.maxjobs
    && is_below (count_from_queue b.sbsd e.jobq s.jobs) e.maxact
    && is_below (count_from_priority b.sbsd e.jobq pty s.jobs) (maxpty_of e pty)

-- the turn of a job on a queue: the subsystem that holds the queue, its description, and the description's entry for the queue
pub record Turn : Type 0 where
  pub queue : QName
  pub sbs : Sbs
  pub sbsd : Sbsd
  pub entry : QueueEntry

-- the turn by the entry for the queue, where the description has one
abbrev pub turn_by_entry : QName → Sbs → Sbsd → Option QueueEntry → Option Turn
turn_by_entry queue b d None = None
turn_by_entry queue b d (Some e) = Some (record { queue = queue; sbs = b; sbsd = d; entry = e })

-- the turn by the description, where the subsystem has one
abbrev pub turn_by_description : QName → Sbs → Option Sbsd → Option Turn
turn_by_description queue b None = None
turn_by_description queue b (Some d) = turn_by_entry queue b d (entry_for queue d)

-- the turn by the holder, where the queue has one
abbrev pub turn_by_holder : State → QName → Option Sbs → Option Turn
turn_by_holder s queue None = None
turn_by_holder s queue (Some b) = turn_by_description queue b (object_named b.sbsd s.objects.sbsds)

-- the turn by the queue, where the job has one
abbrev pub turn_by_queue : State → Option QName → Option Turn
turn_by_queue s None = None
turn_by_queue s (Some queue) = turn_by_holder s queue (holder s queue)

-- the turn of a job
abbrev pub turn_of : State → Job → Option Turn
turn_of s j = turn_by_queue s j.jobq

-- the rank of a job in a turn
abbrev pub rank_in : Turn → Job → Rank
rank_in t j = record { sbs = t.sbs.sbsd.name; seq = t.entry.seq; pty = j.pty; place = j.place }

-- the order in a subsystem: the sequence numbers of the entries, then the priorities, then the places
abbrev pub place_cmp : Rank → Rank → Ordering
place_cmp a b = ordering_then (nat_cmp a.seq b.seq) (ordering_then (nat_cmp a.pty b.pty) (nat_cmp a.place b.place))

-- the order of the subsystems' names, and in a subsystem the order there
abbrev pub rank_cmp : Rank → Rank → Ordering
rank_cmp a b = ordering_then (slice_cmp nat_cmp a.sbs b.sbs) (place_cmp a b)

-- the first of two jobs stands before the second in their turns: one subsystem holds their queues, and the first comes before the second there
abbrev pub is_before : Turn → Job → Turn → Job → Bool
is_before t j u k = same_qname t.sbs.sbsd u.sbs.sbsd && is_lt (place_cmp (rank_in t j) (rank_in u k))

-- the job as a candidate in its turn, where that is allowed
abbrev pub candidate_by_turn : State → Job → Option Turn → Option Candidate
candidate_by_turn s j None = None
candidate_by_turn s j (Some t) =
    if is_allowed s t.sbs t.sbsd t.entry j.pty
    then Some (record { rank = rank_in t j; sbs = t.sbs.sbsd; jobq = t.entry.jobq; serial = j.serial })
    else None

-- the job as a candidate, where it is ready and allowed
abbrev pub candidate : State → Job → Option Candidate
candidate s j = if is_ready s j then candidate_by_turn s j (turn_of s j) else None

-- the candidate of two whose rank is less, the first where neither's is
abbrev pub better : Option Candidate → Option Candidate → Option Candidate
better best None = best
better None (Some c) = Some c
better (Some b) (Some c) = if is_lt (rank_cmp c.rank b.rank) then Some c else Some b

-- the candidate, where it is of the subsystem
abbrev pub of_sbs : QName → Option Candidate → Option Candidate
of_sbs sbs None = None
of_sbs sbs (Some c) = if same_qname c.sbs sbs then Some c else None

-- the job as a candidate of the subsystem, where it is ready and allowed there
abbrev pub candidate_in : State → QName → Job → Option Candidate
candidate_in s sbs j = of_sbs sbs (candidate s j)

-- the first of a subsystem: the ready and allowed job that no other there stands before
abbrev pub first : State → QName → Option Candidate
first s sbs = fold (λ best j. better best (candidate_in s sbs j)) None s.jobs

-- the first of the subsystem of least simple name that has one
abbrev pub next : State → Option Candidate
next s = fold (λ best b. better best (first s b.sbsd)) None s.started
