-- Each job started was the first that its descriptions allowed, and none goes back, read off the states before and after an entry.
use Rattle.std.specs.Prelude.{◌≡◌, ℕ, ◌≤◌, Bool, true, false, not, ◌&&◌, ◌==◌, ◌⊎◌, List, [], ◌∷◌, count_by, map, Option, Some, None, ⊤}
use Rattle.std.specs.List.{list_any}
use Rattle.wm_base.specs.declared.job.EndCause.{EndCause}
use Rattle.wm_base.specs.declared.job.EndCause.TheVariants as cause
use Rattle.wm_base.specs.declared.job.How.{How}
use Rattle.wm_base.specs.declared.job.How.TheVariants.{FromQueue, Auto}
use Rattle.wm_base.specs.declared.qname.QName.{QName}
use Rattle.wm_base.specs.Limit.{is_below}
use Rattle.wm_desc.specs.declared.description.Sbsd.{Sbsd}
use Rattle.wm_desc.specs.declared.entry.RouteEntry.{RouteEntry}
use Rattle.wm_desc.specs.declared.objects.Objects.{Objects}
use Rattle.wm_desc.specs.Table.{object_named}
use Rattle.wm_law.specs.declared.call.Entry.{Entry}
use Rattle.wm_law.specs.declared.job.Job.{Job}
use Rattle.wm_law.specs.declared.job.JobKind.{JobKind}
use Rattle.wm_law.specs.declared.job.JobKind.TheVariants.{Bch, Asj, Pj}
use Rattle.wm_law.specs.declared.job.Phase.{Phase}
use Rattle.wm_law.specs.declared.job.Phase.TheVariants.{Waiting, Starting, Handed, Running, Ended}
use Rattle.wm_law.specs.declared.state.State.{State}
use Rattle.wm_law.specs.Choice.{Turn, is_before, is_held, is_ready, is_sbs_active, maxpty_of, turn_of}
use Rattle.wm_law.specs.Counts.{is_active, is_by_route, is_from_priority, is_from_queue, is_waiting}
use Rattle.wm_law.specs.History.{stepped}
use Rattle.wm_law.specs.Kept.{GoesOn}
use Rattle.wm_law.specs.Launch.{route}
use Rattle.wm_law.specs.Laws.{IsIn, LeavesNone}
use Rattle.wm_law.specs.Limits.{BecameStarting}

-- whether the first of two jobs stands before the second, where both have a turn
abbrev pub before_by : Option Turn → Job → Option Turn → Job → Bool
before_by None j u k = false
before_by (Some t) j None k = false
before_by (Some t) j (Some u) k = is_before t j u k

-- whether the first job stands before the second
abbrev pub stands_before : State → Job → Job → Bool
stands_before s j k = before_by (turn_of s j) j (turn_of s k) k

-- whether a launch ends a job by the cause
abbrev pub is_routing_cause : EndCause → Bool
is_routing_cause cause.Completed = false
is_routing_cause (cause.Exited code) = false
is_routing_cause cause.Killed = false
is_routing_cause cause.Endjob = false
is_routing_cause cause.Endsbs = false
is_routing_cause cause.Endpj = false
is_routing_cause cause.Maxuse = false
is_routing_cause cause.NoRoute = true
is_routing_cause (cause.RouteFull seq) = true
is_routing_cause cause.BadRequest = true
is_routing_cause cause.NoProgram = true
is_routing_cause (cause.StartFailed why) = false
is_routing_cause cause.Cleared = false
is_routing_cause cause.EndedOnQueue = false
is_routing_cause cause.Restarted = false

-- whether a launch leaves a job so: Starting, or ended by a cause of a launch
abbrev pub is_routed_phase : Phase → Bool
is_routed_phase Waiting = false
is_routed_phase Starting = true
is_routed_phase (Handed m) = false
is_routed_phase (Running m) = false
is_routed_phase (Ended c) = is_routing_cause c

-- whether a job of the serial is past Waiting
abbrev pub is_past_waiting : List Job → ℕ → Bool
is_past_waiting jobs serial = list_any (λ i. i.serial == serial && not (is_waiting i.phase)) jobs

-- whether the job was submitted
abbrev pub is_submitted : JobKind → Bool
is_submitted Bch = true
is_submitted Asj = false
is_submitted Pj = false

-- whether a job, as an entry left it, was launched in the entry: it was submitted, and in the state before the entry it was Waiting or not there
abbrev pub was_launched : State → Job → Bool
was_launched s j = is_routed_phase j.phase && not (is_past_waiting s.jobs j.serial) && is_submitted j.kind

-- whether a job is counted for j: it isn't j, nor a job launched in the entry that j stands before
abbrev pub is_counted_for : State → State → Job → Job → Bool
is_counted_for s t j i = not (i.serial == j.serial) && not (was_launched s i && stands_before t j i)

-- the jobs active after an entry whose how passes a test, counted for j
abbrev pub counted_for : State → State → Job → (How → Bool) → ℕ
counted_for s t j test = count_by (λ i. is_active i.phase && test i.how && is_counted_for s t j i) t.jobs

-- the count of k's entry or of the entry and k's priority, counted for j, has reached its limit
abbrev pub IsFullFor : State → State → Job → Job → Turn → Type 0
IsFullFor s t j k u =
    (is_below (counted_for s t j (is_from_queue u.sbs.sbsd u.entry.jobq)) u.entry.maxact ≡ false)
    ⊎ (is_below (counted_for s t j (is_from_priority u.sbs.sbsd u.entry.jobq k.pty)) (maxpty_of u.entry k.pty) ≡ false)

-- a job that was launched passed no ready job that stands before it, but where that one's limit was reached
abbrev pub PassesNone : State → State → Type 0
PassesNone s t =
    (j k : Job) (u : Turn)
    → IsIn j t.jobs
    → was_launched s j ≡ true
    → IsIn k t.jobs
    → is_ready t k ≡ true
    → turn_of t k ≡ Some u
    → stands_before t k j ≡ true
    → IsFullFor s t j k u

-- where the job is Starting, its how names the turn's subsystem and queue, its priority, and the number of its route there
abbrev pub StartsByRoute : Job → Turn → Type 0
StartsByRoute j u = j.phase ≡ Starting → (e : RouteEntry) × (route u.sbsd j.rtgdta ≡ Some e) × (j.how ≡ FromQueue u.sbs.sbsd u.queue j.pty e.seq)

-- where it ended by ROUTEFULL, the number is that of its route, whose count, counted for it, has reached MAXACT
abbrev pub EndsByFullRoute : State → State → Job → Turn → Type 0
EndsByFullRoute s t j u =
    (n : ℕ)
    → j.phase ≡ Ended (cause.RouteFull n)
    → (e : RouteEntry) × (route u.sbsd j.rtgdta ≡ Some e) × (e.seq ≡ n) × (is_below (counted_for s t j (is_by_route u.sbs.sbsd e.seq)) e.maxact ≡ false)

-- where it ended by NOROUTE, it has no route
abbrev pub EndsUnrouted : Job → Turn → Type 0
EndsUnrouted j u = j.phase ≡ Ended cause.NoRoute → route u.sbsd j.rtgdta ≡ None

-- the job may be launched in the turn: neither it nor its queue is held, it is due, and its holder is Active; and it is as its route has it
pub record IsFit (s t : State) (j : Job) (u : Turn) : Type 0 where
  pub turn : turn_of t j ≡ Some u
  pub held : j.held ≡ false
  pub queue : is_held t u.queue ≡ false
  pub due : j.due ≤ t.clock
  pub active : is_sbs_active u.sbs.phase ≡ true
  pub starting : StartsByRoute j u
  pub route_full : EndsByFullRoute s t j u
  pub no_route : EndsUnrouted j u

-- each job that was launched is fit
abbrev pub AllFit : State → State → Type 0
AllFit s t = (j : Job) → IsIn j t.jobs → was_launched s j ≡ true → (u : Turn) × IsFit s t j u

-- a how names a subsystem as one that the job started with, and the number of the job's route there
pub record IsAutoRouted (objects : Objects) (j : Job) : Type 0 where
  pub sbs : QName
  pub sbsd : Sbsd
  pub entry : RouteEntry
  pub described : object_named sbs objects.sbsds ≡ Some sbsd
  pub routed : route sbsd j.rtgdta ≡ Some entry
  pub is_how : j.how ≡ Auto sbs entry.seq

-- each autostart job that became Starting is routed as its subsystem routes
abbrev pub AutosFit : State → State → Type 0
AutosFit s t = (j : Job) → BecameStarting s t j → j.kind ≡ Asj → IsAutoRouted t.objects j

-- a job that wasn't there has a serial that wasn't given before, and the next serial doesn't fall
pub record GivesNewSerials (s t : State) : Type 0 where
  pub new : (j : Job) → IsIn j t.jobs → IsIn j.serial (map (λ j. j.serial) s.jobs) ⊎ (s.next_serial ≤ j.serial)
  pub next : s.next_serial ≤ t.next_serial

-- the jobs are launched in their order over an entry, from the state before it to the state after it; none is lost or goes back, and no serial is given again
pub record IsInOrder (s t : State) : Type 0 where
  pub none_left : LeavesNone t
  pub none_passed : PassesNone s t
  pub fit : AllFit s t
  pub autos : AutosFit s t
  pub forward : GoesOn s t
  pub serials : GivesNewSerials s t

-- the jobs are launched in their order over each entry of a history
abbrev pub KeepsOrder : State → List Entry → Type 0
KeepsOrder s [] = ⊤
KeepsOrder s (e ∷ es) = IsInOrder s (stepped s e).state × KeepsOrder (stepped s e).state es
