-- What holds of each state that a history reaches from the opening one, and what holds over each entry from there.
use Rattle.std.specs.Prelude.{◌≡◌, ℕ, ◌<◌, ◌≤◌, ℤ, true, false, List, [], ◌∷◌, length, map, Option, Some, None, IfSome, ⊤, ◌↔◌}
use Rattle.std.specs.Option.{IsSome}
use Rattle.wm_base.specs.declared.job.How.{How}
use Rattle.wm_base.specs.declared.job.How.TheVariants.{FromQueue, Auto, Pre}
use Rattle.wm_base.specs.declared.qname.QName.{QName}
use Rattle.wm_desc.specs.declared.description.Sbsd.{Sbsd}
use Rattle.wm_desc.specs.declared.entry.PreEntry.{PreEntry}
use Rattle.wm_desc.specs.declared.entry.QueueEntry.{QueueEntry}
use Rattle.wm_desc.specs.declared.entry.RouteEntry.{RouteEntry}
use Rattle.wm_desc.specs.declared.objects.Objects.{Objects}
use Rattle.wm_desc.specs.Sorted.{IsSortedOnce}
use Rattle.wm_desc.specs.Table.{object_named, qname_cmp}
use Rattle.wm_law.specs.declared.call.Call.{Call}
use Rattle.wm_law.specs.declared.call.Entry.{Entry}
use Rattle.wm_law.specs.declared.job.Job.{Job}
use Rattle.wm_law.specs.declared.job.JobKind.{JobKind}
use Rattle.wm_law.specs.declared.job.JobKind.TheVariants.{Bch, Asj, Pj}
use Rattle.wm_law.specs.declared.job.Phase.TheVariants.{Starting}
use Rattle.wm_law.specs.declared.state.Sbs.{Sbs}
use Rattle.wm_law.specs.declared.state.State.{State}
use Rattle.wm_law.specs.CallKinds.{is_ending_call}
use Rattle.wm_law.specs.Choice.{entry_for}
use Rattle.wm_law.specs.Counts.{is_active, is_waiting}
use Rattle.wm_law.specs.History.{after}
use Rattle.wm_law.specs.Kept.{IsNumbered, HasOrders, HasDistinctNames, HasDescriptions, IsQuiet}
use Rattle.wm_law.specs.Laws.{IsIn, IsRoute}
use Rattle.wm_law.specs.Limits.{IsWithinLimits, KeepsLimits}
use Rattle.wm_law.specs.Machine.{apply, step, with_clock}
use Rattle.wm_law.specs.Objects.{AreSound}
use Rattle.wm_law.specs.Opening.{opening}
use Rattle.wm_law.specs.Order.{IsInOrder, KeepsOrder}
use Rattle.wm_law.specs.Pending.{next_ending, next_wish, soonest, orders_left}
use Rattle.wm_law.specs.Queues.{own_name}
use Rattle.wm_law.specs.Settling.{come_due, is_sbs_now, sbs_moment}
use Rattle.wm_law.specs.Subsystems.{max_started}
use Rattle.wm_law.specs.Wishes.{greatest_moment, has_come, has_wish, is_in_any, is_now, is_wish_due, wish_moment}
use Rattle.wm_law.specs.declared.call.Call.TheVariants.{Hand}
use Rattle.wm_law.specs.declared.call.Reply.TheVariants.{Nothing}
use Rattle.wm_law.specs.Launch.{route}

-- each number is below all later ones
abbrev pub IsIncreasing : List ℕ → Type 0
IsIncreasing [] = ⊤
IsIncreasing (n ∷ ns) = ((m : ℕ) → IsIn m ns → n < m) × IsIncreasing ns

-- the jobs stand in the order of their serials
abbrev pub HasJobsInOrder : State → Type 0
HasJobsInOrder s = IsIncreasing (map (λ j. j.serial) s.jobs)

-- a how names a started subsystem, a queue that this one's description has an entry for, the priority, and a routing entry of the description
pub record CameFromQueue (subsystems : List Sbs) (objects : Objects) (jobq : Option QName) (pty : ℕ) (how : How) : Type 0 where
  pub queue : QName
  pub sbs : Sbs
  pub sbsd : Sbsd
  pub entry : QueueEntry
  pub route : RouteEntry
  pub started : IsIn sbs subsystems
  pub described : object_named sbs.sbsd objects.sbsds ≡ Some sbsd
  pub fed : entry_for queue sbsd ≡ Some entry
  pub routed : IsIn route sbsd.routes
  pub has_queue : jobq ≡ Some queue
  pub is_how : how ≡ FromQueue sbs.sbsd queue pty route.seq

-- a how names a started subsystem as one that the job started with, and a routing entry of its description
pub record CameAsAuto (subsystems : List Sbs) (objects : Objects) (how : How) : Type 0 where
  pub sbs : Sbs
  pub sbsd : Sbsd
  pub route : RouteEntry
  pub started : IsIn sbs subsystems
  pub described : object_named sbs.sbsd objects.sbsds ≡ Some sbsd
  pub routed : IsIn route sbsd.routes
  pub is_how : how ≡ Auto sbs.sbsd route.seq

-- a how names a started subsystem and a prestart entry of its description
pub record CameByEntry (subsystems : List Sbs) (objects : Objects) (how : How) : Type 0 where
  pub sbs : Sbs
  pub sbsd : Sbsd
  pub entry : PreEntry
  pub started : IsIn sbs subsystems
  pub described : object_named sbs.sbsd objects.sbsds ≡ Some sbsd
  pub entered : IsIn entry sbsd.pres
  pub is_how : how ≡ Pre sbs.sbsd entry.pgm

-- by its kind a job came from a queue, started with a subsystem, or was made for a prestart entry
abbrev pub HasCome : List Sbs → Objects → JobKind → Option QName → ℕ → How → Type 0
HasCome subsystems objects Bch jobq pty how = CameFromQueue subsystems objects jobq pty how
HasCome subsystems objects Asj jobq pty how = CameAsAuto subsystems objects how
HasCome subsystems objects Pj jobq pty how = CameByEntry subsystems objects how

-- the how of each active job names what is there, that of a submitted job with its queue and priority
abbrev pub ActiveHaveCome : State → Type 0
ActiveHaveCome s = (j : Job) → IsIn j s.jobs → is_active j.phase ≡ true → HasCome s.started s.objects j.kind j.jobq j.pty j.how

-- an autostart job has no queue, priority 5 and place 0, and isn't held
pub record HasAutoValues (j : Job) : Type 0 where
  pub jobq : j.jobq ≡ None
  pub pty : j.pty ≡ 5
  pub place : j.place ≡ 0
  pub held : j.held ≡ false

-- a job that waits was submitted, a submitted job has a queue, a job's queue is an object, and an autostart job has its values
pub record IsQueued (objects : Objects) (j : Job) : Type 0 where
  pub waits : is_waiting j.phase ≡ true → j.kind ≡ Bch
  pub has_queue : j.kind ≡ Bch → IsSome j.jobq
  pub is_object : (queue : QName) → j.jobq ≡ Some queue → IsSome (object_named queue objects.jobqs)
  pub auto : j.kind ≡ Asj → HasAutoValues j

-- each job is queued as its kind has it
abbrev pub HasQueues : State → Type 0
HasQueues s = (j : Job) → IsIn j s.jobs → IsQueued s.objects j

-- queues stand in the order of their names, each once, and each is an object
pub record AreQueues (objects : Objects) (queues : List QName) : Type 0 where
  pub sorted : IsSortedOnce own_name qname_cmp queues
  pub are_objects : (queue : QName) → IsIn queue queues → IsSome (object_named queue objects.jobqs)

-- a moment, where there is one, is at most the greatest
abbrev pub IsMoment : Option ℕ → Type 0
IsMoment moment = IfSome moment (λ m. m ≤ greatest_moment)

-- a job that waits has no wish, so that only active and ended jobs have one, and a wish's moment is in its range
pub record IsWished (j : Job) : Type 0 where
  pub waits : is_waiting j.phase ≡ true → has_wish j.wish ≡ false
  pub moment : IsMoment (wish_moment j.wish)

-- each job has no wish while it waits, and moments in their range
abbrev pub HasWishes : State → Type 0
HasWishes s = (j : Job) → IsIn j s.jobs → IsWished j

-- the moment of each ending subsystem is in its range
abbrev pub HasMoments : State → Type 0
HasMoments s = (b : Sbs) → IsIn b s.started → IsMoment (sbs_moment b.phase)

-- an active job as settling leaves it: its wish isn't due, it isn't to end now while it is Starting, and it is to end now where its subsystem does
pub record IsUpToDate (clock : ℕ) (subsystems : List Sbs) (j : Job) : Type 0 where
  pub looked : is_wish_due clock j j.wish ≡ false
  pub starting : j.phase ≡ Starting → is_now j.wish ≡ false
  pub told : is_in_any (λ b. is_sbs_now b.phase) subsystems j.how ≡ true → is_now j.wish ≡ true

-- nothing is left that is due to end: no moment of an ending subsystem has come, and each active job is as settling leaves it
pub record HasNoneDue (s : State) : Type 0 where
  pub subsystems : (b : Sbs) → IsIn b s.started → has_come s.clock (sbs_moment b.phase) ≡ false
  pub jobs : (j : Job) → IsIn j s.jobs → is_active j.phase ≡ true → IsUpToDate s.clock s.started j

-- no more subsystems are started than may be
abbrev pub IsWithinStarted : State → Type 0
IsWithinStarted s = length s.started ≤ max_started

-- what holds of each state that a history reaches: numbers and orders, names and power are told in `Kept`, objects in `Objects`, the rest above
pub record IsSound (s : State) : Type 0 where
  pub numbered : IsNumbered s
  pub jobs : HasJobsInOrder s
  pub places : ActiveHaveCome s
  pub orders : HasOrders s
  pub names : HasDistinctNames s
  pub descriptions : HasDescriptions s
  pub quiet : IsQuiet s
  pub objects : AreSound s.objects
  pub queues : HasQueues s
  pub held : AreQueues s.objects s.held
  pub within_started : IsWithinStarted s
  pub wishes : HasWishes s
  pub moments : HasMoments s

-- the opening state is sound
abbrev pub OpeningIsSound : Type 0
OpeningIsSound = (offset : ℤ) → IsSound (opening offset)

-- every step keeps a state sound
abbrev pub StepKeepsSound : Type 0
StepKeepsSound = (s : State) (caller : ℕ) (call : Call) (moment : ℕ) → IsSound s → IsSound (step s caller call moment).state

-- whatever is called, the state stays sound
abbrev pub StatesAreSound : Type 0
StatesAreSound = (s : State) (h : List Entry) → IsSound s → IsSound (after s h)

-- whatever is called from a sound state, no autostart job waits
abbrev pub AutostartJobsNeverWait : Type 0
AutostartJobsNeverWait = (s : State) (h : List Entry) (j : Job) → IsSound s → IsIn j (after s h).jobs → j.kind ≡ Asj → is_waiting j.phase ≡ false

-- every step leaves each Starting job its order, where the objects are sound
abbrev pub StepKeepsOrders : Type 0
StepKeepsOrders = (s : State) (caller : ℕ) (call : Call) (moment : ℕ) → IsNumbered s → AreSound s.objects → HasOrders s → HasOrders (step s caller call moment).state

-- whatever is called, each Starting job has its order
abbrev pub StartingJobsHaveOrders : Type 0
StartingJobsHaveOrders = (s : State) (h : List Entry) → IsNumbered s → AreSound s.objects → HasOrders s → HasOrders (after s h)

-- whatever is called, a Hand then answers Nothing exactly where no job is Starting and no kill is to be handed to its monitor
abbrev pub HandGivesAnOrder : Type 0
HandGivesAnOrder = (s : State) (h : List Entry) (caller moment : ℕ) → IsNumbered s → AreSound s.objects → HasOrders s → ((step (after s h) caller Hand moment).reply ≡ Nothing ↔ orders_left (after s h) caller ≡ 0)

-- whatever is called, the route in a subsystem is its matching entry of least number
abbrev pub ReachedRouteIsLeast : Type 0
ReachedRouteIsLeast = (s : State) (h : List Entry) (sbs : QName) (d : Sbsd) (rtgdta : List ℕ) (e : RouteEntry) → IsNumbered s → AreSound s.objects → HasOrders s → object_named sbs (after s h).objects.sbsds ≡ Some d → route d rtgdta ≡ Some e → IsRoute d rtgdta e

-- nothing is due in the opening state
abbrev pub OpeningHasNoneDue : Type 0
OpeningHasNoneDue = (offset : ℤ) → HasNoneDue (opening offset)

-- every step leaves nothing that is due
abbrev pub StepLeavesNoneDue : Type 0
StepLeavesNoneDue = (s : State) (caller : ℕ) (call : Call) (moment : ℕ) → IsSound s → HasNoneDue (step s caller call moment).state

-- whatever is called from a sound state in which nothing is due, nothing is due
abbrev pub NoneIsDue : Type 0
NoneIsDue = (s : State) (h : List Entry) → IsSound s → HasNoneDue s → HasNoneDue (after s h)

-- where nothing is due, settling's first part changes nothing
abbrev pub NothingDueStays : Type 0
NothingDueStays = (s : State) → HasNoneDue s → come_due s ≡ s

-- nothing comes due before the next moment of a wish or of an ending subsystem
abbrev pub NoneDueBefore : Type 0
NoneDueBefore = (s : State) (moment : ℕ) → HasNoneDue s → has_come moment (soonest (next_wish s) (next_ending s)) ≡ false → HasNoneDue (with_clock s moment)

-- no call but one that tells to end makes anything due before the state settles
abbrev pub CallsLeaveNoneDue : Type 0
CallsLeaveNoneDue = (s : State) (caller : ℕ) (call : Call) → IsSound s → HasNoneDue s → is_ending_call call ≡ false → HasNoneDue (apply s caller call).state

-- no start passes a limit over any step
abbrev pub StepKeepsLimits : Type 0
StepKeepsLimits = (s : State) (caller : ℕ) (call : Call) (moment : ℕ) → IsSound s → IsWithinLimits s (step s caller call moment).state

-- whatever is called from a sound state, no start passes a limit
abbrev pub LimitsAreKept : Type 0
LimitsAreKept = (s : State) (h : List Entry) → IsSound s → KeepsLimits s h

-- the jobs are launched in their order over any step
abbrev pub StepKeepsOrder : Type 0
StepKeepsOrder = (s : State) (caller : ℕ) (call : Call) (moment : ℕ) → IsSound s → IsInOrder s (step s caller call moment).state

-- whatever is called from a sound state, the jobs are launched in their order
abbrev pub OrderIsKept : Type 0
OrderIsKept = (s : State) (h : List Entry) → IsSound s → KeepsOrder s h
