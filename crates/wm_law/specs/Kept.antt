-- What every step keeps: numbers that are given once, jobs that only go forward, orders of the jobs that are Starting, and
-- names of started subsystems that are distinct; and in which order settling starts jobs.
use Rattle.std.specs.Prelude.{◌≡◌, ◌⊎◌, Bool, ℕ, ℤ, ◌<◌, ◌≤◌, true, false, List, [], ◌∷◌, map, filter, fold, ⊤, Option, Some, None, if◌then◌else◌}
use Rattle.std.specs.List.{filter_map}
use Rattle.std.specs.Option.{IsSome, option_and_then}
use Rattle.std.specs.Ordering.{nat_cmp}
use Rattle.wm_base.specs.declared.job.Asked.{Asked}
use Rattle.wm_base.specs.declared.job.EndCause.{EndCause}
use Rattle.wm_base.specs.declared.job.EndCause.TheVariants as cause
use Rattle.wm_base.specs.declared.job.Asked.TheVariants.{Start, Kill}
use Rattle.wm_base.specs.declared.qname.QName.{QName}
use Rattle.wm_law.specs.declared.call.Call.{Call}
use Rattle.wm_law.specs.declared.call.Entry.{Entry}
use Rattle.wm_law.specs.declared.job.Job.{Job}
use Rattle.wm_law.specs.declared.job.Phase.{Phase}
use Rattle.wm_law.specs.declared.job.Phase.TheVariants.{Waiting, Starting, Handed, Running, Ended}
use Rattle.wm_law.specs.declared.job.Wish.{Wish}
use Rattle.wm_law.specs.declared.job.Wish.TheVariants as wish
use Rattle.wm_desc.specs.declared.entry.RouteEntry.{RouteEntry}
use Rattle.wm_desc.specs.declared.description.Sbsd.{Sbsd}
use Rattle.wm_desc.specs.declared.objects.Objects.{Objects}
use Rattle.wm_desc.specs.Sorted.{IsSortedOnce}
use Rattle.wm_law.specs.declared.state.State.{State}
use Rattle.wm_law.specs.declared.state.Sbs.{Sbs}
use Rattle.wm_law.specs.Choice.{is_sbs_active}
use Rattle.wm_law.specs.Counts.{is_active, is_in_sbs, is_waiting}
use Rattle.wm_law.specs.Fit.{IsBetween}
use Rattle.wm_law.specs.History.{IsLegal, after, order_in}
use Rattle.wm_law.specs.Launch.{order_of}
use Rattle.wm_law.specs.Laws.{IsIn}
use Rattle.wm_law.specs.Power.{is_on}
use Rattle.wm_law.specs.Settling.{start_jobs, start_in}
use Rattle.wm_law.specs.Submitting.{numbers_end, serials_end}
use Rattle.wm_law.specs.Supply.{in_order}
use Rattle.wm_law.specs.Machine.{step}
use Rattle.wm_law.specs.Wishes.{now_cause}
use Rattle.wm_desc.specs.Table.{object_named}
use Rattle.wm_law.specs.Opening.{opening}

-- no element stands twice
abbrev pub IsDistinct : {X : Type 0} → List X → Type 0
IsDistinct [] = ⊤
IsDistinct (x ∷ xs) = (IsIn x xs → ⊥) × IsDistinct xs

-- each number is below the bound
abbrev pub IsBelow : ℕ → List ℕ → Type 0
IsBelow next [] = ⊤
IsBelow next (n ∷ ns) = (n < next) × IsBelow next ns

-- each number was given once, and those to come are others
pub record IsGiven (given : List ℕ) (next : ℕ) : Type 0 where
  pub distinct : IsDistinct given
  pub below : IsBelow next given

-- the places of the jobs that wait
abbrev pub waiting_places : List Job → List ℕ
waiting_places jobs = map (λ j. j.place) (filter (λ j. is_waiting j.phase) jobs)

-- serials and job numbers are given once, no two Waiting jobs have one place, all places are below the next one, and the next ones keep their ranges
pub record IsNumbered (s : State) : Type 0 where
  pub serials : IsGiven (map (λ j. j.serial) s.jobs) s.next_serial
  pub numbers : IsGiven (map (λ j. j.job.number) s.jobs) s.next_number
  pub waiting : IsDistinct (waiting_places s.jobs)
  pub places : IsBelow s.next_place (map (λ j. j.place) s.jobs)
  pub next_number : IsBetween 1 numbers_end s.next_number
  pub next_serial : IsBetween 1 serials_end s.next_serial
  pub next_place : IsBetween 1 serials_end s.next_place

-- the routing entries of each description stand in the order of their numbers, each number once, and their classes are objects
pub record IsRouted (objects : Objects) : Type 0 where
  pub sorted : (sbs : QName) (d : Sbsd) → object_named sbs objects.sbsds ≡ Some d → IsSortedOnce (λ e. e.seq) nat_cmp d.routes
  pub classes : (sbs : QName) (d : Sbsd) (e : RouteEntry) → object_named sbs objects.sbsds ≡ Some d → IsIn e d.routes → IsSome (object_named e.cls objects.classes)

-- one of the started subsystems is the one that the job came into
abbrev pub IsLodged : List Sbs → Job → Type 0
IsLodged started j = (b : Sbs) × IsIn b started × (is_in_sbs b.sbsd j.how ≡ true)

-- each Starting job has its order: its routing entry, the program that this calls and the class are there; and its subsystem is started
pub record HasOrders (s : State) : Type 0 where
  pub routed : IsRouted s.objects
  pub starting : (j : Job) → IsIn j s.jobs → j.phase ≡ Starting → IsSome (order_of s j)
  pub lodged : (j : Job) → IsIn j s.jobs → j.phase ≡ Starting → IsLodged s.started j

-- the simple names of the started subsystems
abbrev pub started_names : State → List (List ℕ)
started_names s = map (λ b. b.sbsd.name) s.started

-- no two started subsystems have one simple name
abbrev pub HasDistinctNames : State → Type 0
HasDistinctNames s = IsDistinct (started_names s)

-- each started subsystem has its description
abbrev pub HasDescriptions : State → Type 0
HasDescriptions s = (b : Sbs) → IsIn b s.started → IsSome (object_named b.sbsd s.objects.sbsds)

-- where the power isn't On, no started subsystem is Active
abbrev pub IsQuiet : State → Type 0
IsQuiet s = is_on s.power ≡ false → (b : Sbs) → IsIn b s.started → is_sbs_active b.phase ≡ false

-- the phases in their order
abbrev pub phase_rank : Phase → ℕ
phase_rank Waiting = 0
phase_rank Starting = 1
phase_rank (Handed m) = 2
phase_rank (Running m) = 3
phase_rank (Ended c) = 4

-- the wishes in their order
abbrev pub wish_rank : Wish → ℕ
wish_rank wish.NoWish = 0
wish_rank (wish.Later until why) = 1
wish_rank (wish.Now why handed) = if handed then 3 else 2

-- the wish didn't go back, and the cause of one to end now stays
pub record IsWishOn (w v : Wish) : Type 0 where
  pub rank : wish_rank w ≤ wish_rank v
  pub cause : (c : EndCause) → now_cause w ≡ Some c → now_cause v ≡ Some c

-- whether a job ended since it couldn't be started
abbrev pub is_start_fault : EndCause → Bool
is_start_fault cause.Completed = false
is_start_fault (cause.Exited code) = false
is_start_fault cause.Killed = false
is_start_fault cause.Endjob = false
is_start_fault cause.Endsbs = false
is_start_fault cause.Endpj = false
is_start_fault cause.Maxuse = false
is_start_fault cause.NoRoute = false
is_start_fault (cause.RouteFull seq) = false
is_start_fault cause.BadRequest = false
is_start_fault cause.NoProgram = false
is_start_fault (cause.StartFailed why) = true
is_start_fault cause.Cleared = false
is_start_fault cause.EndedOnQueue = false
is_start_fault cause.Restarted = false

-- an ended job keeps its cause, and an active one that is to end now ends by its wish's cause, or since it couldn't be started
pub record IsEndOn (p : Phase) (w : Wish) (q : Phase) : Type 0 where
  pub kept : (c : EndCause) → p ≡ Ended c → q ≡ Ended c
  pub by_wish : (c d : EndCause) → is_active p ≡ true → now_cause w ≡ Some c → q ≡ Ended d → (d ≡ c) ⊎ (is_start_fault d ≡ true)

-- the same job, whose phase and wish didn't go back
pub record IsLater (j k : Job) : Type 0 where
  pub serial : k.serial ≡ j.serial
  pub job : k.job ≡ j.job
  pub phase : phase_rank j.phase ≤ phase_rank k.phase
  pub wish : IsWishOn j.wish k.wish
  pub end : IsEndOn j.phase j.wish k.phase

-- each job of the first state stands in the second, with a phase and a wish that didn't go back
abbrev pub GoesOn : State → State → Type 0
GoesOn s t = (j : Job) → IsIn j s.jobs → (k : Job) × IsIn k t.jobs × IsLater j k

-- the serial that an order tells to start
abbrev pub start_told : Asked → Option ℕ
start_told (Start o) = Some o.serial
start_told (Kill serial) = None

-- the serial that an entry ordered to start
abbrev pub start_of : Entry → Option ℕ
start_of e = option_and_then start_told (order_in e.reply)

-- the serials that a history ordered to start, whichever monitor asked
abbrev pub starts : List Entry → List ℕ
starts h = filter_map start_of h

-- the serial that an order tells to kill
abbrev pub kill_told : Asked → Option ℕ
kill_told (Start o) = None
kill_told (Kill serial) = Some serial

-- the serial that an entry ordered to kill
abbrev pub kill_of : Entry → Option ℕ
kill_of e = option_and_then kill_told (order_in e.reply)

-- the serials that a history ordered to kill, whichever monitor asked
abbrev pub killed : List Entry → List ℕ
killed h = filter_map kill_of h

-- the opening state is numbered
abbrev pub OpeningIsNumbered : Type 0
OpeningIsNumbered = (offset : ℤ) → IsNumbered (opening offset)

-- every step keeps a state numbered
abbrev pub StepKeepsNumbers : Type 0
StepKeepsNumbers = (s : State) (caller : ℕ) (call : Call) (moment : ℕ) → IsNumbered s → IsNumbered (step s caller call moment).state

-- whatever is called, no serial or job number is given twice, and no two Waiting jobs have one place
abbrev pub NumbersAreGivenOnce : Type 0
NumbersAreGivenOnce = (s : State) (h : List Entry) → IsNumbered s → IsNumbered (after s h)

-- no step loses a job, takes its phase or its wish back, or ends it by another cause than its wish has
abbrev pub StepGoesOn : Type 0
StepGoesOn = (s : State) (caller : ℕ) (call : Call) (moment : ℕ) → IsNumbered s → GoesOn s (step s caller call moment).state

-- from a numbered state, a legal history orders no serial to start twice
abbrev pub SerialsStartOnce : Type 0
SerialsStartOnce = (s : State) (h : List Entry) → IsNumbered s → IsLegal s h → IsDistinct (starts h)

-- from a numbered state, a legal history orders no serial to be killed twice
abbrev pub SerialsAreKilledOnce : Type 0
SerialsAreKilledOnce = (s : State) (h : List Entry) → IsNumbered s → IsLegal s h → IsDistinct (killed h)

-- each Starting job of the opening state has its order
abbrev pub OpeningHasOrders : Type 0
OpeningHasOrders = (offset : ℤ) → HasOrders (opening offset)

-- no subsystem is started in the opening state
abbrev pub OpeningHasDistinctNames : Type 0
OpeningHasDistinctNames = (offset : ℤ) → HasDistinctNames (opening offset)

-- every step keeps the simple names of the started subsystems distinct
abbrev pub StepKeepsNamesDistinct : Type 0
StepKeepsNamesDistinct = (s : State) (caller : ℕ) (call : Call) (moment : ℕ) → HasDistinctNames s → HasDistinctNames (step s caller call moment).state

-- whatever is called, no two started subsystems have one simple name
abbrev pub StartedNamesAreDistinct : Type 0
StartedNamesAreDistinct = (s : State) (h : List Entry) → HasDistinctNames s → HasDistinctNames (after s h)

-- each started subsystem of the opening state has its description, for none is started
abbrev pub OpeningHasDescriptions : Type 0
OpeningHasDescriptions = (offset : ℤ) → HasDescriptions (opening offset)

-- every step leaves each started subsystem its description
abbrev pub StepKeepsDescriptions : Type 0
StepKeepsDescriptions = (s : State) (caller : ℕ) (call : Call) (moment : ℕ) → HasDescriptions s → HasDescriptions (step s caller call moment).state

-- whatever is called, each started subsystem has its description
abbrev pub StartedAreDescribed : Type 0
StartedAreDescribed = (s : State) (h : List Entry) → HasDescriptions s → HasDescriptions (after s h)

-- the power of the opening state is On
abbrev pub OpeningIsQuiet : Type 0
OpeningIsQuiet = (offset : ℤ) → IsQuiet (opening offset)

-- no step makes a subsystem Active where the power isn't On
abbrev pub StepKeepsQuiet : Type 0
StepKeepsQuiet = (s : State) (caller : ℕ) (call : Call) (moment : ℕ) → IsQuiet s → IsQuiet (step s caller call moment).state

-- whatever is called, no started subsystem is Active where the power isn't On
abbrev pub NoneIsActiveWithoutPower : Type 0
NoneIsActiveWithoutPower = (s : State) (h : List Entry) → IsQuiet s → IsQuiet (after s h)

-- settling's last part goes over the started subsystems in the order of their simple names, and launches each one's first while it has one
abbrev pub StartsInOrder : Type 0
StartsInOrder = (s : State) → IsNumbered s → HasDistinctNames s → start_jobs s ≡ fold start_in s (in_order s.started)
