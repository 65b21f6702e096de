-- How a job may come to stand, and what becomes then of what jobs are found and counted by.
use Rattle.std.specs.Prelude.{◌≡◌, ℕ, ◌+◌, ◌<◌, ◌≤◌, Bool, true, false, not, ◌&&◌, ◌||◌, List, ◌∷◌, ◌++◌, ◌==◌, filter_map, find, map, Option, is_some, Some, All, if◌then◌else◌}
use Rattle.std.specs.List.{Contains}
use Rattle.std.specs.Ordering.{nat_cmp}
use Rattle.wm_indexes.specs.declared.acting.Acting.{Acting}
use Rattle.wm_desc.specs.Place.{IsAt}
use Rattle.wm_law.specs.declared.job.Job.{Job}
use Rattle.wm_law.specs.declared.job.Phase.{Phase}
use Rattle.wm_law.specs.declared.job.Phase.TheVariants.{Waiting, Starting, Handed, Running, Ended}
use Rattle.wm_law.specs.Counts.{is_waiting, is_starting, is_active}
use Rattle.wm_law.specs.Named.{is_ended}
use Rattle.wm_indexes.specs.Names.{Names, IsNames, HasNamed}
use Rattle.wm_ordered.specs.Ordered.{Pairs}
use Rattle.wm_indexes.specs.declared.prestart_job.PrestartJob.{PrestartJob}
use Rattle.wm_indexes.specs.OfJobs.{row_of}
use Rattle.wm_pick.specs.Tally.{Counts, IsTally, HasFew, HasStarted}
use Rattle.wm_ordered.specs.declared.waiter.Waiter.{Waiter}
use Rattle.wm_ordered.specs.Waiting.{Waiting as Line}
use Rattle.wm_pick.specs.Parts.{waiter_of, waiters}
use Rattle.wm_pick.specs.Tallied.{hows}
use Rattle.wm_jobs.specs.Indexed.{order_of, active_of, nodes_of}
use Rattle.wm_jobs.specs.Marked.{standing_of, standing_as}
use Rattle.wm_jobs.specs.Table.{Table, serial_of}
use Rattle.wm_jobs.specs.declared.touched.Found.{Found}
use Rattle.wm_jobs.specs.declared.touched.Standing.{Standing}

-- how far a phase has gone; one that is handed and one that runs are as far
abbrev pub rank : Phase → ℕ
rank Waiting = 0
rank Starting = 1
rank (Handed m) = 2
rank (Running m) = 2
rank (Ended c) = 3

-- one, where a test holds
abbrev pub bit : Bool → ℕ
bit b = if b then 1 else 0

-- one, where a test holds that didn't
abbrev pub comes : Bool → Bool → ℕ
comes was is = bit (is && not was)

-- lesser serials stand before a serial, and greater ones behind it
pub record IsAround (before behind : List Job) (s : ℕ) : Type 0 where
  pub lower : All (λ j. j.serial < s) before
  pub higher : All (λ j. s < j.serial) behind

-- the entries are what is picked of some jobs, this one among them
pub record AreOf {E : Type 0} (pick : Job → Option E) (entries : List E) (j : Job) : Type 0 where
  pub before : List Job
  pub behind : List Job
  pub around : IsAround before behind j.serial
  pub are : entries ≡ filter_map pick (before ++ j ∷ behind)

-- none of another serial has the place
abbrev pub IsItsPlace : ℕ → ℕ → List Waiter → Type 0
IsItsPlace place serial items = (w : Waiter) → Contains items w → w.place ≡ place → w.serial ≡ serial

-- one job stands in the place of another: what is picked of the jobs follows
abbrev pub Follows : {E : Type 0} → (Job → Option E) → Job → Job → List E → List E → Type 0
Follows pick was is old new = (before behind : List Job) → IsAround before behind was.serial → old ≡ filter_map pick (before ++ was ∷ behind) → new ≡ filter_map pick (before ++ is ∷ behind)

-- so does the tally of the active ones' hows
abbrev pub HowsFollow : Job → Job → Counts → Counts → Type 0
HowsFollow was is old new = (before behind : List Job) → IsTally (hows (before ++ was ∷ behind)) old → IsTally (hows (before ++ is ∷ behind)) new

-- so do the names, but that one that had ended has ended still
abbrev pub NamesFollow : Job → Phase → Names → Names → Type 0
NamesFollow was phase old new = (before behind : List Job) (is : Job) → is.serial ≡ was.serial → is.job ≡ was.job → is_ended is.phase ≡ (is_ended was.phase || is_ended phase) → IsNames (before ++ was ∷ behind) old → IsNames (before ++ is ∷ behind) new

-- where the job had ended, the names come to be those of the jobs with it as it is; else they stay
abbrev pub NamesAgain : Bool → Job → Names → Names → Type 0
NamesAgain had_ended is old new = (before behind : List Job) (was : Job) → was.serial ≡ is.serial → was.job ≡ is.job → is_ended was.phase ≡ (had_ended || is_ended is.phase) → IsNames (before ++ was ∷ behind) old → IsNames (before ++ is ∷ behind) new

-- what jobs are found and counted by can follow one that comes to stand like that: it is among them, none of another serial has its place where it waits, it keeps its how where it is active still, and there is room
pub record CanFollow (waiting : Line) (tally : Counts) (starting : Pairs ℕ (Unit {0})) (active : Pairs ℕ Acting) (prestart : Pairs ℕ PrestartJob) (names : Names) (j : Job) (s : Standing) : Type 0 where
  pub waits : AreOf waiter_of waiting.items j
  pub own : is_waiting s.phase ≡ true → IsItsPlace s.place j.serial waiting.items
  pub to_wait : comes (is_some (waiter_of j)) (is_some (waiter_of (standing_as s j))) ≤ waiting.spare
  pub counted : is_active j.phase ≡ true → HasStarted tally j.how
  pub few : HasFew tally
  pub how : is_active j.phase ≡ true → is_active s.phase ≡ true → s.how ≡ j.how
  pub to_count : comes (is_active j.phase) (is_active s.phase) ≤ tally.spare
  pub starts : AreOf order_of starting.items j
  pub to_start : comes (is_starting j.phase) (is_starting s.phase) ≤ starting.spare
  pub acts : AreOf active_of active.items j
  pub to_list : comes (is_active j.phase) (is_active s.phase) ≤ active.spare
  pub seats : AreOf row_of prestart.items j
  pub to_seat : comes (is_active j.phase) (is_active s.phase) ≤ prestart.spare
  pub named : is_ended j.phase ≡ false → HasNamed names j

-- they have followed it, each with the room that the entry took or left; those that are orders take the room of one each
pub record HasFollowed (j : Job) (s : Standing) (w0 w1 : Line) (t0 t1 : Counts) (s0 s1 : Pairs ℕ (Unit {0})) (a0 a1 : Pairs ℕ Acting) (p0 p1 : Pairs ℕ PrestartJob) (n0 n1 : Names) : Type 0 where
  pub waits : Follows waiter_of j (standing_as s j) w0.items w1.items
  pub clock : w1.clock ≡ w0.clock
  pub to_wait : w1.spare + bit (is_some (waiter_of (standing_as s j))) ≡ w0.spare + bit (is_some (waiter_of j))
  pub hows : HowsFollow j (standing_as s j) t0 t1
  pub to_count : t0.spare ≤ t1.spare + comes (is_active j.phase) (is_active s.phase)
  pub starts : Follows order_of j (standing_as s j) s0.items s1.items
  pub nodes : nodes_of s1 ≡ nodes_of s0
  pub acts : Follows active_of j (standing_as s j) a0.items a1.items
  pub to_list : a0.spare ≤ a1.spare + comes (is_active j.phase) (is_active s.phase)
  pub seats : Follows row_of j (standing_as s j) p0.items p1.items
  pub to_seat : p0.spare ≤ p1.spare + comes (is_active j.phase) (is_active s.phase)
  pub names : NamesFollow j s.phase n0 n1
  pub to_name : n0.spare ≤ n1.spare

-- the job of the serial is found there, as it stands; where it waits, none of another serial has its place
pub record IsFound (t : Table) (serial : ℕ) (f : Found) : Type 0 where
  pub job : Job
  pub there : IsAt serial_of nat_cmp serial t.jobs f.at
  pub found : find (λ j. j.serial == serial) t.jobs ≡ Some job
  pub was : f.was ≡ standing_of job
  pub place : f.was.place < t.next_place
  pub own : is_waiting f.was.phase ≡ true → IsItsPlace f.was.place serial (waiters t.jobs)

-- each change of the jobs at those places leaves them all
abbrev pub LeavesAll : ((Job → Job) → Job → Job) → List Job → Type 0
LeavesAll at jobs = (change : Job → Job) → jobs ≡ map (at change) jobs

-- how many changes are spent on a job: none where it stops to wait
abbrev pub spent : Phase → Phase → ℕ
spent was is = bit (not (is_waiting was && not (is_waiting is)))

-- one that stood so may come to stand like that: its phase doesn't go back, it keeps its how where it is active still, it has a queue where it had one, and a place that was given, which where it waits none of another serial has; the change can be noted
pub record MayStand (t : Table) (serial : ℕ) (was is : Standing) : Type 0 where
  pub forward : rank was.phase ≤ rank is.phase
  pub how : is_active was.phase ≡ true → is_active is.phase ≡ true → is.how ≡ was.how
  pub queue : is_some was.jobq ≡ true → is_some is.jobq ≡ true
  pub place : is.place < t.next_place
  pub own : is_waiting is.phase ≡ true → IsItsPlace is.place serial (waiters t.jobs)
  pub changes : spent was.phase is.phase ≤ t.changes
