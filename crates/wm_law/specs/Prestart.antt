-- Prestart jobs: which of them wait for a request, how many more are made, which gets the next request, and what the end of a use comes to.
--
-- Requests go to idle jobs in the order of job numbers. An index by serial finds the same job: a job that is made takes the next number and the next serial, so the jobs that came by prestart entries have numbers that ascend with their serials (`HavePresInOrder`), and where they do, the idle job of least number is that of least serial (`FirstIdleIsFirst`). Soundness says only that numbers are distinct and below the next one, so a step has to keep this statement, too. It holds of a state that was opened from rows, since no job has a how there.
use Rattle.std.specs.Prelude.{◌≡◌, ℕ, zero, suc, ◌+◌, ◌-◌, ◌*◌, ◌/◌, ◌<◌, ◌≤◌, ◌^◌, min, nat_lt, Bool, true, false, not, ◌&&◌, ◌||◌, codes, List, fold, filter, find, position, remove, length, count_by, AllPairs, Option, Some, None, if◌then◌else◌}
use Rattle.std.specs.List.{list_any}
use Rattle.std.specs.Option.{option_map_or}
use Rattle.wm_base.specs.declared.job.How.{How}
use Rattle.wm_base.specs.declared.job.How.TheVariants.{NotYet, FromQueue, Auto, Pre}
use Rattle.wm_base.specs.declared.limit.Limit.{Limit}
use Rattle.wm_base.specs.declared.limit.Limit.TheVariants.{NoMax, Most}
use Rattle.wm_base.specs.declared.qname.QName.{QName}
use Rattle.wm_base.specs.Iterate.{iterate}
use Rattle.wm_base.specs.Limit.{is_below}
use Rattle.wm_desc.specs.declared.description.Sbsd.{Sbsd}
use Rattle.wm_desc.specs.declared.entry.PreEntry.{PreEntry}
use Rattle.wm_desc.specs.Table.{same_qname}
use Rattle.wm_law.specs.declared.job.Job.{Job}
use Rattle.wm_law.specs.declared.job.JobKind.TheVariants.{Pj}
use Rattle.wm_law.specs.declared.job.Phase.{Phase}
use Rattle.wm_law.specs.declared.job.Phase.TheVariants.{Waiting, Starting, Handed, Running, Ended}
use Rattle.wm_law.specs.declared.job.Why.TheVariants as why
use Rattle.wm_law.specs.declared.job.Wish.{Wish}
use Rattle.wm_law.specs.declared.job.Wish.TheVariants as wish
use Rattle.wm_law.specs.declared.state.Evoke.{Evoke}
use Rattle.wm_law.specs.declared.state.State.{State}
use Rattle.wm_law.specs.declared.state.Stop.{Stop}
use Rattle.wm_law.specs.Autos.{auto_user, joined}
use Rattle.wm_law.specs.Counts.{count_in_sbs, count_from_pre, is_from_pre}
use Rattle.wm_law.specs.Jobs.{with_active}
use Rattle.wm_law.specs.Submitting.{numbers_left}
use Rattle.wm_law.specs.Wishes.{has_wish}

-- whether a job of the phase has been launched and doesn't run yet
abbrev pub is_to_run : Phase → Bool
is_to_run Waiting = false
is_to_run Starting = true
is_to_run (Handed m) = true
is_to_run (Running m) = false
is_to_run (Ended c) = false

-- whether a job of the phase runs
abbrev pub is_running : Phase → Bool
is_running Waiting = false
is_running Starting = false
is_running (Handed m) = false
is_running (Running m) = true
is_running (Ended c) = false

-- Running, with neither a request nor a wish
abbrev pub is_idle : Job → Bool
is_idle j = is_running j.phase && not j.evoke && not (has_wish j.wish)

-- without a wish, and Starting, Handed or idle
abbrev pub is_available : Job → Bool
is_available j = not (has_wish j.wish) && (is_to_run j.phase || is_idle j)

-- an idle job of the entry
abbrev pub is_idle_in : QName → QName → Job → Bool
is_idle_in sbs pgm j = is_from_pre sbs pgm j.how && is_idle j

-- an available job of the entry
abbrev pub is_available_in : QName → QName → Job → Bool
is_available_in sbs pgm j = is_from_pre sbs pgm j.how && is_available j

-- how many idle jobs the entry has
abbrev pub count_idle : QName → QName → List Job → ℕ
count_idle sbs pgm jobs = count_by (is_idle_in sbs pgm) jobs

-- how many available jobs the entry has
abbrev pub count_available : QName → QName → List Job → ℕ
count_available sbs pgm jobs = count_by (is_available_in sbs pgm) jobs

-- the job of lesser number of two
abbrev pub of_lesser_number : Option Job → Job → Option Job
of_lesser_number None j = Some j
of_lesser_number (Some i) j = if nat_lt j.job.number i.job.number then Some j else Some i

-- the entry's idle job of least number
abbrev pub first_idle : QName → QName → List Job → Option Job
first_idle sbs pgm jobs = fold of_lesser_number None (filter (is_idle_in sbs pgm) jobs)

-- whether it came by a prestart entry
abbrev pub is_by_pre : How → Bool
is_by_pre NotYet = false
is_by_pre (FromQueue sbs jobq pty route) = false
is_by_pre (Auto sbs route) = false
is_by_pre (Pre sbs pgm) = true

-- the jobs that came by prestart entries stand in the order of their numbers
abbrev pub HavePresInOrder : List Job → Type 0
HavePresInOrder jobs = AllPairs (λ i j. is_by_pre i.how ≡ true → is_by_pre j.how ≡ true → i.job.number < j.job.number) jobs

-- where they do, the idle job of least number is the first in the list, which stands in the order of serials
abbrev pub FirstIdleIsFirst : Type 0
FirstIdleIsFirst = (sbs pgm : QName) (jobs : List Job) → HavePresInOrder jobs → first_idle sbs pgm jobs ≡ find (is_idle_in sbs pgm) jobs

-- a request for the entry
abbrev pub is_evoke_of : QName → QName → Evoke → Bool
is_evoke_of sbs pgm e = same_qname e.sbs sbs && same_qname e.pgm pgm

-- the requests that wait for the entry, in the order of their arrival
abbrev pub evokes_of : QName → QName → List Evoke → List Evoke
evokes_of sbs pgm evokes = filter (is_evoke_of sbs pgm) evokes

-- how many requests wait for the entry
abbrev pub count_evokes : QName → QName → List Evoke → ℕ
count_evokes sbs pgm evokes = count_by (is_evoke_of sbs pgm) evokes

-- the requests without the first one for the entry
abbrev pub without_first : QName → QName → List Evoke → List Evoke
without_first sbs pgm evokes = option_map_or (λ i. remove evokes i) (position (is_evoke_of sbs pgm) evokes) evokes

-- the entry is one of those that are stopped
abbrev pub is_stop_among : QName → QName → List Stop → Bool
is_stop_among sbs pgm stopped = list_any (λ e. same_qname e.sbs sbs && same_qname e.pgm pgm) stopped

-- the entry makes no jobs
abbrev pub is_stopped : State → QName → QName → Bool
is_stopped s sbs pgm = is_stop_among sbs pgm s.stopped

-- of so many, as many as a limit leaves above a count; *NOMAX leaves all
abbrev pub left_by : Limit → ℕ → ℕ → ℕ
left_by NoMax count k = k
left_by (Most most) count k = min k (most - count)

-- of k jobs as many as can be made for the entry: MAXJOBS of the entry and of the subsystem and the numbers leave so many
abbrev pub room : State → QName → Sbsd → PreEntry → ℕ → ℕ
room s sbs d e k = left_by d.maxjobs (count_in_sbs sbs s.jobs) (left_by e.maxjobs (count_from_pre sbs e.pgm s.jobs) (min k (numbers_left s)))

-- the least multiple of a number that is at least another
abbrev pub least_multiple : ℕ → ℕ → ℕ
least_multiple step least = (least + (step - 1)) / step * step

-- it is a multiple that is at least so much, and no other one is less
pub record IsLeastMultiple (step least m : ℕ) : Type 0 where
  pub times : ℕ
  pub multiple : m ≡ times * step
  pub enough : least ≤ m
  pub none_less : (n : ℕ) → least ≤ n * step → m ≤ n * step

-- the least multiple is one
abbrev pub LeastMultipleIsLeast : Type 0
LeastMultipleIsLeast = (step least : ℕ) → 0 < step → IsLeastMultiple step least (least_multiple step least)

-- the entry lacks available jobs, and makes more
abbrev pub is_lacking : State → QName → PreEntry → Bool
is_lacking s sbs e = nat_lt (count_available sbs e.pgm s.jobs) e.threshold && nat_lt 0 e.adljobs

-- how many jobs are made for the entry: ADLJOBS or a multiple, so that THRESHOLD are available, where there is room
abbrev pub replenish : State → QName → Sbsd → PreEntry → ℕ
replenish s sbs d e =
    if not (is_stopped s sbs e.pgm) && is_lacking s sbs e
    then room s sbs d e (least_multiple e.adljobs (e.threshold - count_available sbs e.pgm s.jobs))
    else 0

-- a new job of the entry: named as its program, and Starting at once, without a routing entry
abbrev pub new_pre_job : State → QName → QName → Job
new_pre_job s sbs pgm =
    record {
      serial = s.next_serial;
      job = record { number = s.next_number; user = auto_user; name = pgm.name };
      kind = Pj;
      jobq = None;
      pty = 5;
      place = 0;
      rtgdta = codes " ";
      rqsdta = None;
      held = false;
      due = s.clock;
      phase = Starting;
      how = Pre sbs pgm;
      wish = wish.NoWish;
      uses = 0;
      evoke = false;
    }

-- the state with a new job of the entry
abbrev pub make_pre : QName → QName → State → State
make_pre sbs pgm s = joined s (new_pre_job s sbs pgm)

-- the state with so many new jobs of the entry
abbrev pub make_pres : QName → QName → ℕ → State → State
make_pres sbs pgm zero s = s
make_pres sbs pgm (suc n) s = make_pres sbs pgm n (make_pre sbs pgm s)

-- the state in which jobs were made for the entry
abbrev pub replenished : State → QName → Sbsd → PreEntry → State
replenished s sbs d e = make_pres sbs e.pgm (replenish s sbs d e) s

-- how many jobs the next round makes, where it makes any: ADLJOBS, where there is room, while the entry lacks available jobs
abbrev pub next_round : QName → Sbsd → PreEntry → State → Option ℕ
next_round sbs d e s = if is_lacking s sbs e && nat_lt 0 (room s sbs d e e.adljobs) then Some (room s sbs d e e.adljobs) else None

-- the state in which jobs were made round by round; each round leaves one job less that lacks
abbrev pub in_rounds : State → QName → Sbsd → PreEntry → State
in_rounds s sbs d e = if is_stopped s sbs e.pgm then s else iterate (next_round sbs d e) (make_pres sbs e.pgm) e.threshold s

-- rounds make the same jobs
abbrev pub RoundsReplenish : Type 0
RoundsReplenish = (s : State) (sbs : QName) (d : Sbsd) (e : PreEntry) → in_rounds s sbs d e ≡ replenished s sbs d e

-- the job with a request: it is used once more; at their greatest value its uses stay
abbrev pub with_evoke : Job → Job
with_evoke j = record j { evoke = true; uses = min (j.uses + 1) (2 ^ 32 - 1) }

-- the job that gets the first request that waits for the entry, where there are both
abbrev pub assign : QName → QName → State → Option Job
assign sbs pgm s = if list_any (is_evoke_of sbs pgm) s.evokes then first_idle sbs pgm s.jobs else None

-- the job gets the first request that waits for the entry
abbrev pub assigned_to : QName → QName → Job → State → State
assigned_to sbs pgm j s = record (with_active s j.serial with_evoke) { evokes = without_first sbs pgm s.evokes }

-- requests that wait for the entry go to its idle jobs, as long as there are both
abbrev pub assigned : State → QName → QName → State
assigned s sbs pgm = iterate (assign sbs pgm) (assigned_to sbs pgm) (length s.evokes) s

-- the wish of a job whose use is done: one for later is one for now, and without one MAXUSE may end the job
abbrev pub wish_after_use : Limit → ℕ → Wish → Wish
wish_after_use maxuse uses wish.NoWish = if is_below uses maxuse then wish.NoWish else wish.Now why.Maxuse false
wish_after_use maxuse uses (wish.Later until why) = wish.Now why false
wish_after_use maxuse uses (wish.Now why handed) = wish.Now why handed

-- the job, whose use is done, by a monitor's report or by ENDUSE
abbrev pub after_use : Limit → Job → Job
after_use maxuse j = record j { evoke = false; wish = wish_after_use maxuse j.uses j.wish }
