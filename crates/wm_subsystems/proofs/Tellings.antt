-- A telling makes of an active job what it is told, and leaves the others.
use Rattle.std.proofs.Common.{◌≡◌, ◌∙◌, ◌&&◌, ◌==◌, ℕ, Bool, true, false, cond, List, Option, Some, None, pos, refl, sym, ap, arith}
use Rattle.std.proofs.lemmas.Bool.Decides.{nat_tests}
use Rattle.wm_base.specs.declared.job.EndCause.{EndCause}
use Rattle.wm_base.specs.declared.qname.QName.{QName}
use Rattle.wm_law.specs.declared.command.EndOption.{EndOption}
use Rattle.wm_law.specs.declared.command.EndOption.TheVariants.{Cntrld, Immed}
use Rattle.wm_law.specs.declared.job.Job.{Job}
use Rattle.wm_law.specs.declared.job.Phase.TheVariants.{Ended}
use Rattle.wm_law.specs.declared.job.Why.{Why}
use Rattle.wm_law.specs.declared.job.Why.TheVariants as why
use Rattle.wm_law.specs.declared.job.Wish.{Wish}
use Rattle.wm_law.specs.declared.job.Wish.TheVariants as wish
use Rattle.wm_law.specs.declared.state.Sbs.{Sbs}
use Rattle.wm_law.specs.Counts.{is_active, is_starting}
use Rattle.wm_law.specs.Endings.{is_left_to_use, told}
use Rattle.wm_law.specs.Opening.{empty}
use Rattle.wm_law.specs.Prestarting.{is_of_entry, prestart_wish, told_with_entry}
use Rattle.wm_law.specs.Reports.{in_phase}
use Rattle.wm_law.specs.Settling.{ended_by, job_at, unless_started, with_deadline}
use Rattle.wm_law.specs.Wishes.{deadline, is_due, is_now, is_to_end, now_cause, wish_at, with_wish}
use Rattle.wm_law.proofs.Endings.{IsWishing, entry_ends, telling, wishing_at}
use Rattle.wm_subsystems.specs.declared.meant.Telling.{Telling}
use Rattle.wm_subsystems.specs.declared.meant.Telling.TheVariants.{By, Entry, Clock}
use Rattle.wm_subsystems.specs.declared.meant.Those.{Those}
use Rattle.wm_subsystems.specs.declared.meant.Those.TheVariants.{EndingNow}
use Rattle.wm_jobs.specs.Table.{serial_of}
use Rattle.wm_subsystems.specs.declared.meant.Told.{Told}
use Rattle.wm_subsystems.specs.Telling.{clock_cause, clock_wish, ended_at, newly_now, option_wish, passes, told_as, told_at, told_of, wished_at}
use Rattle.wm_subsystems.proofs.Walks.{IsWalkable}

-- ENDPJ changes phase and wish alone, whatever the rest of the state
telling_entry : (clock : ℕ) (option : EndOption) (delay : Option ℕ) (sbs pgm : QName) → IsWishing (told_with_entry clock option delay sbs pgm)
telling_entry clock option delay sbs pgm = (entry_ends (record (empty (pos 0)) { clock = clock }) option delay sbs pgm).jobs

-- a telling is a change of phase and wish alone
pub wishing : (t : Telling) (clock : ℕ) (started : List Sbs) → IsWishing (told_as t clock started)
wishing (By option those) clock started = telling option (passes those) started
wishing (Entry option delay sbs pgm) clock started = telling_entry clock option delay sbs pgm
wishing Clock clock started = wishing_at clock started

-- the job with a wish, where there is one
abbrev pub given : Option Wish → Job → Job
given None j = j
given (Some w) j = with_wish w j

given_by : (b : Bool) (w : Wish) (j : Job) → cond b (with_wish w j) j ≡ given (cond b (Some w) None) j
given_by true w j = refl
given_by false w j = refl

by_option : (option : EndOption) (those : Those) (started : List Sbs) (j : Job) → told option (passes those) started j ≡ given (option_wish option those started j) j
by_option Cntrld those started j = given_by (is_left_to_use (passes those) started j) (wish.Later None why.Endsbs) j
by_option Immed those started j = given_by (is_to_end (passes those) started j) (wish.Now why.Endsbs false) j

due_by : (b : Bool) (until : Option ℕ) (w : Why) (j : Job) → j.wish ≡ wish.Later until w
    → with_wish (cond b (wish.Now w false) (wish.Later until w)) j ≡ given (newly_now (wish.Later until w) (cond b (wish.Now w false) (wish.Later until w))) j
due_by true until w j e = refl
due_by false until w j e = ap (λ (v : Wish). with_wish v j) (sym e)

-- the wish by the clock is the job's own, unless it newly is one to end now
looked : (clock : ℕ) (j : Job) (w : Wish) → j.wish ≡ w → with_wish (wish_at clock j w) j ≡ given (newly_now w (wish_at clock j w)) j
looked clock j wish.NoWish e = ap (λ (v : Wish). with_wish v j) (sym e)
looked clock j (wish.Later until w) e = due_by (is_due clock j until) until w j e
looked clock j (wish.Now w handed) e = ap (λ (v : Wish). with_wish v j) (sym e)

with_looked : (clock : ℕ) (j : Job) (b : Bool) → is_active j.phase ≡ b → b ≡ true → cond b (with_wish (deadline clock j) j) j ≡ given (newly_now j.wish (deadline clock j)) j
with_looked clock j true a e = looked clock j j.wish refl
with_looked clock j false a e = absurd (cc)

active_looked : (clock : ℕ) (w : Wish) (j : Job) (b : Bool) → b ≡ true → is_now w ≡ true → wish_at clock (with_wish w j) w ≡ w → cond b (with_wish (wish_at clock (with_wish w j) w) (with_wish w j)) (with_wish w j) ≡ with_wish w j
active_looked clock w j true a n e = ap (λ (v : Wish). with_wish v j) e
active_looked clock w j false a n e = refl

-- an active job with the wish that the clock gives it
clock_given : (clock : ℕ) (started : List Sbs) (j : Job) (b : Bool) → is_active j.phase ≡ true
    → with_deadline clock (cond b (with_wish (wish.Now why.Endsbs false) j) j) ≡ given (cond b (Some (wish.Now why.Endsbs false)) (newly_now j.wish (deadline clock j))) j
clock_given clock started j true a = active_looked clock (wish.Now why.Endsbs false) j (is_active j.phase) a refl refl
clock_given clock started j false a = with_looked clock j (is_active j.phase) refl a

started_by : (b : Bool) (c : Option EndCause) (j : Job) → cond b (ended_by c j) j ≡ ended_by (cond b c None) j
started_by true c j = refl
started_by false c j = refl

given_cause : (j : Job) (w : Option Wish) → unless_started (given w j) ≡ ended_by (clock_cause j w) (given w j)
given_cause j None = started_by (is_starting j.phase) (now_cause j.wish) j
given_cause j (Some w) = started_by (is_starting j.phase) (now_cause w) (with_wish w j)

by_clock : (clock : ℕ) (started : List Sbs) (j : Job) → is_active j.phase ≡ true → job_at clock started j ≡ ended_by (clock_cause j (clock_wish clock started j)) (given (clock_wish clock started j) j)
by_clock clock started j a =
    ap unless_started (clock_given clock started j (is_to_end (passes EndingNow) started j) a)
    ∙ given_cause j (clock_wish clock started j)

-- what an active job is told makes that of it
pub told_is : (t : Telling) (clock : ℕ) (started : List Sbs) (j : Job) → is_active j.phase ≡ true → told_as t clock started j ≡ ended_by (told_of t clock started j).cause (given (told_of t clock started j).wish j)
told_is (By option those) clock started j a = by_option option those started j
told_is (Entry option delay sbs pgm) clock started j a = given_by (is_of_entry option sbs pgm j) (prestart_wish clock option delay) j
told_is Clock clock started j a = by_clock clock started j a

-- a telling keeps serials, and leaves jobs that aren't active
pub walkable : (t : Telling) (clock : ℕ) (started : List Sbs) → IsWalkable (told_as t clock started)
walkable t clock started =
    let w = wishing t clock started in
    record { serial = λ j. ap serial_of (w.same j); idle = w.idle }

neither_by : (a b : Bool) (i j : Job) → b ≡ false → cond (a && b) i j ≡ j
neither_by true b i j e = ap (λ (x : Bool). cond x i j) e
neither_by false b i j e = refl

unwished : (n : ℕ) (o : Option Wish) (k : Job) → (k.serial == n) ≡ false → wished_at n o k ≡ k
unwished n None k e = refl
unwished n (Some w) k e = neither_by (is_active k.phase) (k.serial == n) (with_wish w k) k e

unended : (n : ℕ) (o : Option EndCause) (k : Job) → (k.serial == n) ≡ false → ended_at n o k ≡ k
unended n None k e = refl
unended n (Some c) k e = ap (λ (x : Bool). cond x (in_phase (Ended c) k) k) e

-- jobs of other serials are told nothing
pub told_others : (n : ℕ) (told : Told) (k : Job) → (k.serial == n) ≡ false → told_at n told k ≡ k
told_others n told k e = ap (ended_at n told.cause) (unwished n told.wish k e) ∙ unended n told.cause k e

itself : (n : ℕ) → (n == n) ≡ true
itself n = grind (arith, nat_tests)

both_by : (a b : Bool) (i j : Job) → a ≡ true → b ≡ true → cond (a && b) i j ≡ i
both_by true b i j e f = ap (λ (x : Bool). cond x i j) f
both_by false b i j e f = absurd (cc)

own_wish : (o : Option Wish) (j : Job) → is_active j.phase ≡ true → wished_at j.serial o j ≡ given o j
own_wish None j a = refl
own_wish (Some w) j a = both_by (is_active j.phase) (j.serial == j.serial) (with_wish w j) j a (itself j.serial)

own_end : (n : ℕ) (o : Option EndCause) (k : Job) → k.serial ≡ n → ended_at n o k ≡ ended_by o k
own_end n None k e = refl
own_end n (Some c) k e = ap (λ (m : ℕ). cond (k.serial == m) (in_phase (Ended c) k) k) (sym e) ∙ ap (λ (x : Bool). cond x (in_phase (Ended c) k) k) (itself k.serial)

given_serial : (o : Option Wish) (j : Job) → (given o j).serial ≡ j.serial
given_serial None j = refl
given_serial (Some w) j = refl

-- what an active job is told, where it has the serial, is what the telling makes of it
pub told_own : (t : Telling) (clock : ℕ) (started : List Sbs) (j : Job) → is_active j.phase ≡ true → told_at j.serial (told_of t clock started j) j ≡ told_as t clock started j
told_own t clock started j a =
    let told = told_of t clock started j in
    ap (ended_at j.serial told.cause) (own_wish told.wish j a)
    ∙ own_end j.serial told.cause (given told.wish j) (given_serial told.wish j)
    ∙ sym (told_is t clock started j a)
