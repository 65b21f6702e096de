-- Each step keeps serials and numbers given once, and the places of Waiting jobs distinct.
use Rattle.std.proofs.Common.{◌≡◌, ◌⊎◌, ℕ, ℤ, ◌+◌, ◌<◌, ◌==◌, ◌++◌, Bool, true, false, List, [], ◌∷◌, map, Option, Some, None, refl, sym, ap, subst, inl, inr, nat_lt, nat_le, arith}
use Rattle.std.specs.List.{find}
use Rattle.std.proofs.lemmas.Bool.{eq-eqb, ltb-true, eqb-true}
use Rattle.wm_base.specs.declared.job.JobName.{JobName}
use Rattle.wm_base.specs.declared.qname.QName.{QName}
use Rattle.wm_base.specs.Iterate.{IsKept}
use Rattle.wm_base.proofs.Tests.{of_four}
use Rattle.wm_law.specs.declared.call.Call.{Call}
use Rattle.wm_law.specs.declared.command.Sbmjob.{Sbmjob}
use Rattle.wm_law.specs.declared.choice.Candidate.{Candidate}
use Rattle.wm_law.specs.declared.job.Job.{Job}
use Rattle.wm_law.specs.declared.job.Phase.{Phase}
use Rattle.wm_law.specs.declared.launch.Launched.{Launched}
use Rattle.wm_desc.specs.declared.description.Jobd.{Jobd}
use Rattle.wm_desc.specs.declared.entry.AutoEntry.{AutoEntry}
use Rattle.wm_law.specs.declared.state.Evoke.{Evoke}
use Rattle.wm_law.specs.declared.state.Power.{Power}
use Rattle.wm_law.specs.declared.state.Sbs.{Sbs}
use Rattle.wm_law.specs.declared.state.State.{State}
use Rattle.wm_law.specs.Autos.{auto_job, routed_auto, auto_made, joined}
use Rattle.wm_law.specs.Choice.{next}
use Rattle.wm_law.specs.Counts.{is_waiting}
use Rattle.wm_law.specs.Fit.{IsBetween}
use Rattle.wm_law.specs.Kept.{IsDistinct, IsBelow, IsGiven, IsNumbered, waiting_places, OpeningIsNumbered, StepKeepsNumbers, NumbersAreGivenOnce}
use Rattle.wm_law.specs.Jobs.{with_job, active_at}
use Rattle.wm_law.specs.Launch.{as_auto, as_launched, launch, with_routed, routed_from_queue}
use Rattle.wm_law.specs.Laws.{IsIn}
use Rattle.wm_law.specs.Submitting.{submitted_job, entered, has_numbers, numbers_end, serials_end}
use Rattle.wm_law.specs.Reports.{in_phase, with_phase}
use Rattle.wm_law.specs.Settling.{come_due, leave, ready}
use Rattle.wm_law.specs.Machine.{apply, with_clock}
use Rattle.wm_law.proofs.Opened.{opened, opening_is}
use Rattle.wm_law.proofs.Alterations.{IsAlteration, IsAltered, PlaceIsTaken, PlacesStay, altered, same_job, same_serial, waited}
use Rattle.wm_law.proofs.Changed.{keys_kept}
use Rattle.wm_law.proofs.Endings.{IsWishing, key_same, keys_same, was_waiting, wished, using}
use Rattle.wm_law.proofs.Members.{map_same}
use Rattle.wm_law.proofs.Moves.{HoldsOfStates, IsKeptByParts, IsMakeable, call_keeps, comes_due, never_waits, step_keeps, after_keeps, autos_made, readies}
use Rattle.wm_law.proofs.Settling.{launch_never_waits, not_waiting}
use Rattle.wm_law.proofs.Waits.{fewer_distinct, still_distinct, taken_below, taken_distinct, waiting_below, waiting_more, waiting_same}
use Rattle.wm_desc.specs.declared.description.Sbsd.{Sbsd}
use Rattle.wm_desc.specs.declared.entry.PreEntry.{PreEntry}
use Rattle.wm_law.specs.Prestart.{make_pre, new_pre_job, with_evoke}
use Rattle.wm_law.proofs.Supplies.{IsSuppliable, number_left, serial_left}
use Rattle.wm_law.specs.Subsystems.{begun}
use Rattle.wm_law.specs.declared.state.Stop.{Stop}

-- the same serials, numbers and places, no job that comes to wait, and the same next ones
pub record SameNumbers (s t : State) : Type 0 where
  pub serials : map (λ j. j.serial) t.jobs ≡ map (λ j. j.serial) s.jobs
  pub numbers : map (λ j. j.job.number) t.jobs ≡ map (λ j. j.job.number) s.jobs
  pub waiting : IsDistinct (waiting_places s.jobs) → IsDistinct (waiting_places t.jobs)
  pub places : map (λ j. j.place) t.jobs ≡ map (λ j. j.place) s.jobs
  pub next_number : t.next_number ≡ s.next_number
  pub next_serial : t.next_serial ≡ s.next_serial
  pub next_place : t.next_place ≡ s.next_place

given_same : (xs ys : List ℕ) (n m : ℕ) → ys ≡ xs → m ≡ n → IsGiven xs n → IsGiven ys m
given_same xs ys n m e f h = subst (λ (k : ℕ). IsGiven ys k) (sym f) (subst (λ (l : List ℕ). IsGiven l n) (sym e) h)

below_same : (xs ys : List ℕ) (n m : ℕ) → ys ≡ xs → m ≡ n → IsBelow n xs → IsBelow m ys
below_same xs ys n m e f h = subst (λ (k : ℕ). IsBelow k ys) (sym f) (subst (λ (l : List ℕ). IsBelow n l) (sym e) h)

between_same : (a b n m : ℕ) → m ≡ n → IsBetween a b n → IsBetween a b m
between_same a b n m e h = subst (λ (k : ℕ). IsBetween a b k) (sym e) h

numbered_same : (s t : State) → SameNumbers s t → IsNumbered s → IsNumbered t
numbered_same s t e h = record {
  serials = given_same _ _ _ _ e.serials e.next_serial h.serials;
  numbers = given_same _ _ _ _ e.numbers e.next_number h.numbers;
  waiting = e.waiting h.waiting;
  places = below_same _ _ _ _ e.places e.next_place h.places;
  next_number = between_same _ _ _ _ e.next_number h.next_number;
  next_serial = between_same _ _ _ _ e.next_serial h.next_serial;
  next_place = between_same _ _ _ _ e.next_place h.next_place;
}

-- the change leaves a job its serial, its number and its place, and after it the job doesn't wait
record KeepsNumbers (change : Job → Job) : Type 0 where
  serial : (j : Job) → (change j).serial ≡ j.serial
  number : (j : Job) → (change j).job.number ≡ j.job.number
  place : (j : Job) → (change j).place ≡ j.place
  never : (j : Job) → is_waiting (change j).phase ≡ false

job_same : (s : State) (serial : ℕ) (change : Job → Job) → KeepsNumbers change → SameNumbers s (with_job s serial change)
job_same s serial change k = record {
  serials = keys_kept (λ j. j.serial) serial change k.serial s.jobs;
  numbers = keys_kept (λ j. j.job.number) serial change k.number s.jobs;
  waiting = still_distinct change k.never serial s.jobs;
  places = keys_kept (λ j. j.place) serial change k.place s.jobs;
  next_number = refl;
  next_serial = refl;
  next_place = refl;
}

phase_same : (s : State) (serial : ℕ) (phase : Phase) → is_waiting phase ≡ false → SameNumbers s (with_phase s serial phase)
phase_same s serial phase n = job_same s serial (in_phase phase) (record { serial = λ j. refl; number = λ j. refl; place = λ j. refl; never = λ j. n })

launched_same : (s : State) (serial : ℕ) (l : Launched) → is_waiting l.phase ≡ false → SameNumbers s (with_job s serial (as_launched l))
launched_same s serial l n = job_same s serial (as_launched l) (record { serial = λ j. refl; number = λ j. refl; place = λ j. refl; never = λ j. n })

launch_keeps : (s : State) (c : Candidate) (o : Option Job) → IsNumbered s → IsNumbered (with_routed s c o)
launch_keeps s c None h = h
launch_keeps s c (Some j) h = let l = routed_from_queue s c.sbs c.jobq j in numbered_same s (with_job s c.serial (as_launched l)) (launched_same s c.serial l (not_waiting s c.sbs c.jobq j)) h

pub launches_keep : IsKept next (λ c t. launch t c) IsNumbered
launches_keep = record { by_step = λ s c e h. launch_keeps s c (find (λ j. j.serial == c.serial) s.jobs) h }

pub only_started : (s : State) → IsNumbered s → IsNumbered (leave s)
only_started s h = numbered_same s (leave s) (record { serials = refl; numbers = refl; waiting = λ d. d; places = refl; next_number = refl; next_serial = refl; next_place = refl }) h

below_more : (n : ℕ) (xs : List ℕ) → IsBelow n xs → IsBelow (n + 1) (xs ++ n ∷ [])
below_more n [] h = (omega arith, tt)
below_more n (x ∷ xs) h = let less : x < n = h.0 in (omega arith, below_more n xs h.1)

not_in : (n x : ℕ) (xs : List ℕ) → x < n → (IsIn x xs → ⊥) → IsIn x (xs ++ n ∷ []) → ⊥
not_in n x [] less h (inl e) = absurd (omega arith)
not_in n x [] less h (inr i) = i
not_in n x (y ∷ ys) less h (inl e) = h (inl e)
not_in n x (y ∷ ys) less h (inr i) = not_in n x ys less (λ k. h (inr k)) i

distinct_more : (n : ℕ) (xs : List ℕ) → IsBelow n xs → IsDistinct xs → IsDistinct (xs ++ n ∷ [])
distinct_more n [] b h = ((λ i. i), tt)
distinct_more n (x ∷ xs) b h = (not_in n x xs b.0 h.0, distinct_more n xs b.1 h.1)

given_more : (n : ℕ) (xs : List ℕ) → IsGiven xs n → IsGiven (xs ++ n ∷ []) (n + 1)
given_more n xs h = record { distinct = distinct_more n xs h.below h.distinct; below = below_more n xs h.below }

pub map_more : (key : Job → ℕ) (jobs : List Job) (j : Job) → map key (jobs ++ j ∷ []) ≡ map key jobs ++ key j ∷ []
map_more key [] j = refl
map_more key (i ∷ jobs) j = ap (λ l. key i ∷ l) (map_more key jobs j)

pub given_entered : (key : Job → ℕ) (jobs : List Job) (j : Job) (n : ℕ) → key j ≡ n → IsGiven (map key jobs) n → IsGiven (map key (jobs ++ j ∷ [])) (n + 1)
given_entered key jobs j n e h = subst (λ (l : List ℕ). IsGiven l (n + 1)) (sym (map_more key jobs j)) (subst (λ (k : ℕ). IsGiven (map key jobs ++ k ∷ []) (n + 1)) (sym e) (given_more n (map key jobs) h))

entered_keeps : (s : State) (user : List ℕ) (c : Sbmjob) (d : Jobd) (due : ℕ) → has_numbers s ≡ true → IsNumbered s → IsNumbered (entered s (submitted_job s user c d due))
entered_keeps s user c d due has h =
    let j = submitted_job s user c d due in
    let tests = of_four (nat_le 1 s.next_number) (nat_lt s.next_number numbers_end) (nat_lt s.next_serial serials_end) (nat_lt s.next_place serials_end) has in
    let a : s.next_number < numbers_end = ltb-true s.next_number numbers_end tests.1 in
    let b : s.next_serial < serials_end = ltb-true s.next_serial serials_end tests.2 in
    let e : s.next_place < serials_end = ltb-true s.next_place serials_end tests.3 in
    record {
      serials = given_entered (λ j. j.serial) s.jobs j s.next_serial refl h.serials;
      numbers = given_entered (λ j. j.job.number) s.jobs j s.next_number refl h.numbers;
      waiting = subst IsDistinct (sym (waiting_more s.jobs j refl)) (distinct_more s.next_place (waiting_places s.jobs) (waiting_below s.jobs s.next_place h.places) h.waiting);
      places = subst (IsBelow (s.next_place + 1)) (sym (map_more (λ j. j.place) s.jobs j)) (below_more s.next_place (map (λ (i : Job). i.place) s.jobs) h.places);
      next_number = record { least = omega arith; most = omega arith };
      next_serial = record { least = omega arith; most = omega arith };
      next_place = record { least = omega arith; most = omega arith };
    }

below_last : (n m : ℕ) (xs : List ℕ) → m < n → IsBelow n xs → IsBelow n (xs ++ m ∷ [])
below_last n m [] less h = (less, tt)
below_last n m (x ∷ xs) less h = (h.0, below_last n m xs less h.1)

-- a job that takes a number and a serial, and no place, and doesn't wait
joined_keeps : (s : State) (j : Job) → j.serial ≡ s.next_serial → j.job.number ≡ s.next_number → j.place ≡ 0 → is_waiting j.phase ≡ false → s.next_number < numbers_end → s.next_serial < serials_end → IsNumbered s → IsNumbered (joined s j)
joined_keeps s j serial number place idle a b h =
    let least = h.next_place.least in
    record {
      serials = given_entered (λ j. j.serial) s.jobs j s.next_serial serial h.serials;
      numbers = given_entered (λ j. j.job.number) s.jobs j s.next_number number h.numbers;
      waiting = subst IsDistinct (sym (waiting_same s.jobs j idle)) h.waiting;
      places = subst (IsBelow s.next_place) (sym (map_more (λ j. j.place) s.jobs j)) (below_last s.next_place j.place (map (λ (i : Job). i.place) s.jobs) (omega arith) h.places);
      next_number = record { least = omega arith; most = omega arith };
      next_serial = record { least = omega arith; most = omega arith };
      next_place = h.next_place;
    }

-- so does an autostart job
pub auto_keeps : (q : QName) (s : State) (e : AutoEntry) (d : Jobd) → IsMakeable q s → IsNumbered s → IsNumbered (auto_made s q e d)
auto_keeps q s e d m h = joined_keeps s (routed_auto s q (auto_job s e d)) refl refl refl (launch_never_waits s q (as_auto q) (auto_job s e d)) m.number m.serial h

-- and a prestart job
pre_keeps : (q : QName) (d : Sbsd) (e : PreEntry) (s : State) → IsSuppliable q d e s → IsNumbered s → IsNumbered (make_pre q e.pgm s)
pre_keeps q d e s can h = joined_keeps s (new_pre_job s q e.pgm) refl refl refl refl (number_left q d e s can.some) (serial_left q d e s can.some) h

-- changed jobs have their serials
pub serials_stay : (s : State) (change : Job → Job) (place : ℕ) → IsAlteration s change place → map (λ j. j.serial) (map change s.jobs) ≡ map (λ j. j.serial) s.jobs
serials_stay s change place a = map_same (λ (j : Job). j.serial) change (λ j. same_serial s j (change j) (a.each j)) s.jobs

numbers_stay : (s : State) (change : Job → Job) (place : ℕ) → IsAlteration s change place → map (λ j. j.job.number) (map change s.jobs) ≡ map (λ j. j.job.number) s.jobs
numbers_stay s change place a = map_same (λ (j : Job). j.job.number) change (λ j. ap (λ (n : JobName). n.number) (same_job s j (change j) (a.each j))) s.jobs

-- a job stays as it is, or it has the serial and takes the next place
moved_by : (s : State) (change : Job → Job) (place : ℕ) (p : PlaceIsTaken s change place) (j : Job) (b : Bool) → (j.serial == p.serial) ≡ b → (change j ≡ j) ⊎ IsAltered s j (change j) → (change j ≡ j) ⊎ ((j.serial ≡ p.serial) × ((change j).place ≡ s.next_place))
moved_by s change place p j b e (inl same) = inl same
moved_by s change place p j true e (inr a) = let its = eqb-true j.serial p.serial e in inr (its, p.taken j a.waits its)
moved_by s change place p j false e (inr a) = inl (p.other j (λ f. (let yes = eq-eqb j.serial p.serial f in absurd (cc))))

-- changed jobs keep a state numbered, whether their places stay or one is taken
altered_keeps : (s : State) (change : Job → Job) (place : ℕ) → IsAlteration s change place → IsNumbered s → PlacesStay s change place ⊎ PlaceIsTaken s change place → IsNumbered (altered s change place)
altered_keeps s change place a h (inl p) =
    numbered_same s (altered s change place)
    (record {
      serials = serials_stay s change place a;
      numbers = numbers_stay s change place a;
      waiting = fewer_distinct change p.same (λ j. waited s j (change j) (a.each j)) s.jobs;
      places = map_same (λ (j : Job). j.place) change p.same s.jobs;
      next_number = refl;
      next_serial = refl;
      next_place = p.next;
    })
    h
altered_keeps s change place a h (inr p) =
    let moves = λ (j : Job). moved_by s change place p j (j.serial == p.serial) refl (a.each j) in
    let left : s.next_place < serials_end = p.left in
    record {
      serials = given_same (map (λ (j : Job). j.serial) s.jobs) (map (λ (j : Job). j.serial) (map change s.jobs)) s.next_serial s.next_serial (serials_stay s change place a) refl h.serials;
      numbers = given_same (map (λ (j : Job). j.job.number) s.jobs) (map (λ (j : Job). j.job.number) (map change s.jobs)) s.next_number s.next_number (numbers_stay s change place a) refl h.numbers;
      waiting = taken_distinct change p.serial s.next_place p.other moves s.jobs h.serials.distinct h.places h.waiting;
      places = subst (λ (n : ℕ). IsBelow n (map (λ (j : Job). j.place) (map change s.jobs))) (sym p.next) (taken_below change p.serial s.next_place p.other moves s.jobs h.places);
      next_number = h.next_number;
      next_serial = h.next_serial;
      next_place = subst (IsBetween 1 serials_end) (sym p.next) (record { least = omega arith; most = omega arith });
    }

-- a wish changes no serial, number or place
ended_keeps : (s : State) (change : Job → Job) (started : List Sbs) (stopped : List Stop) (evokes : List Evoke) (power : Power) → IsWishing change → IsNumbered s → IsNumbered (wished s change started stopped evokes power)
ended_keeps s change started stopped evokes power e h =
    numbered_same s (wished s change started stopped evokes power)
    (record {
      serials = keys_same change e (λ (j : Job). j.serial) (λ j p w u e. refl) s.jobs;
      numbers = keys_same change e (λ (j : Job). j.job.number) (λ j p w u e. refl) s.jobs;
      waiting = fewer_distinct change (key_same change e (λ (j : Job). j.place) (λ j p w u e. refl)) (λ j. was_waiting j.phase (change j).phase (e.phase j)) s.jobs;
      places = keys_same change e (λ (j : Job). j.place) (λ j p w u e. refl) s.jobs;
      next_number = refl;
      next_serial = refl;
      next_place = refl;
    })
    h

pub begun_keeps : (s : State) (q : QName) → IsNumbered s → IsNumbered (begun s q)
begun_keeps s q h = numbered_same s (begun s q) (record { serials = refl; numbers = refl; waiting = λ d. d; places = refl; next_number = refl; next_serial = refl; next_place = refl }) h

pub calls : (s : State) → IsNumbered s → HoldsOfStates IsNumbered s
calls s h = record {
  stays = h;
  starts = λ q e. autos_made IsNumbered s q e (auto_keeps q) (begun_keeps s q h);
  supplies = record { makes = pre_keeps; assigns = λ t q pgm job evokes can k. ended_keeps t (active_at job.serial with_evoke) t.started t.stopped evokes t.power (using job.serial) k };
  enters = λ user c d due a. entered_keeps s user c d due a.numbers h;
  alters = λ change place a. altered_keeps s change place a h a.places;
  holds = λ held a. numbered_same s _ (record { serials = refl; numbers = refl; waiting = λ d. d; places = refl; next_number = refl; next_serial = refl; next_place = refl }) h;
  lists = λ stopped evokes. numbered_same s _ (record { serials = refl; numbers = refl; waiting = λ d. d; places = refl; next_number = refl; next_serial = refl; next_place = refl }) h;
  moves = λ serial j phase stopped i e r n. (let t = numbered_same s (with_phase s serial phase) (phase_same s serial phase (never_waits j.phase phase r.onward)) h in numbered_same (with_phase s serial phase) _ (record { serials = refl; numbers = refl; waiting = λ d. d; places = refl; next_number = refl; next_serial = refl; next_place = refl }) t);
  ends = λ change started stopped evokes power e. ended_keeps s change started stopped evokes power e.jobs h;
  makes = λ o e. numbered_same s _ (record { serials = refl; numbers = refl; waiting = λ d. d; places = refl; next_number = refl; next_serial = refl; next_place = refl }) h;
}

pub apply_keeps : (s : State) (caller : ℕ) (call : Call) → IsNumbered s → IsNumbered (apply s caller call).state
apply_keeps s caller call h = call_keeps IsNumbered s caller call (calls s h)

pub clock_keeps : (s : State) (moment : ℕ) → IsNumbered s → IsNumbered (with_clock s moment)
clock_keeps s moment h = numbered_same s _ (record { serials = refl; numbers = refl; waiting = λ d. d; places = refl; next_number = refl; next_serial = refl; next_place = refl }) h

-- so it is where what is due has ended
pub due_keeps : (s : State) → IsNumbered s → IsNumbered (come_due s)
due_keeps s h = comes_due IsNumbered s (calls s h)

parts : IsKeptByParts IsNumbered
parts = record { clock = clock_keeps; calls = calls; leaves = only_started; launches = launches_keep }

-- and where the state is ready for jobs to start
pub ready_keeps : (s : State) → IsNumbered s → IsNumbered (ready s)
ready_keeps s h = readies IsNumbered parts s h

pub step_keeps_numbers : StepKeepsNumbers
step_keeps_numbers s caller call moment h = step_keeps IsNumbered parts s caller call moment h

pub numbers_are_given_once : NumbersAreGivenOnce
numbers_are_given_once s h n = after_keeps IsNumbered parts s h n

opened_is_numbered : (offset : ℤ) → IsNumbered (opened offset)
opened_is_numbered offset = record {
  serials = record { distinct = tt; below = tt };
  numbers = record { distinct = tt; below = tt };
  waiting = tt;
  places = tt;
  next_number = record { least = omega arith; most = omega arith };
  next_serial = record { least = omega arith; most = omega arith };
  next_place = record { least = omega arith; most = omega arith };
}

pub opening_is_numbered : OpeningIsNumbered
opening_is_numbered offset = subst IsNumbered (sym (opening_is offset)) (opened_is_numbered offset)
