-- The rows that a run finds, with the new ones put, are the tables of its state; and which rows are new.
use Rattle.std.proofs.Common.{◌≡◌, ◌⊎◌, ℤ, ◌++◌, not, Bool, true, false, List, [], ◌∷◌, refl, sym, ap, subst, ◌∙◌, inl, inr, arith}
use Rattle.wm_base.specs.declared.job.EndCause.TheVariants.{Restarted}
use Rattle.wm_traits.specs.declared.row.Row.{Row}
use Rattle.wm_traits.specs.InOrder.{changed_in_order}
use Rattle.wm_traits.specs.Rows.{changed, place_of}
use Rattle.wm_law.specs.Laws.{IsIn}
use Rattle.wm_law.specs.Opening.{empty}
use Rattle.wm_law.specs.declared.job.Job.{Job}
use Rattle.wm_law.specs.declared.job.Phase.TheVariants as phase
use Rattle.wm_law.specs.declared.state.State.{State}
use Rattle.wm_law.proofs.Members.{in_left, in_mapped, left_in, of_mapped}
use Rattle.wm_rows.specs.Rows.{counter_row}
use Rattle.wm_rows.specs.Tables.{counter_rows}
use Rattle.wm_rows.specs.declared.stored.Counter.{Counter}
use Rattle.wm_rows.specs.declared.stored.Counter.TheVariants as counter
use Rattle.wm_rows.specs.JobText.{job_row}
use Rattle.wm_rows.specs.Stored.{stored_of, stored_phase}
use Rattle.wm_rows.specs.declared.stored_job.StoredJob.{StoredJob}
use Rattle.wm_rows.specs.declared.stored_job.StoredPhase.{StoredPhase}
use Rattle.wm_rows.specs.declared.stored_job.StoredPhase.TheVariants.{Waiting, Active, Ended}
use Rattle.wm_tables.specs.Laws.{NewRowsMakeTables, OnlyEndedJobsAreNew}
use Rattle.wm_tables.specs.Opened.{is_found, new_rows, IsEnded}
use Rattle.wm_tables.specs.Restart.{job_of, phase_of, AreGood, HasCounters, IsRestart}
use Rattle.wm_tables.specs.Tables.{job_rows, puts, rows_of, tables}
use Rattle.wm_tables.proofs.Building.{empty_built}
use Rattle.wm_tables.proofs.Ends.{contained, one_counter}
use Rattle.wm_tables.proofs.Found.{HasJobOf, IsThing, plain_thing, job_thing, counter_thing, counters_kept, jobs_found, plain, plain_found, things, value}
use Rattle.wm_tables.proofs.OwnRows.{own_rows}
use Rattle.wm_tables.proofs.Passing.{in_left_part, in_right_part, left_all, left_passes, of_parts}
use Rattle.wm_tables.proofs.RangedRestarts.{restart_is_in_range}
use Rattle.wm_tables.proofs.Restarts.{good_restart, restart_is_sound}
use Rattle.wm_tables.proofs.RowOrder.{IsAscending, ascending, in_tables, of_changed, of_tables, put_in_order, stays}
use Rattle.wm_tables.proofs.RowsOf.{in_rows, of_number, of_place, of_schema, of_serial}
use Rattle.wm_tables.proofs.SameRows.{found_there, one_list, one_place, there_found}

-- rows to be put where others were found: rows of jobs, and of these all that weren't found
pub record AreNew (found : List Row) (jobs : List Job) (rows : List Row) : Type 0 where
  pub of_jobs : (r : Row) → IsIn r rows → IsIn r (job_rows jobs)
  pub all : (r : Row) → IsIn r (job_rows jobs) → IsIn r found ⊎ IsIn r rows

-- Where the rows of a state lie

module _ (s : State) where
  abbrev jobs : List Row
  jobs = job_rows s.jobs

  abbrev counters : List Row
  counters = counter_rows s.next_number s.next_place s.next_serial

  plain_there : (r : Row) → IsIn r (plain s) → IsIn r (rows_of s)
  plain_there r i = in_left_part (plain s ++ jobs) counters r (in_left_part (plain s) jobs r i)

  job_there : (r : Row) → IsIn r jobs → IsIn r (rows_of s)
  job_there r i = in_left_part (plain s ++ jobs) counters r (in_right_part (plain s) jobs r i)

  counter_there : (c : Counter) (r : Row) → counter_row c (value c s) ≡ r → IsIn r (rows_of s)
  counter_there counter.Number r e = in_rows s r (of_number (sym e))
  counter_there counter.Place r e = in_rows s r (of_place (sym e))
  counter_there counter.Schema r e = in_rows s r (of_schema (sym e))
  counter_there counter.Serial r e = in_rows s r (of_serial (sym e))

module _ (offset : ℤ) (found : List Row) (s : State) (good : AreGood offset found s) where
  up : IsAscending found
  up = ascending found good.order

  -- each job has its row among those found, as it was stored
  pub job_was : (j : Job) → IsIn j s.jobs → HasJobOf found j
  job_was j i = elim (jobs_found found (empty offset) s (empty_built offset).objects good.read j i) as (λ _. HasJobOf found j) [ inl none ↦ absurd none | inr h ↦ h ]

  module _ (all : HasCounters found) where
    counter_found : (c : Counter) → IsIn (counter_row c (value c s)) found
    counter_found c =
        let n = all c in
        let there = contained found (counter_row c n.0) n.1 in
        let k = counters_kept found (empty offset) s up good.read (counter_row c n.0) there (omega arith) in
        let one : k.0 ≡ c = one_counter k.0 c (ap (λ (r : Row). r.key) k.1) in
        let same : counter_row c (value c s) ≡ counter_row c n.0 = subst (λ (d : Counter). counter_row d (value d s) ≡ counter_row c n.0) one k.1 in
        subst (λ (r : Row). IsIn r found) (sym same) there

    counters_found : (r : Row) → IsIn r (counters s) → IsIn r found
    counters_found r (inl e) = subst (λ (q : Row). IsIn q found) (sym e) (counter_found counter.Number)
    counters_found r (inr (inl e)) = subst (λ (q : Row). IsIn q found) (sym e) (counter_found counter.Place)
    counters_found r (inr (inr (inl e))) = subst (λ (q : Row). IsIn q found) (sym e) (counter_found counter.Schema)
    counters_found r (inr (inr (inr (inl e)))) = subst (λ (q : Row). IsIn q found) (sym e) (counter_found counter.Serial)
    counters_found r (inr (inr (inr (inr none)))) = absurd none

    first_found : (r : Row) → IsIn r (plain s) → IsIn r found
    first_found r i = elim (plain_found found (empty offset) s (empty_built offset).objects good.read r i) as (λ _. IsIn r found) [ inl none ↦ absurd none | inr m ↦ m ]

    -- of the state's rows all are found but those of jobs
    state_found : (r : Row) → IsIn r (rows_of s) → IsIn r found ⊎ IsIn r (jobs s)
    state_found r i =
        elim (of_parts (plain s ++ jobs s) (counters s) r i) as (λ _. IsIn r found ⊎ IsIn r (jobs s)) [
          | inl a ↦ (elim (of_parts (plain s) (jobs s) r a) as (λ _. IsIn r found ⊎ IsIn r (jobs s)) [ inl b ↦ inl (first_found r b) | inr b ↦ inr b ])
          | inr a ↦ inl (counters_found r a)
        ]

    restart : IsRestart offset found s
    restart = good_restart offset found s good all

    there : (r : Row) → IsIn r (rows_of s) → IsIn r (tables s)
    there r i = in_tables (rows_of s) (own_rows s (restart_is_sound offset found s restart) (restart_is_in_range offset found s restart)) r i

    tables_up : IsAscending (tables s)
    tables_up = ascending (tables s) (put_in_order (rows_of s))

    -- a place has one row of the state
    one_of_state : (r q : Row) → IsIn r (rows_of s) → IsIn q (rows_of s) → place_of r ≡ place_of q → r ≡ q
    one_of_state r q i j e = one_place (tables s) r q tables_up (there r i) (there q j) e

    -- where the rows of jobs are put that aren't found so
    module _ (rows : List Row) (new : AreNew found s.jobs rows) where
      abbrev after : List Row
      after = changed (puts rows) found

      after_up : IsAscending after
      after_up = ascending after (changed_in_order (puts rows) found good.order)

      put_there : (r : Row) → IsIn r rows → IsIn r (rows_of s)
      put_there r i = job_there s r (new.of_jobs r i)

      -- each row of the state stands there
      stands_by : (r : Row) → IsIn r (rows_of s) → IsIn r found ⊎ IsIn r (jobs s) → IsIn r after
      stands_by r i (inl m) = stays rows found r (λ u k e. one_of_state r u i (put_there u k) e) (inr m)
      stands_by r i (inr m) =
          elim (new.all r m) as (λ _. IsIn r after) [
            | inl was ↦ stays rows found r (λ u k e. one_of_state r u i (put_there u k) e) (inr was)
            | inr put ↦ stays rows found r (λ u k e. one_of_state r u i (put_there u k) e) (inl put)
          ]

      stands : (r : Row) → IsIn r (rows_of s) → IsIn r after
      stands r i = stands_by r i (state_found r i)

      -- and no other does, since a row that was found is one of the state, or one of its place is
      kept_by : (r : Row) → IsIn r found → IsIn r after → IsThing s r → IsIn r (rows_of s)
      kept_by r i m (plain_thing p) = plain_there s r p
      kept_by r i m (counter_thing late) = let k = counters_kept found (empty offset) s up good.read r i late in counter_there s k.0 r k.1
      kept_by r i m (job_thing k e p) =
          let now = job_row (stored_of (job_of k)) in
          let is_row : IsIn now (rows_of s) = job_there s now (in_mapped (λ (j : Job). job_row (stored_of j)) s.jobs (job_of k) p) in
          let same : now ≡ r = one_place after now r after_up (stands now is_row) m (ap place_of e) in
          subst (λ (q : Row). IsIn q (rows_of s)) same is_row

      kept : (r : Row) → IsIn r after → IsIn r (rows_of s)
      kept r i =
          elim (of_changed rows found r i) as (λ _. IsIn r (rows_of s)) [
            | inl put ↦ put_there r put
            | inr was ↦ kept_by r was i (things found (empty offset) s (empty_built offset).objects good.read r was)
          ]

      -- so they are the state's tables
      pub put_into_found : changed (puts rows) found ≡ tables s
      put_into_found = one_list after (tables s) after_up tables_up (λ r i. there r (kept r i)) (λ r i. stands r (of_tables (rows_of s) r i))

    missing : (r : Row) (t : Bool) → is_found found r ≡ t → IsIn r (rows_of s) → IsIn r found ⊎ IsIn r (new_rows found s)
    missing r true e i = inl (found_there found r e)
    missing r false e i = inr (in_left (λ q. not (is_found found q)) (rows_of s) r (ap not e) i)

    not_there : (r : Row) → not (is_found found r) ≡ true → IsIn r found → ⊥
    not_there r h i =
        let yes : is_found found r ≡ true = there_found found r i in
        let no : not (is_found found r) ≡ false = ap not yes in
        absurd (cc)

    new_job : (r : Row) → IsIn r (new_rows found s) → IsIn r (jobs s)
    new_job r i =
        elim (state_found r (left_in (λ q. not (is_found found q)) (rows_of s) r i)) as (λ _. IsIn r (jobs s)) [
          | inl m ↦ absurd (not_there r (left_passes (λ q. not (is_found found q)) (rows_of s) r i) m)
          | inr m ↦ m
        ]

    are_new : AreNew found s.jobs (new_rows found s)
    are_new = record { of_jobs = new_job; all = λ r i. missing r (is_found found r) refl (job_there s r i) }

-- What a job's row was

stored_back : (p : StoredPhase) → (p ≡ Active → ⊥) → stored_phase (phase_of p) ≡ p
stored_back Waiting other = refl
stored_back Active other = absurd (other refl)
stored_back (Ended cause) other = refl

-- a job that wasn't active is stored as it was
same_stored : (k : StoredJob) → (k.phase ≡ Active → ⊥) → stored_of (job_of k) ≡ k
same_stored k other = ap (λ (p : StoredPhase). record k { phase = p }) (stored_back k.phase other)

row_as_found : (found : List Row) (j : Job) (h : HasJobOf found j) → (h.job.phase ≡ Active → ⊥) → IsIn (job_row (stored_of j)) found
row_as_found found j h other =
    let same : job_row (stored_of j) ≡ job_row h.job = ap (λ (k : Job). job_row (stored_of k)) h.is ∙ ap job_row (same_stored h.job other) in
    subst (λ (r : Row). IsIn r found) (sym same) h.found_row

-- a job that no restart has ended has its row among those found
pub job_stands : (offset : ℤ) (found : List Row) (s : State) → AreGood offset found s → (j : Job) → IsIn j s.jobs → (j.phase ≡ phase.Ended Restarted → ⊥) → IsIn (job_row (stored_of j)) found
job_stands offset found s good j i other =
    let h = job_was offset found s good j i in
    row_as_found found j h (λ e. other (ap (λ (k : Job). k.phase) h.is ∙ ap phase_of e))

ended_by : (found : List Row) (j : Job) (h : HasJobOf found j) (p : StoredPhase) → h.job.phase ≡ p → (IsIn (job_row (stored_of j)) found → ⊥) → IsEnded found (job_row (stored_of j))
ended_by found j h Waiting e new = absurd (new (row_as_found found j h (λ f. (let clash : Waiting ≡ Active = sym e ∙ f in absurd (cc)))))
ended_by found j h Active e new = record { job = h.job; active = e; was = h.found_row; ended = ap (λ (k : Job). job_row (stored_of k)) h.is }
ended_by found j h (Ended cause) e new = absurd (new (row_as_found found j h (λ f. (let clash : Ended cause ≡ Active = sym e ∙ f in absurd (cc)))))

only_ended : (offset : ℤ) (found : List Row) (s : State) (good : AreGood offset found s) (all : HasCounters found) (r : Row) → IsIn r (new_rows found s) → IsEnded found r
only_ended offset found s good all r i =
    let m = of_mapped (λ (k : Job). job_row (stored_of k)) s.jobs r (new_job offset found s good all r i) in
    let new = λ (there : IsIn r found). not_there offset found s good all r (left_passes (λ q. not (is_found found q)) (rows_of s) r i) there in
    let h = job_was offset found s good m.0 m.1 in
    subst (IsEnded found) (sym m.2) (ended_by found m.0 h h.job.phase refl (λ there. new (subst (λ (q : Row). IsIn q found) (sym m.2) there)))

-- The laws

all_new : (s : State) → new_rows [] s ≡ rows_of s
all_new s = left_all (λ r. true) (rows_of s) (λ r i. refl)

pub new_rows_make_tables : NewRowsMakeTables
new_rows_make_tables offset [] s h = ap (λ (rows : List Row). changed (puts rows) []) (all_new s)
new_rows_make_tables offset (row ∷ found) s h = put_into_found offset (row ∷ found) s h.0 h.1 (new_rows (row ∷ found) s) (are_new offset (row ∷ found) s h.0 h.1)

pub only_ended_jobs_are_new : OnlyEndedJobsAreNew
only_ended_jobs_are_new offset first found s h row i = only_ended offset (first ∷ found) s h.0 h.1 row i
