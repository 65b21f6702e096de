-- Settling's third part leaves no entry a lack of jobs that it could get.
use Rattle.std.proofs.Common.{◌≡◌, ◌⊎◌, ℕ, ◌<◌, ◌≤◌, ◌-◌, ◌==◌, ◌&&◌, ◌||◌, min, not, Bool, true, false, cond, List, [], ◌∷◌, ◌++◌, map, Option, Some, None, nat_lt, refl, sym, ap, subst, ◌∙◌, inl, inr, arith, ℤ}
use Rattle.std.specs.List.{count_by, find}
use Rattle.std.proofs.lemmas.Bool.{and_parts, cases_lt, eqb-true}
use Rattle.std.proofs.lemmas.Bool.Decides.{nat_tests}
use Rattle.wm_base.specs.declared.limit.Limit.{Limit}
use Rattle.wm_base.specs.declared.limit.Limit.TheVariants.{NoMax, Most}
use Rattle.wm_base.specs.declared.job.How.{How}
use Rattle.wm_base.specs.declared.job.How.TheVariants.{NotYet, FromQueue, Auto, Pre}
use Rattle.wm_base.specs.declared.qname.QName.{QName}
use Rattle.wm_base.specs.Iterate.{IsKept}
use Rattle.wm_base.specs.Limit.{is_below}
use Rattle.wm_base.proofs.Iterate.{iterate-keeps}
use Rattle.wm_desc.proofs.Tables.{one_name}
use Rattle.wm_desc.specs.declared.description.Sbsd.{Sbsd}
use Rattle.wm_desc.specs.declared.entry.PreEntry.{PreEntry}
use Rattle.wm_desc.specs.Table.{same_qname}
use Rattle.wm_law.specs.declared.choice.Candidate.{Candidate}
use Rattle.wm_law.specs.declared.job.Job.{Job}
use Rattle.wm_law.specs.declared.job.Phase.{Phase}
use Rattle.wm_law.specs.declared.job.Phase.TheVariants.{Waiting, Starting, Handed, Running, Ended}
use Rattle.wm_law.specs.declared.launch.Launched.{Launched}
use Rattle.wm_law.specs.declared.state.State.{State}
use Rattle.wm_law.specs.declared.state.Stop.{Stop}
use Rattle.wm_law.specs.Choice.{next}
use Rattle.wm_law.specs.Counts.{count_from_pre, count_in_sbs, is_active, is_from_pre, is_in_sbs, is_waiting}
use Rattle.wm_law.specs.History.{stepped}
use Rattle.wm_law.specs.Jobs.{active_at, changed_at}
use Rattle.wm_law.specs.Kept.{IsGiven, IsNumbered}
use Rattle.wm_law.specs.Launch.{as_launched, launch, routed_from_queue, with_routed}
use Rattle.wm_law.specs.Laws.{IsIn}
use Rattle.wm_law.specs.Machine.{apply, step, with_clock}
use Rattle.wm_law.specs.Prestart.{assign, assigned, assigned_to, count_available, is_available, is_available_in, is_idle, is_lacking, is_running, is_stop_among, is_stopped, is_to_run, least_multiple, left_by, make_pre, make_pres, new_pre_job, replenished, room, with_evoke}
use Rattle.wm_law.specs.Settling.{come_due, leave, start_jobs, waiting}
use Rattle.wm_law.specs.Submitting.{numbers_left}
use Rattle.wm_law.specs.Supplied.{EntriesHaveTheirJobs, HasItsJobs, available, adds_none, entry_full, numbers_used, stopped, subsystem_full, HaveTheirJobs, IsServed, SettlingGivesJobs, StepGivesJobs, SupplyGivesEntryJobs, SupplyGivesJobs, OpeningHasItsJobs}
use Rattle.wm_law.specs.Supply.{supply, supply_entry}
use Rattle.wm_law.specs.Wishes.{has_wish}
use Rattle.wm_law.proofs.Counted.{count_last, no_fewer}
use Rattle.wm_law.proofs.Distinct.{one_by_key}
use Rattle.wm_law.proofs.Endings.{using, keys_same}
use Rattle.wm_law.proofs.Firsts.{next_waits}
use Rattle.wm_law.proofs.Multiples.{multiple-enough}
use Rattle.wm_law.proofs.Numbers.{apply_keeps, clock_keeps, due_keeps, given_entered, launches_keep, only_started, step_keeps_numbers, calls}
use Rattle.wm_law.proofs.Rounds.{left, left-after, ready-made, room-is}
use Rattle.wm_law.proofs.Served.{IsKeptBySupply, assigned_kept, assigned_serves, entry_before, replenished_kept, served_kept, served_none, settle_has_those, supplied_entry, supply_has_those}
use Rattle.wm_law.proofs.Supplies.{assignable, supplied_keeps}
use Rattle.wm_law.proofs.Opened.{opened, opening_is}

-- nothing is left by the limits and the numbers, so one of them is reached
full_by : (l : Limit) (c n : ℕ) → left_by l c n ≡ 0 → (is_below c l ≡ false) ⊎ (n ≡ 0)
full_by NoMax c n e = inr e
full_by (Most m) c n e =
    elim (cases_lt c m) [
      | inl lt ↦ inr (omega (arith, lt, e))
      | inr ge ↦ inl (grind (arith, nat_tests))
    ]

module _ (q : QName) (d : Sbsd) (e : PreEntry) where
  full : (t : State) → left q d e t ≡ 0 → HasItsJobs q d e t
  full t none =
      elim (full_by d.maxjobs (count_in_sbs q t.jobs) (left_by e.maxjobs (count_from_pre q e.pgm t.jobs) (numbers_left t)) none) as (λ _. HasItsJobs q d e t) [
        | inl sbs ↦ subsystem_full sbs
        | inr rest ↦ (elim (full_by e.maxjobs (count_from_pre q e.pgm t.jobs) (numbers_left t) rest) as (λ _. HasItsJobs q d e t) [ inl entry ↦ entry_full entry | inr n ↦ numbers_used n ])
      ]

  -- where as many jobs are made as lack, or as there is room for, the entry has its jobs
  made_by : (t : State) (n k : ℕ) → n ≡ min k (left q d e t) → e.threshold - count_available q e.pgm t.jobs ≤ k → HasItsJobs q d e (make_pres q e.pgm n t)
  made_by t n k is enough =
      elim (cases_lt (left q d e t) k) [
        | inl less ↦ (
            let all : n ≡ left q d e t = omega (arith, is, less) in
            full (make_pres q e.pgm n t) (omega (arith, left-after q d e n t (omega (arith, all)), all)))
        | inr whole ↦ available (omega (arith, ready-made q d e n t, is, whole, enough))
      ]

  and_cases : (a b : Bool) → (a && b) ≡ false → (a ≡ false) ⊎ (b ≡ false)
  and_cases true b h = inr h
  and_cases false b h = inl refl

  lacks_none : (t : State) → is_lacking t q e ≡ false → HasItsJobs q d e t
  lacks_none t h =
      elim (and_cases (nat_lt (count_available q e.pgm t.jobs) e.threshold) (nat_lt 0 e.adljobs) h) as (λ _. HasItsJobs q d e t) [
        | inl some ↦ available (grind (arith, nat_tests))
        | inr none ↦ adds_none (grind (arith, nat_tests))
      ]

  lacking : (t : State) (b : Bool) → is_lacking t q e ≡ b → HasItsJobs q d e (make_pres q e.pgm (cond b (room t q d e (least_multiple e.adljobs (e.threshold - count_available q e.pgm t.jobs))) 0) t)
  lacking t true h =
      let k : ℕ = least_multiple e.adljobs (e.threshold - count_available q e.pgm t.jobs) in
      let both = and_parts (nat_lt (count_available q e.pgm t.jobs) e.threshold) (nat_lt 0 e.adljobs) h in
      let some : 0 < e.adljobs = grind (arith, nat_tests) in
      made_by t (room t q d e k) k (room-is q d e t k) (multiple-enough e.adljobs some (e.threshold - count_available q e.pgm t.jobs))
  lacking t false h = lacks_none t h

  unless_stopped : (t : State) (b c : Bool) → is_stopped t q e.pgm ≡ b → is_lacking t q e ≡ c → HasItsJobs q d e (make_pres q e.pgm (cond (not b && c) (room t q d e (least_multiple e.adljobs (e.threshold - count_available q e.pgm t.jobs))) 0) t)
  unless_stopped t true c s h = stopped s
  unless_stopped t false c s h = lacking t c h

  pub replenished_has : (t : State) → HasItsJobs q d e (replenished t q d e)
  replenished_has t = unless_stopped t (is_stopped t q e.pgm) (is_lacking t q e) refl refl

pub supply_gives_entry_jobs : SupplyGivesEntryJobs
supply_gives_entry_jobs s sbs d e = replenished_has sbs d e (assigned s sbs e.pgm)

less_full : (l : Limit) (a b : ℕ) → a ≤ b → is_below a l ≡ false → is_below b l ≡ false
less_full NoMax a b le h = h
less_full (Most m) a b le h = grind (arith, nat_tests)

-- the stops are the same, no count of the entry or its subsystem fell, and numbers that are used up stay so
record HasNoLess (q : QName) (d : Sbsd) (e : PreEntry) (s t : State) : Type 0 where
  stops : t.stopped ≡ s.stopped
  ready : count_available q e.pgm s.jobs ≤ count_available q e.pgm t.jobs
  in_entry : count_from_pre q e.pgm s.jobs ≤ count_from_pre q e.pgm t.jobs
  in_subsystem : count_in_sbs q s.jobs ≤ count_in_sbs q t.jobs
  numbers : numbers_left s ≡ 0 → numbers_left t ≡ 0

-- so the entry has its jobs still
has_still : (q : QName) (d : Sbsd) (e : PreEntry) (s t : State) → HasNoLess q d e s t → HasItsJobs q d e s → HasItsJobs q d e t
has_still q d e s t n (stopped h) = stopped (subst (λ (l : List Stop). is_stop_among q e.pgm l ≡ true) (sym n.stops) h)
has_still q d e s t n (available h) = let more = n.ready in available (omega (arith, h, more))
has_still q d e s t n (adds_none h) = adds_none h
has_still q d e s t n (entry_full h) = entry_full (less_full e.maxjobs (count_from_pre q e.pgm s.jobs) (count_from_pre q e.pgm t.jobs) n.in_entry h)
has_still q d e s t n (subsystem_full h) = subsystem_full (less_full d.maxjobs (count_in_sbs q s.jobs) (count_in_sbs q t.jobs) n.in_subsystem h)
has_still q d e s t n (numbers_used h) = numbers_used (n.numbers h)

one_more : (test : Job → Bool) (jobs : List Job) (j : Job) → count_by test jobs ≤ count_by test (jobs ++ j ∷ [])
one_more test jobs j = omega (arith, count_last test jobs j)

made_no_less : (q : QName) (d : Sbsd) (e : PreEntry) (r p : QName) (t : State) → 0 < numbers_left t → HasNoLess q d e t (make_pre r p t)
made_no_less q d e r p t some =
    let new = new_pre_job t r p in
    record {
      stops = refl;
      ready = one_more (is_available_in q e.pgm) t.jobs new;
      in_entry = one_more (λ j. is_active j.phase && is_from_pre q e.pgm j.how) t.jobs new;
      in_subsystem = one_more (λ j. is_active j.phase && is_in_sbs q j.how) t.jobs new;
      numbers = λ none. absurd (omega (arith, some, none));
    }

-- serials are given once
abbrev pub HasSerials : State → Type 0
HasSerials t = IsGiven (map (λ j. j.serial) t.jobs) t.next_serial

serials_assigned : (r p : QName) (t : State) (j : Job) → HasSerials t → HasSerials (assigned_to r p j t)
serials_assigned r p t j h = subst (λ (l : List ℕ). IsGiven l t.next_serial) (sym (keys_same (active_at j.serial with_evoke) (using j.serial) (λ (x : Job). x.serial) (λ x p w u e. refl) t.jobs)) h

serials_made : (r p : QName) (t : State) → HasSerials t → HasSerials (make_pre r p t)
serials_made r p t h = given_entered (λ j. j.serial) t.jobs (new_pre_job t r p) t.next_serial refl h

pub serials_kept : IsKeptBySupply HasSerials
serials_kept = record { assigns = λ r p t j e h. serials_assigned r p t j h; makes = λ r p t some h. serials_made r p t h }

-- a job that is idle in an entry came by it, and by no other
pub from_one : (q p r s : QName) (how : How) → is_from_pre q p how ≡ true → is_from_pre r s how ≡ true → (q ≡ r) × (p ≡ s)
from_one q p r s NotYet h k = absurd (cc)
from_one q p r s (FromQueue sbs queue pty route) h k = absurd (cc)
from_one q p r s (Auto sbs route) h k = absurd (cc)
from_one q p r s (Pre sbs pgm) h k =
    let a = and_parts (same_qname sbs q) (same_qname pgm p) h in
    let b = and_parts (same_qname sbs r) (same_qname pgm s) k in
    (sym (one_name sbs q a.0) ∙ one_name sbs r b.0, sym (one_name pgm p a.1) ∙ one_name pgm s b.1)

-- the entry that a job gets a request of isn't one that has no request, or no idle job
other_entry : (q pgm r p : QName) (t : State) (j : Job) → IsServed q pgm t → assign r p t ≡ Some j → is_from_pre q pgm j.how ≡ true → ⊥
other_entry q pgm r p t j served e from =
    let can = assignable r p t j e in
    let its = (and_parts (is_from_pre r p j.how) (is_idle j) can.idle).0 in
    let same = from_one q pgm r p j.how from its in
    let none : assign r p t ≡ None = subst (λ (x : QName). assign x p t ≡ None) same.0 (subst (λ (y : QName). assign q y t ≡ None) same.1 (served_none q pgm t served)) in
    absurd (cc)

module _ (q pgm r p : QName) (t : State) (j : Job) (given : HasSerials t) (served : IsServed q pgm t) (is : assign r p t ≡ Some j) where
  available_by : (b : Bool) (i : Job) → IsIn i t.jobs → (is_active i.phase && i.serial == j.serial) ≡ b → is_available_in q pgm i ≡ true → is_available_in q pgm (cond b (with_evoke i) i) ≡ true
  available_by true i m e h =
      let can = assignable r p t j is in
      let serial = eqb-true i.serial j.serial (and_parts (is_active i.phase) (i.serial == j.serial) e).1 in
      let same : i ≡ j = one_by_key (λ (x : Job). x.serial) t.jobs given.distinct i j m can.there serial in
      let from = (and_parts (is_from_pre q pgm i.how) (is_available i) h).0 in
      absurd (other_entry q pgm r p t j served is (ap (λ (x : Job). is_from_pre q pgm x.how) (sym same) ∙ from))
  available_by false i m e h = h

  available_assigned : count_available q pgm t.jobs ≤ count_available q pgm (assigned_to r p j t).jobs
  available_assigned = no_fewer (is_available_in q pgm) (is_available_in q pgm) (active_at j.serial with_evoke) t.jobs (λ i m h. available_by (is_active i.phase && i.serial == j.serial) i m refl h)

-- a request changes neither the phase nor the how
counted_by : (test : How → Bool) (b : Bool) (i : Job) → (is_active i.phase && test i.how) ≡ true → (is_active (cond b (with_evoke i) i).phase && test (cond b (with_evoke i) i).how) ≡ true
counted_by test true i h = h
counted_by test false i h = h

counted_assigned : (test : How → Bool) (r p : QName) (t : State) (j : Job) → count_by (λ i. is_active i.phase && test i.how) t.jobs ≤ count_by (λ i. is_active i.phase && test i.how) (assigned_to r p j t).jobs
counted_assigned test r p t j = no_fewer (λ i. is_active i.phase && test i.how) (λ i. is_active i.phase && test i.how) (active_at j.serial with_evoke) t.jobs (λ i m h. counted_by test (is_active i.phase && i.serial == j.serial) i h)

assigned_no_less : (q : QName) (d : Sbsd) (e : PreEntry) (r p : QName) (t : State) (j : Job) → HasSerials t → IsServed q e.pgm t → assign r p t ≡ Some j → HasNoLess q d e t (assigned_to r p j t)
assigned_no_less q d e r p t j given served is = record {
  stops = refl;
  ready = available_assigned q e.pgm r p t j given served is;
  in_entry = counted_assigned (is_from_pre q e.pgm) r p t j;
  in_subsystem = counted_assigned (is_in_sbs q) r p t j;
  numbers = λ none. none;
}

-- serials are given once, and the entry is served and has its jobs
record IsDone (q : QName) (d : Sbsd) (e : PreEntry) (t : State) : Type 0 where
  given : HasSerials t
  served : IsServed q e.pgm t
  jobs : HasItsJobs q d e t

done_kept : (q : QName) (d : Sbsd) (e : PreEntry) → IsKeptBySupply (IsDone q d e)
done_kept q d e = record {
  assigns = λ r p t j is h. record {
    given = serials_kept.assigns r p t j is h.given;
    served = (served_kept q e.pgm).assigns r p t j is h.served;
    jobs = has_still q d e t (assigned_to r p j t) (assigned_no_less q d e r p t j h.given h.served is) h.jobs;
  };
  makes = λ r p t some h. record {
    given = serials_kept.makes r p t some h.given;
    served = (served_kept q e.pgm).makes r p t some h.served;
    jobs = has_still q d e t (make_pre r p t) (made_no_less q d e r p t some) h.jobs;
  };
}

entry_done : (q : QName) (d : Sbsd) (e : PreEntry) (t : State) → HasSerials t → IsDone q d e (supply_entry q d t e)
entry_done q d e t h = record {
  given = replenished_kept HasSerials serials_kept q d e (assigned t q e.pgm) (assigned_kept HasSerials serials_kept q e.pgm t h);
  served = replenished_kept (IsServed q e.pgm) (served_kept q e.pgm) q d e (assigned t q e.pgm) (assigned_serves q e.pgm t);
  jobs = supply_gives_entry_jobs t q d e;
}

pub supply_gives_jobs : SupplyGivesJobs
supply_gives_jobs s n b d e en =
    (supplied_entry HasSerials (IsDone b.sbsd d e) serials_kept (done_kept b.sbsd d e) s b d e (entry_before s (supply s) b d e (supply_has_those s) en) (λ t h. entry_done b.sbsd d e t h) n.serials).jobs

waits_not : (test : Phase → Bool) → test Waiting ≡ false → (p : Phase) → is_waiting p ≡ true → test p ≡ true → ⊥
waits_not test never Waiting w h = absurd (cc)
waits_not test never Starting w h = absurd (cc)
waits_not test never (Handed m) w h = absurd (cc)
waits_not test never (Running m) w h = absurd (cc)
waits_not test never (Ended c) w h = absurd (cc)

-- a job that passes a test which none passes that waits isn't the one that is launched, so it passes still
module _ (t : State) (c : Candidate) (l : Launched) (numbered : IsNumbered t) (is_next : next t ≡ Some c) (test : Job → Bool) (never : (i : Job) → is_waiting i.phase ≡ true → test i ≡ true → ⊥) where
  passes_by : (b : Bool) (i : Job) → IsIn i t.jobs → (i.serial == c.serial) ≡ b → test i ≡ true → test (cond b (as_launched l i) i) ≡ true
  passes_by true i m e h =
      let w = next_waits t c is_next in
      let same : i ≡ w.0 = one_by_key (λ (x : Job). x.serial) t.jobs numbered.serials.distinct i w.0 m w.1 (eqb-true i.serial c.serial e ∙ w.3) in
      absurd (never i (ap (λ (j : Job). is_waiting j.phase) same ∙ w.2) h)
  passes_by false i m e h = h

  passes_launched : count_by test t.jobs ≤ count_by test (map (changed_at c.serial (as_launched l)) t.jobs)
  passes_launched = no_fewer test test (changed_at c.serial (as_launched l)) t.jobs (λ i m h. passes_by (i.serial == c.serial) i m refl h)

active_never : (test : How → Bool) (i : Job) → is_waiting i.phase ≡ true → (is_active i.phase && test i.how) ≡ true → ⊥
active_never test i w h = waits_not is_active refl i.phase w (and_parts (is_active i.phase) (test i.how) h).0

idle_runs : (i : Job) → is_idle i ≡ true → is_running i.phase ≡ true
idle_runs i h = (and_parts (is_running i.phase) (not i.evoke) (and_parts (is_running i.phase && not i.evoke) (not (has_wish i.wish)) h).0).0

or_cases : (a b : Bool) → (a || b) ≡ true → (a ≡ true) ⊎ (b ≡ true)
or_cases true b h = inl refl
or_cases false b h = inr h

available_never : (q pgm : QName) (i : Job) → is_waiting i.phase ≡ true → is_available_in q pgm i ≡ true → ⊥
available_never q pgm i w h =
    let can = (and_parts (is_from_pre q pgm i.how) (is_available i) h).1 in
    let one = (and_parts (not (has_wish i.wish)) (is_to_run i.phase || is_idle i) can).1 in
    elim (or_cases (is_to_run i.phase) (is_idle i) one) as (λ _. ⊥) [
      | inl soon ↦ waits_not is_to_run refl i.phase w soon
      | inr idle ↦ waits_not is_running refl i.phase w (idle_runs i idle)
    ]

launched_no_less : (q : QName) (d : Sbsd) (e : PreEntry) (t : State) (c : Candidate) (j : Job) → IsNumbered t → next t ≡ Some c → HasNoLess q d e t (with_routed t c (Some j))
launched_no_less q d e t c j n is =
    let l = routed_from_queue t c.sbs c.jobq j in
    record {
      stops = refl;
      ready = passes_launched t c l n is (is_available_in q e.pgm) (available_never q e.pgm);
      in_entry = passes_launched t c l n is (λ i. is_active i.phase && is_from_pre q e.pgm i.how) (active_never (is_from_pre q e.pgm));
      in_subsystem = passes_launched t c l n is (λ i. is_active i.phase && is_in_sbs q i.how) (active_never (is_in_sbs q));
      numbers = λ none. none;
    }

launched_jobs : (q : QName) (d : Sbsd) (e : PreEntry) (t : State) (c : Candidate) (o : Option Job) → IsNumbered t → next t ≡ Some c → HasItsJobs q d e t → HasItsJobs q d e (with_routed t c o)
launched_jobs q d e t c None n is h = h
launched_jobs q d e t c (Some j) n is h = has_still q d e t (with_routed t c (Some j)) (launched_no_less q d e t c j n is) h

-- numbered, and the entry has its jobs
record IsNumberedToo (q : QName) (d : Sbsd) (e : PreEntry) (t : State) : Type 0 where
  numbered : IsNumbered t
  jobs : HasItsJobs q d e t

launches_leave_jobs : (q : QName) (d : Sbsd) (e : PreEntry) → IsKept next (λ c t. launch t c) (IsNumberedToo q d e)
launches_leave_jobs q d e = record {
  by_step = λ t c is h. record {
    numbered = launches_keep.by_step t c is h.numbered;
    jobs = launched_jobs q d e t c (find (λ (j : Job). j.serial == c.serial) t.jobs) h.numbered is h.jobs;
  };
}

started_have_jobs : (s : State) → IsNumbered s → HaveTheirJobs (start_jobs (supply s))
started_have_jobs s n b d e en =
    let t = supply s in
    let numbered : IsNumbered t = supplied_keeps IsNumbered (calls s n).supplies s n in
    (iterate-keeps (IsNumberedToo b.sbsd d e) (launches_leave_jobs b.sbsd d e) (waiting t) t (record { numbered = numbered; jobs = supply_gives_jobs s n b d e (entry_before t (start_jobs t) b d e (settle_has_those s) en) })).jobs

pub settling_gives_jobs : SettlingGivesJobs
settling_gives_jobs s n = started_have_jobs (leave (come_due s)) (only_started (come_due s) (due_keeps s n))

pub step_gives_jobs : StepGivesJobs
unfolding step
step_gives_jobs s caller call moment n = settling_gives_jobs (apply (with_clock s moment) caller call).state (apply_keeps (with_clock s moment) caller call (clock_keeps s moment n))

pub entries_have_their_jobs : EntriesHaveTheirJobs
entries_have_their_jobs s [] n h = h
entries_have_their_jobs s (x ∷ xs) n h = entries_have_their_jobs (stepped s x).state xs (step_keeps_numbers s x.caller x.call x.moment n) (step_gives_jobs s x.caller x.call x.moment n)

opened_has_its_jobs : (offset : ℤ) → HaveTheirJobs (opened offset)
opened_has_its_jobs offset b d e en = absurd en.started

pub opening_has_its_jobs : OpeningHasItsJobs
opening_has_its_jobs offset = subst HaveTheirJobs (sym (opening_is offset)) (opened_has_its_jobs offset)
