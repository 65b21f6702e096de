-- The jobs that wait on a queue end one by one.
use Rattle.std.proofs.Common.{◌≡◌, ℕ, suc, ◌+◌, ◌≤◌, Bool, true, false, ◌&&◌, cond, List, [], ◌∷◌, ◌++◌, length, get_or, take, drop, map, Option, Some, None, option_map, inl, inr, refl, ap, sym, ◌∙◌, subst, arith, Contains}
use Rattle.std.specs.List.{filter, filter_map, cons_option, count_by}
use Rattle.std.specs.declared.cmp.Ordering.TheVariants.{Less, Equal, Greater}
use Rattle.std.specs.Ordering.{nat_cmp}
use Rattle.std.proofs.lemmas.Bool.Decides.{nat_tests}
use Rattle.std.proofs.lemmas.List.{get_or_default, length-map, map-append}
use Rattle.std.proofs.lemmas.List.Sums.{count_by-le-length}
use Rattle.wm_base.specs.declared.job.EndCause.TheVariants.{Cleared}
use Rattle.wm_base.specs.declared.qname.QName.{QName}
use Rattle.wm_desc.specs.Place.{IsAt}
use Rattle.wm_desc.specs.Sorted.{IsSortedOnce}
use Rattle.wm_law.specs.declared.job.Job.{Job}
use Rattle.wm_law.specs.declared.job.Phase.TheVariants.{Ended}
use Rattle.wm_law.specs.Counts.{is_waiting}
use Rattle.wm_law.specs.Jobs.{waiting_at}
use Rattle.wm_law.specs.Queues.{is_on_queue, waits_on, cleared_from}
use Rattle.wm_law.specs.Reports.{in_phase}
use Rattle.wm_ordered.proofs.Members.{Contains-cons, Contains-head, Contains-cases}
use Rattle.wm_ordered.specs.declared.waiter.Waiter.{Waiter}
use Rattle.wm_ordered.specs.Waiting.{is_on, first_on}
use Rattle.wm_ordered.proofs.Lines.{first_on-None, first_on-Some}
use Rattle.wm_pick.specs.Parts.{waiter_on, waiter_of, waiters}
use Rattle.wm_jobs.specs.Table.{serial_of}
use Rattle.wm_jobs.proofs.JobParts.{count-changed, waiter-keyed}
use Rattle.wm_jobs.proofs.Sifted.{count-cons}
use Rattle.wm_jobs.proofs.Splits.{IsSplit, split-at, map-split}
use Rattle.wm_jobs.proofs.Restood.{changed_if, job_waits, map-if}

-- what is picked comes from an element
module _ {X E : Type 0} (pick : X → Option E) where
  from-option : (o : Option E) (x : X) (xs : List X) (e : E) → pick x ≡ o → Contains (cons_option o (filter_map pick xs)) e → (Contains (filter_map pick xs) e → (y : X) × Contains xs y × (pick y ≡ Some e)) → (y : X) × Contains (x ∷ xs) y × (pick y ≡ Some e)
  from-option None x xs e is there rest = let y = rest there in (y.0, Contains-cons x y.0 xs y.1, y.2)
  from-option (Some f) x xs e is there rest =
      elim (Contains-cases f e (filter_map pick xs) there) [
        | inl same ↦ (x, Contains-head x xs, is ∙ ap (λ (g : E). Some g) same)
        | inr later ↦ (let y = rest later in (y.0, Contains-cons x y.0 xs y.1, y.2))
      ]

  picked-from : (xs : List X) (e : E) → Contains (filter_map pick xs) e → (x : X) × Contains xs x × (pick x ≡ Some e)
  picked-from [] e there = absurd (omega (arith, there.1))
  picked-from (x ∷ xs) e there = from-option (pick x) x xs e refl there (picked-from xs e)

below-above : (a b : ℕ) → nat_cmp a b ≡ Less → nat_cmp b a ≡ Greater
below-above a b h = grind (arith, nat_tests)

equal-itself : (a b : ℕ) → a ≡ b → nat_cmp a b ≡ Equal
equal-itself a b h = grind (arith, nat_tests)

-- in a sorted list an element stands where its serial does
stands : (jobs : List Job) (j : Job) (there : Contains jobs j) → IsSortedOnce serial_of nat_cmp jobs → IsAt serial_of nat_cmp j.serial jobs there.0
stands jobs j there sorted = record {
  in_range = there.1;
  before = λ k d le lt. subst (λ (i : Job). nat_cmp (get_or jobs k d).serial i.serial ≡ Less) (at d) (sorted k there.0 d lt there.1);
  here = λ d. equal-itself (get_or jobs there.0 d).serial j.serial (ap (λ (i : Job). i.serial) (at d));
  after = λ k d le lt. below-above (j.serial) (get_or jobs k d).serial (subst (λ (i : Job). nat_cmp i.serial (get_or jobs k d).serial ≡ Less) (at d) (sorted there.0 k d (omega (arith, le)) lt));
}
  where
    at : (d : Job) → get_or jobs there.0 d ≡ j
    at d = get_or_default jobs there.0 d j there.1 ∙ there.2

module _ (queue : QName) where
  abbrev waiter_by : Job → Option QName → Option Waiter
  waiter_by j q = option_map (λ p. waiter_on p j) q

  abbrev on_it : List Waiter → List Waiter
  on_it ws = filter (is_on queue) ws

  one-counted : (j : Job) (b : Bool) (q : Option QName) (ws : List Waiter) → length (on_it (cons_option (cond b (waiter_by j q) None) ws)) ≡ cond (b && is_on_queue queue q) 1 0 + length (on_it ws)
  one-counted j false q ws = omega arith
  one-counted j true None ws = omega arith
  one-counted j true (Some p) ws = first (is_on queue (waiter_on p j))
    where
      first : (c : Bool) → length (cond c (waiter_on p j ∷ on_it ws) (on_it ws)) ≡ cond c 1 0 + length (on_it ws)
      first true = omega arith
      first false = omega arith

  -- as many jobs wait on the queue as there are waiters on it
  pub counted : (jobs : List Job) → count_by (waits_on queue) jobs ≡ length (on_it (waiters jobs))
  counted [] = refl
  counted (j ∷ js) =
      let first : count_by (waits_on queue) (j ∷ js) ≡ cond (waits_on queue j) 1 0 + count_by (waits_on queue) js = count-cons (waits_on queue) j js in
      let one : length (on_it (waiters (j ∷ js))) ≡ cond (waits_on queue j) 1 0 + length (on_it (waiters js)) = one-counted j (is_waiting j.phase) j.jobq (waiters js) in
      let rest = counted js in
      omega arith

  -- where there is no first, none waits on it
  none-waits : (jobs : List Job) → first_on queue (waiters jobs) ≡ None → count_by (waits_on queue) jobs ≡ 0
  none-waits jobs none = counted jobs ∙ ap (λ (ws : List Waiter). length ws) (first_on-None queue (waiters jobs) none)

  count-some : (b : Bool) (n : ℕ) → cond b 1 0 + n ≡ 0 → (b ≡ false) × (n ≡ 0)
  count-some true n h = absurd (omega arith)
  count-some false n h = (refl, omega arith)

  none-cleared : (jobs : List Job) → count_by (waits_on queue) jobs ≡ 0 → map (cleared_from queue) jobs ≡ jobs
  none-cleared [] none = refl
  none-cleared (j ∷ js) none =
      let parts = count-some (waits_on queue j) (count_by (waits_on queue) js) (sym (count-cons (waits_on queue) j js) ∙ none) in
      ap (λ (k : Job). k ∷ map (cleared_from queue) js) (ap (λ b. cond b (in_phase (Ended Cleared) j) j) parts.0) ∙ ap (λ (ks : List Job). j ∷ ks) (none-cleared js parts.1)

  on-queue : (j : Job) (b : Bool) (q : Option QName) (w : Waiter) → cond b (waiter_by j q) None ≡ Some w → is_on queue w ≡ true → (b && is_on_queue queue q) ≡ true
  on-queue j false q w is on = absurd (cc is)
  on-queue j true None w is on = absurd (cc is)
  on-queue j true (Some p) w is on = let same : waiter_on p j ≡ w = cc is in ap (is_on queue) same ∙ on

  both : (a b : Bool) → (a && b) ≡ true → a ≡ true
  both true b h = refl
  both false b h = h

  module _ (jobs : List Job) (w : Waiter) (sorted : IsSortedOnce serial_of nat_cmp jobs) (first : first_on queue (waiters jobs) ≡ Some w) where
    abbrev ended : List Job
    ended = map (waiting_at w.serial (in_phase (Ended Cleared))) jobs

    record Around : Type 0 where
      pub before : List Job
      pub behind : List Job
      pub job : Job
      pub waits : waits_on queue job ≡ true
      pub was : jobs ≡ before ++ job ∷ behind
      pub is : ended ≡ before ++ in_phase (Ended Cleared) job ∷ behind

    around : Around
    around =
        let found = first_on-Some queue (waiters jobs) w first in
        let from = picked-from waiter_of jobs w found.0 in
        let j = from.0 in
        let at = from.1.0 in
        let waits : waits_on queue j ≡ true = on-queue j (is_waiting j.phase) j.jobq w from.2 found.1 in
        let split : IsSplit serial_of j.serial jobs (take at jobs) (drop (suc at) jobs) j = subst (λ (k : Job). IsSplit serial_of j.serial jobs (take at jobs) (drop (suc at) jobs) k) from.1.2 (split-at serial_of j.serial jobs at j (stands jobs j from.1 sorted)) in
        record {
          before = take at jobs;
          behind = drop (suc at) jobs;
          job = j;
          waits = waits;
          was = split.whole;
          is = ap (λ n. map (waiting_at n (in_phase (Ended Cleared))) jobs) (waiter-keyed j w from.2)
              ∙ (map-if job_waits j.serial (in_phase (Ended Cleared)) jobs
              ∙ (map-split serial_of j.serial (changed_if job_waits (in_phase (Ended Cleared))) jobs (take at jobs) (drop (suc at) jobs) j split
              ∙ ap (λ b. take at jobs ++ cond b (in_phase (Ended Cleared) j) j ∷ drop (suc at) jobs) (both (is_waiting j.phase) (is_on_queue queue j.jobq) waits)));
        }

    -- the end of the first leaves what the others come to
    step-jobs : map (cleared_from queue) ended ≡ map (cleared_from queue) jobs
    step-jobs =
        let a = around in
        ap (map (cleared_from queue)) a.is
        ∙ (map-append (cleared_from queue) a.before (in_phase (Ended Cleared) a.job ∷ a.behind)
        ∙ (ap (λ b. map (cleared_from queue) a.before ++ cond b (in_phase (Ended Cleared) a.job) a.job ∷ map (cleared_from queue) a.behind) (sym a.waits)
        ∙ (sym (map-append (cleared_from queue) a.before (a.job ∷ a.behind)) ∙ ap (map (cleared_from queue)) (sym a.was))))

    -- and one less waits
    step-count : count_by (waits_on queue) ended + 1 ≡ count_by (waits_on queue) jobs
    step-count =
        let a = around in
        let changed = count-changed (waits_on queue) a.before a.behind a.job (in_phase (Ended Cleared) a.job) in
        let bit : ◌≡◌ {A = ℕ} (cond (waits_on queue a.job) 1 0) 1 = ap (λ b. cond b 1 0) a.waits in
        let now : count_by (waits_on queue) ended ≡ count_by (waits_on queue) (a.before ++ in_phase (Ended Cleared) a.job ∷ a.behind) = ap (count_by (waits_on queue)) a.is in
        let old : count_by (waits_on queue) jobs ≡ count_by (waits_on queue) (a.before ++ a.job ∷ a.behind) = ap (count_by (waits_on queue)) a.was in
        let gone : ◌≡◌ {A = ℕ} (cond (waits_on queue (in_phase (Ended Cleared) a.job)) 1 0) 0 = refl in
        omega arith

  the-first : (o : Option Waiter) (s : ℕ) → Some s ≡ option_map (λ (v : Waiter). v.serial) o → (w : Waiter) × (o ≡ Some w) × (w.serial ≡ s)
  the-first None s is = absurd (cc is)
  the-first (Some w) s is = (w, refl, cc (sym is))

  no-first : (o : Option Waiter) → ◌≡◌ {A = Option ℕ} None (option_map (λ (v : Waiter). v.serial) o) → o ≡ None
  no-first None is = refl
  no-first (Some w) is = absurd (cc is)

  -- the job of the first one's serial ends
  pub step : (jobs new : List Job) (s : ℕ) → IsSortedOnce serial_of nat_cmp jobs → Some s ≡ option_map (λ (v : Waiter). v.serial) (first_on queue (waiters jobs)) → new ≡ map (waiting_at s (in_phase (Ended Cleared))) jobs → (map (cleared_from queue) new ≡ map (cleared_from queue) jobs) × (count_by (waits_on queue) new + 1 ≡ count_by (waits_on queue) jobs)
  step jobs new s sorted first is =
      let w = the-first (first_on queue (waiters jobs)) s first in
      let same : new ≡ map (waiting_at w.0.serial (in_phase (Ended Cleared))) jobs = is ∙ ap (λ n. map (waiting_at n (in_phase (Ended Cleared))) jobs) (sym w.2) in
      (ap (map (cleared_from queue)) same ∙ step-jobs jobs w.0 sorted w.1, ap (λ (ks : List Job). count_by (waits_on queue) ks + 1) same ∙ step-count jobs w.0 sorted w.1)

  -- none is left
  pub none-left : (jobs : List Job) → ◌≡◌ {A = Option ℕ} None (option_map (λ (v : Waiter). v.serial) (first_on queue (waiters jobs))) → (count_by (waits_on queue) jobs ≡ 0) × (map (cleared_from queue) jobs ≡ jobs)
  none-left jobs none =
      let zero_wait = none-waits jobs (no-first (first_on queue (waiters jobs)) none) in
      (zero_wait, none-cleared jobs zero_wait)

-- no more waited than there are jobs still
pub few-waited : (queue : QName) (was is : List Job) → map (cleared_from queue) is ≡ map (cleared_from queue) was → count_by (waits_on queue) was ≤ length is
few-waited queue was is same =
    let few = count_by-le-length (waits_on queue) was in
    let n : length is ≡ length was = sym (length-map is (cleared_from queue)) ∙ (ap length same ∙ length-map was (cleared_from queue)) in
    omega arith
