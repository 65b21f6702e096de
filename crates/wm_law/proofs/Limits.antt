-- No start passes a limit.
use Rattle.std.proofs.Common.{◌≡◌, ◌⊎◌, ℕ, ◌<◌, ◌≤◌, ◌+◌, ◌++◌, ◌==◌, ◌&&◌, Bool, true, false, cond, List, [], ◌∷◌, map, Option, Some, None, refl, sym, ap, subst, ◌∙◌, inl, inr, arith}
use Rattle.std.specs.List.{find}
use Rattle.std.proofs.lemmas.Bool.{ltb-true, and_parts}
use Rattle.wm_base.specs.declared.job.How.{How}
use Rattle.wm_base.specs.declared.job.How.TheVariants.{Auto, Pre}
use Rattle.wm_base.specs.declared.limit.Limit.{Limit}
use Rattle.wm_base.specs.declared.limit.Limit.TheVariants.{NoMax, Most}
use Rattle.wm_base.specs.declared.qname.QName.{QName}
use Rattle.wm_base.specs.Iterate.{IsKept}
use Rattle.wm_base.specs.Limit.{is_below}
use Rattle.wm_base.proofs.Iterate.{iterate-keeps}
use Rattle.wm_desc.specs.declared.description.Jobd.{Jobd}
use Rattle.wm_desc.specs.declared.description.Sbsd.{Sbsd}
use Rattle.wm_desc.specs.declared.entry.AutoEntry.{AutoEntry}
use Rattle.wm_desc.specs.declared.entry.QueueEntry.{QueueEntry}
use Rattle.wm_desc.specs.declared.entry.RouteEntry.{RouteEntry}
use Rattle.wm_desc.specs.declared.objects.Objects.{Objects}
use Rattle.wm_desc.specs.Table.{object_named, same_qname}
use Rattle.wm_law.specs.declared.call.Call.{Call}
use Rattle.wm_law.specs.declared.call.Entry.{Entry}
use Rattle.wm_law.specs.declared.choice.Candidate.{Candidate}
use Rattle.wm_law.specs.declared.command.Sbmjob.{Sbmjob}
use Rattle.wm_law.specs.declared.job.Job.{Job}
use Rattle.wm_law.specs.declared.job.JobKind.{JobKind}
use Rattle.wm_law.specs.declared.job.JobKind.TheVariants.{Asj}
use Rattle.wm_law.specs.declared.job.Phase.{Phase}
use Rattle.wm_law.specs.declared.job.Phase.TheVariants.{Waiting, Starting}
use Rattle.wm_law.specs.declared.launch.Launched.{Launched}
use Rattle.wm_law.specs.declared.state.State.{State}
use Rattle.wm_law.specs.Autos.{auto_job, routed_auto, auto_made}
use Rattle.wm_law.specs.Choice.{entry_for, maxpty_of, next}
use Rattle.wm_law.specs.Counts.{count_active, is_active, is_by_route, is_from_priority, is_from_queue, is_in_sbs, is_starting, count_from_pre, count_in_sbs, is_from_pre}
use Rattle.wm_law.specs.History.{stepped}
use Rattle.wm_law.specs.Kept.{IsNumbered, IsRouted}
use Rattle.wm_law.specs.Jobs.{changed_at, with_job, active_at}
use Rattle.wm_law.specs.Launch.{as_auto, as_launched, entry_numbered, from_queue, launch, with_routed, routed_from_queue, pre_entry_for, route, route_fault, routed_through, starts_unless}
use Rattle.wm_law.specs.Laws.{IsIn}
use Rattle.wm_law.specs.Limits.{BecameStarting, IsStarting, IsWithin, IsWithinLimits, KeepsLimits, is_autostart}
use Rattle.wm_law.specs.Machine.{apply, step, with_clock}
use Rattle.wm_law.specs.Reports.{in_phase, phased_at, with_phase}
use Rattle.wm_law.specs.Settling.{come_due, job_at, leave, sbss_at, start_jobs, waiting, ready}
use Rattle.wm_law.specs.Submitting.{entered, submitted_job}
use Rattle.wm_law.specs.Subsystems.{with_autos}
use Rattle.wm_law.proofs.Alterations.{IsAlteration, altered, each_altered, unstarted}
use Rattle.wm_law.proofs.Counted.{count_last, no_more, no_more_each, one, one_more, one_most}
use Rattle.wm_law.proofs.Endings.{IsWishing, key_same, stood_starting, using, was_active, wished, wishing_at}
use Rattle.wm_law.proofs.Members.{of_last, of_mapped}
use Rattle.wm_law.proofs.Moves.{HoldsOfStates, IsStartable, autos_made, call_keeps, readies, step_keeps}
use Rattle.wm_law.proofs.Nexts.{IsNext, below_maxact, below_maxjobs, below_maxpty, is_next}
use Rattle.wm_law.proofs.Numbers.{launches_keep}
use Rattle.wm_law.proofs.Orders.{IsOrdered, calls, parts}
use Rattle.wm_law.proofs.Routed.{below_route, by_route}
use Rattle.std.specs.Option.{option_and_then}
use Rattle.wm_base.specs.declared.job.EndCause.{EndCause}
use Rattle.wm_base.proofs.Tests.{Some-injective}
use Rattle.wm_desc.specs.declared.entry.PreEntry.{PreEntry}
use Rattle.wm_desc.proofs.Tables.{one_name}
use Rattle.wm_law.specs.Objects.{AreSound}
use Rattle.wm_law.specs.Prestart.{new_pre_job, with_evoke}
use Rattle.wm_law.proofs.PreOrders.{pre_found}
use Rattle.wm_law.proofs.Supplies.{IsSuppliable, below_entry, below_sbs, supplied_keeps}

-- a count that was below the limit is within it with one more
within_one : (n m : ℕ) (limit : Limit) → is_below n limit ≡ true → m ≤ n + 1 → IsWithin m limit
within_one n m NoMax h e = tt
within_one n m (Most most) h e =
    let less : n < most = ltb-true n most h in
    let within : m ≤ most = omega arith in
    within

within_still : (n m : ℕ) (limit : Limit) → m ≤ n → IsWithin n limit → IsWithin m limit
within_still n m NoMax h w = tt
within_still n m (Most most) h w =
    let was : n ≤ most = w in
    let within : m ≤ most = omega arith in
    within

-- of the Starting jobs whose how passes the test, those of the kinds that are left out aside, each one's serial was Starting in the state
abbrev NoneNew : State → (How → Bool) → (JobKind → Bool) → List Job → Type 0
NoneNew s test aside jobs = (j : Job) → IsIn j jobs → j.phase ≡ Starting → test j.how ≡ true → aside j.kind ≡ false → IsStarting s j.serial

-- no kind is left out
abbrev none_aside : JobKind → Bool
none_aside kind = false

none_new_at : (s : State) (test : How → Bool) (aside : JobKind → Bool) (l : Launched) (t : Bool) (j k : Job) → (is_active l.phase && test l.how) ≡ false → (j.phase ≡ Starting → test j.how ≡ true → aside j.kind ≡ false → IsStarting s j.serial) → k ≡ cond t (as_launched l j) j → k.phase ≡ Starting → test k.how ≡ true → aside k.kind ≡ false → IsStarting s k.serial
none_new_at s test aside l true j k n h e p q v =
    let yes : (is_active k.phase && test k.how) ≡ true = ap (λ (x : Phase). is_active x && test k.how) p ∙ q in
    let same : (is_active k.phase && test k.how) ≡ (is_active l.phase && test l.how) = ap (λ (x : Job). is_active x.phase && test x.how) e in
    absurd (cc)
none_new_at s test aside l false j k n h e p q v = subst (λ (x : Job). x.phase ≡ Starting → test x.how ≡ true → aside x.kind ≡ false → IsStarting s x.serial) (sym e) h p q v

-- a launch that isn't counted makes no counted job Starting
none_new : (s : State) (test : How → Bool) (aside : JobKind → Bool) (serial : ℕ) (l : Launched) (jobs : List Job) → (is_active l.phase && test l.how) ≡ false → NoneNew s test aside jobs → NoneNew s test aside (map (changed_at serial (as_launched l)) jobs)
none_new s test aside serial l jobs n h k m p q v =
    let o = of_mapped (changed_at serial (as_launched l)) jobs k m in
    none_new_at s test aside l (o.0.serial == serial) o.0 k n (h o.0 o.1) o.2 p q v

-- a launch that adds to the count comes where the count is below the limit
abbrev Admits : Objects → (How → Bool) → Limit → Type 0
Admits o test limit = (t : State) (c : Candidate) (j : Job) → t.objects ≡ o → IsNext t c j → test (routed_from_queue t c.sbs c.jobq j).how ≡ true → is_below (count_active test t.jobs) limit ≡ true

-- no counted job became Starting since a state, or the count is within the limit
abbrev NoneOrWithin : State → (How → Bool) → (JobKind → Bool) → Limit → List Job → Type 0
NoneOrWithin s test aside limit jobs = NoneNew s test aside jobs ⊎ IsWithin (count_active test jobs) limit

record IsWithinSince (s : State) (o : Objects) (test : How → Bool) (aside : JobKind → Bool) (limit : Limit) (t : State) : Type 0 where
  numbered : IsNumbered t
  objects : t.objects ≡ o
  within : NoneOrWithin s test aside limit t.jobs

-- the state in which the candidate's job is as it was launched
abbrev launched_in : State → Candidate → Job → State
launched_in s c j = with_job s c.serial (as_launched (routed_from_queue s c.sbs c.jobq j))

objects_same : (s : State) (c : Candidate) (o : Option Job) → (with_routed s c o).objects ≡ s.objects
objects_same s c None = refl
objects_same s c (Some j) = refl

module _ (s : State) (o : Objects) (test : How → Bool) (aside : JobKind → Bool) (limit : Limit) (admits : Admits o test limit) where
  within_by : (t : State) (c : Candidate) (j : Job) (b : Bool) → (is_active (routed_from_queue t c.sbs c.jobq j).phase && test (routed_from_queue t c.sbs c.jobq j).how) ≡ b → IsNext t c j → IsWithinSince s o test aside limit t → NoneOrWithin s test aside limit (launched_in t c j).jobs
  within_by t c j true e n h =
      let l = routed_from_queue t c.sbs c.jobq j in
      let more = one_more (λ (k : Job). is_active k.phase && test k.how) c.serial (as_launched l) t.jobs h.numbered.serials.distinct in
      let below = admits t c j h.objects n (and_parts (is_active l.phase) (test l.how) e).1 in
      inr (within_one (count_active test t.jobs) (count_active test (launched_in t c j).jobs) limit below more)
  within_by t c j false e n h =
      let l = routed_from_queue t c.sbs c.jobq j in
      let more = no_more (λ (k : Job). is_active k.phase && test k.how) c.serial (as_launched l) (λ k. e) t.jobs in
      elim (h.within) as (λ _. NoneOrWithin s test aside limit (launched_in t c j).jobs) [
        | inl none ↦ inl (none_new s test aside c.serial l t.jobs e none)
        | inr w ↦ inr (within_still (count_active test t.jobs) (count_active test (launched_in t c j).jobs) limit more w)
      ]

  within_launched : (t : State) (c : Candidate) (f : Option Job) → find (λ j. j.serial == c.serial) t.jobs ≡ f → next t ≡ Some c → IsWithinSince s o test aside limit t → NoneOrWithin s test aside limit (with_routed t c f).jobs
  within_launched t c None f e h = h.within
  within_launched t c (Some j) f e h =
      let l = routed_from_queue t c.sbs c.jobq j in
      within_by t c j (is_active l.phase && test l.how) refl (is_next t c j e h.numbered f) h

  launches_within : IsKept next (λ c t. launch t c) (IsWithinSince s o test aside limit)
  launches_within = record {
    by_step = λ t c e h. record {
      numbered = launches_keep.by_step t c e h.numbered;
      objects = objects_same t c (find (λ (j : Job). j.serial == c.serial) t.jobs) ∙ h.objects;
      within = within_launched t c (find (λ (j : Job). j.serial == c.serial) t.jobs) refl e h;
    };
  }

  -- so it is where jobs have started
  started_within : (t : State) → IsWithinSince s o test aside limit t → IsWithinSince s o test aside limit (start_jobs t)
  started_within t h = iterate-keeps (IsWithinSince s o test aside limit) launches_within (waiting t) t h

-- each Starting job of the second state has a serial that was Starting in the first
abbrev pub StartsNone : State → State → Type 0
StartsNone s t = (j : Job) → IsIn j t.jobs → j.phase ≡ Starting → IsStarting s j.serial

pub entered_starts_none : (s : State) (user : List ℕ) (c : Sbmjob) (d : Jobd) (due : ℕ) → StartsNone s (entered s (submitted_job s user c d due))
entered_starts_none s user c d due k i p =
    elim (of_last s.jobs (submitted_job s user c d due) k i) as (λ _. IsStarting s k.serial) [
      | inl m ↦ (k, m, refl, p)
      | inr same ↦ (let waiting : Waiting ≡ Starting = ap (λ (j : Job). j.phase) (sym same) ∙ p in absurd (cc))
    ]

pub altered_starts_none : (s : State) (change : Job → Job) (place : ℕ) → IsAlteration s change place → StartsNone s (altered s change place)
altered_starts_none s change place a =
    each_altered (λ (k : Job). k.phase ≡ Starting → IsStarting s k.serial) s change place a (λ j i p. (j, i, refl, p)) (λ j k i b p. absurd (unstarted s j k b p))

moved_at : (s : State) (phase : Phase) (t : Bool) (j k : Job) → is_starting phase ≡ false → IsIn j s.jobs → k ≡ cond t (in_phase phase j) j → k.phase ≡ Starting → IsStarting s k.serial
moved_at s phase true j k n i e p =
    let moved : is_starting k.phase ≡ is_starting phase = ap (λ (x : Job). is_starting x.phase) e in
    let starting : is_starting k.phase ≡ true = ap is_starting p in
    absurd (cc)
moved_at s phase false j k n i e p = (j, i, ap (λ (x : Job). x.serial) (sym e), ap (λ (x : Job). x.phase) (sym e) ∙ p)

pub moved_starts_none : (s : State) (serial : ℕ) (phase : Phase) → is_starting phase ≡ false → StartsNone s (with_phase s serial phase)
moved_starts_none s serial phase n k m p =
    let o = of_mapped (phased_at serial phase) s.jobs k m in
    moved_at s phase (o.0.serial == serial) o.0 k n o.1 o.2 p

pub ended_starts_none : (s : State) (change : Job → Job) → IsWishing change → (k : Job) → IsIn k (map change s.jobs) → k.phase ≡ Starting → IsStarting s k.serial
ended_starts_none s change e k i p =
    let m = stood_starting change e s.jobs k i p in
    (m.job, m.there, sym (ap (λ (x : Job). x.serial) m.same), m.starting)

-- no counted job became Starting since a state, or the count is within the limit, whichever the objects have for it
abbrev WithinSince : State → (How → Bool) → (JobKind → Bool) → (Objects → Limit → Type 0) → State → Type 0
WithinSince s test aside limits t = (l : Limit) → limits t.objects l → NoneOrWithin s test aside l t.jobs

-- a job that starts with a subsystem is left out by its kind, or its how doesn't pass
auto_none_new : (s t : State) (test : How → Bool) (aside : JobKind → Bool) → ((sbs : QName) (seq : ℕ) → test (Auto sbs seq) ≡ true → aside Asj ≡ true) → (q : QName) (e : AutoEntry) (d : Jobd) → NoneNew s test aside t.jobs → NoneNew s test aside (auto_made t q e d).jobs
auto_none_new s t test aside none q e d h k i p its v =
    elim (of_last t.jobs (routed_auto t q (auto_job t e d)) k i) as (λ _. IsStarting s k.serial) [
      | inl m ↦ h k m p its v
      | inr same ↦ (
          let r = by_route t q (as_auto q) (auto_job t e d) (ap (λ (j : Job). j.phase) (sym same) ∙ p) in
          let passes : test (Auto q r.entry.seq) ≡ true = ap test (sym r.is_how) ∙ ap (λ (j : Job). test j.how) (sym same) ∙ its in
          let left_out : aside k.kind ≡ true = ap (λ (j : Job). aside j.kind) same ∙ none q r.entry.seq passes in
          absurd (cc))
    ]

module _ (s : State) (test : How → Bool) (aside : JobKind → Bool) (limit : Limit) (jobs : List Job) (j : Job) where
  last_count : count_active test (jobs ++ j ∷ []) ≡ count_active test jobs + one (λ (k : Job). is_active k.phase && test k.how) j
  last_count = count_last (λ (k : Job). is_active k.phase && test k.how) jobs j

  last_new : (is_active j.phase && test j.how) ≡ false → NoneNew s test aside jobs → NoneNew s test aside (jobs ++ j ∷ [])
  last_new n h k i p q v =
      elim (of_last jobs j k i) as (λ _. IsStarting s k.serial) [
        | inl m ↦ h k m p q v
        | inr same ↦ (
            let yes : (is_active k.phase && test k.how) ≡ true = ap (λ (x : Phase). is_active x && test k.how) p ∙ q in
            let no : (is_active k.phase && test k.how) ≡ false = ap (λ (x : Job). is_active x.phase && test x.how) same ∙ n in
            absurd (cc))
      ]

  -- one more job that is counted comes where the count is below the limit
  last_within : (b : Bool) → (is_active j.phase && test j.how) ≡ b → (test j.how ≡ true → is_below (count_active test jobs) limit ≡ true) → NoneOrWithin s test aside limit jobs → NoneOrWithin s test aside limit (jobs ++ j ∷ [])
  last_within true e below h =
      let count = last_count in
      let most = one_most (λ (k : Job). is_active k.phase && test k.how) j in
      inr (within_one (count_active test jobs) (count_active test (jobs ++ j ∷ [])) limit (below (and_parts (is_active j.phase) (test j.how) e).1) (omega arith))
  last_within false e below (inl none) = inl (last_new e none)
  last_within false e below (inr w) =
      let count = last_count in
      let none : one (λ (k : Job). is_active k.phase && test k.how) j ≡ 0 = ap (λ (t : Bool). cond t 1 0) e in
      inr (within_still (count_active test jobs) (count_active test (jobs ++ j ∷ [])) limit (omega arith) w)

counted_before : (test : How → Bool) (change : Job → Job) → IsWishing change → (j : Job) → (is_active (change j).phase && test (change j).how) ≡ true → (is_active j.phase && test j.how) ≡ true
counted_before test change e j h =
    let both = and_parts (is_active (change j).phase) (test (change j).how) h in
    ap (λ (b : Bool). b && test j.how) (was_active j.phase (change j).phase (e.phase j) both.0)
    ∙ ap test (sym (key_same change e (λ (x : Job). x.how) (λ x p w u e. refl) j))
    ∙ both.1

-- wishes and uses make no job Starting, and raise no count
within_wished : (s : State) (test : How → Bool) (aside : JobKind → Bool) (limit : Limit) (change : Job → Job) → IsWishing change → (jobs : List Job) → NoneOrWithin s test aside limit jobs → NoneOrWithin s test aside limit (map change jobs)
within_wished s test aside limit change e jobs (inl none) = inl (λ k i p q v. (
    let m = stood_starting change e jobs k i p in
    subst (IsStarting s) (sym (ap (λ (x : Job). x.serial) m.same)) (none m.job m.there m.starting (ap test (sym (ap (λ (x : Job). x.how) m.same)) ∙ q) (ap aside (sym (ap (λ (x : Job). x.kind) m.same)) ∙ v))))
within_wished s test aside limit change e jobs (inr w) =
    let fewer = no_more_each (λ (j : Job). is_active j.phase && test j.how) change (counted_before test change e) jobs in
    inr (within_still (count_active test jobs) (count_active test (map change jobs)) limit fewer w)

-- what a prestart job that is made stands on: the count is below the limit where its how passes the test
abbrev PreBelow : (How → Bool) → (Objects → Limit → Type 0) → Type 0
PreBelow test limits = (q : QName) (d : Sbsd) (e : PreEntry) (t : State) → IsSuppliable q d e t → (l : Limit) → limits t.objects l → test (Pre q e.pgm) ≡ true → is_below (count_active test t.jobs) l ≡ true

module _ (s : State) (test : How → Bool) (aside : JobKind → Bool) (limits : Objects → Limit → Type 0) (starts : (q : QName) → IsStartable s q → WithinSince s test aside limits (with_autos s q)) (below : PreBelow test limits) where
  abbrev Within : State → Type 0
  Within t = WithinSince s test aside limits t

  yet : (t : State) → StartsNone s t → Within t
  yet t h l k = inl (λ j i p q v. h j i p)

  -- no call passes the limit before the state settles
  within_calls : HoldsOfStates Within s
  within_calls = record {
    stays = yet s (λ j i p. (j, i, refl, p));
    starts = starts;
    supplies = record {
      makes = λ q d e t can h l k. last_within s test aside l t.jobs (new_pre_job t q e.pgm) (test (Pre q e.pgm)) refl (λ its. below q d e t can l k its) (h l k);
      assigns = λ t q pgm job evokes can h l k. within_wished s test aside l (active_at job.serial with_evoke) (using job.serial) t.jobs (h l k);
    };
    enters = λ user c d due has. yet (entered s (submitted_job s user c d due)) (entered_starts_none s user c d due);
    alters = λ change place a. yet (altered s change place) (altered_starts_none s change place a);
    holds = λ held a. yet (record s { held = held }) (λ j i p. (j, i, refl, p));
    lists = λ stopped evokes. yet (record s { stopped = stopped; evokes = evokes }) (λ j i p. (j, i, refl, p));
    moves = λ serial j phase stopped i e r n. yet (record (with_phase s serial phase) { stopped = stopped }) (moved_starts_none s serial phase n);
    ends = λ change started stopped evokes power e. yet (wished s change started stopped evokes power) (ended_starts_none s change e.jobs);
    makes = λ o c. yet (record s { objects = o }) (λ j i p. (j, i, refl, p));
  }

  -- nor where the state is ready for jobs to start
  within_ready : (t : State) → Within t → Within (ready t)
  within_ready t h =
      supplied_keeps Within within_calls.supplies (leave (come_due t))
      (λ l k. within_wished s test aside l (job_at t.clock (sbss_at t)) (wishing_at t.clock (sbss_at t)) t.jobs (h l k))

  called_within : (caller : ℕ) (call : Call) → Within (ready (apply s caller call).state)
  called_within caller call = within_ready (apply s caller call).state (call_keeps Within s caller call within_calls)

-- where no autostart job counts, none became Starting with the autostart jobs of a subsystem
autos_aside : (s : State) (test : How → Bool) (aside : JobKind → Bool) (limits : Objects → Limit → Type 0) → ((sbs : QName) (seq : ℕ) → test (Auto sbs seq) ≡ true → aside Asj ≡ true) → (q : QName) → IsStartable s q → WithinSince s test aside limits (with_autos s q)
autos_aside s test aside limits none q can l k =
    inl (autos_made (λ t. NoneNew s test aside t.jobs) s q can (λ t e d m h. auto_none_new s t test aside none q e d h) (λ j i p its v. (j, i, refl, p)))

-- the limits: MAXJOBS of a subsystem, MAXACT and MAXPTY of a queue entry, MAXACT of a routing entry, and MAXJOBS of a prestart entry
abbrev OfSbs : QName → Objects → Limit → Type 0
OfSbs sbs o l = (d : Sbsd) × (object_named sbs o.sbsds ≡ Some d) × (d.maxjobs ≡ l)

abbrev OfQueue : QName → QName → Objects → Limit → Type 0
OfQueue sbs queue o l = (d : Sbsd) × (object_named sbs o.sbsds ≡ Some d) × ((e : QueueEntry) × (entry_for queue d ≡ Some e) × (e.maxact ≡ l))

abbrev OfPriority : QName → QName → ℕ → Objects → Limit → Type 0
OfPriority sbs queue pty o l = (d : Sbsd) × (object_named sbs o.sbsds ≡ Some d) × ((e : QueueEntry) × (entry_for queue d ≡ Some e) × (maxpty_of e pty ≡ l))

abbrev OfRoute : QName → ℕ → Objects → Limit → Type 0
OfRoute sbs seq o l = IsRouted o × ((d : Sbsd) × (object_named sbs o.sbsds ≡ Some d) × ((e : RouteEntry) × (entry_numbered seq d ≡ Some e) × (e.maxact ≡ l)))

abbrev OfPre : QName → QName → Objects → Limit → Type 0
OfPre sbs pgm o l = AreSound o × ((d : Sbsd) × (object_named sbs o.sbsds ≡ Some d) × ((e : PreEntry) × (pre_entry_for pgm d ≡ Some e) × (e.maxjobs ≡ l)))

-- no autostart job passes the limit of a routing entry
routes_start : (s : State) (sbs : QName) (seq : ℕ) (q : QName) → IsStartable s q → WithinSince s (is_by_route sbs seq) none_aside (OfRoute sbs seq) (with_autos s q)
routes_start s sbs seq q can =
    autos_made (WithinSince s (is_by_route sbs seq) none_aside (OfRoute sbs seq)) s q can
    (λ t e d m h l k. (
    let j = routed_auto t q (auto_job t e d) in
    let n = k.1.2.0 in
    last_within s (is_by_route sbs seq) none_aside l t.jobs j (is_active j.phase && is_by_route sbs seq j.how) refl
    (λ its. ap (is_below (count_active (is_by_route sbs seq) t.jobs)) (sym k.1.2.2) ∙ below_route t q (as_auto q) (auto_job t e d) sbs seq k.1.0 n (λ x y z. refl) k.0 k.1.1 k.1.2.1 its)
    (h l k)))
    (λ l k. inl (λ j i p its v. (j, i, refl, p)))

-- a prestart job is made below MAXJOBS of its subsystem
sbs_below : (sbs : QName) → PreBelow (is_in_sbs sbs) (OfSbs sbs)
sbs_below sbs q d e t can l k its =
    let named : q ≡ sbs = one_name q sbs its in
    let same : d ≡ k.0 = Some-injective d k.0 (sym can.described ∙ ap (λ (n : QName). object_named n t.objects.sbsds) named ∙ k.1) in
    ap (λ (n : QName). is_below (count_in_sbs n t.jobs) l) (sym named)
    ∙ ap (is_below (count_in_sbs q t.jobs)) (sym k.2 ∙ ap (λ (x : Sbsd). x.maxjobs) (sym same))
    ∙ below_sbs q d e t can.some

-- and of its entry
pre_below : (sbs pgm : QName) → PreBelow (is_from_pre sbs pgm) (OfPre sbs pgm)
pre_below sbs pgm q d e t can l k its =
    let both = and_parts (same_qname q sbs) (same_qname e.pgm pgm) its in
    let named : q ≡ sbs = one_name q sbs both.0 in
    let program : e.pgm ≡ pgm = one_name e.pgm pgm both.1 in
    let same : d ≡ k.1.0 = Some-injective d k.1.0 (sym can.described ∙ ap (λ (n : QName). object_named n t.objects.sbsds) named ∙ k.1.1) in
    let pres = (k.0.described q d can.described).pres in
    let found : pre_entry_for pgm d ≡ Some e = ap (λ (n : QName). pre_entry_for n d) (sym program) ∙ pre_found d.pres e pres.sorted can.entered in
    let one : e ≡ k.1.2.0 = Some-injective e k.1.2.0 (sym found ∙ ap (pre_entry_for pgm) same ∙ k.1.2.1) in
    ap (λ (n : QName). is_below (count_from_pre n pgm t.jobs) l) (sym named)
    ∙ ap (λ (n : QName). is_below (count_from_pre q n t.jobs) l) (sym program)
    ∙ ap (is_below (count_from_pre q e.pgm t.jobs)) (sym k.1.2.2 ∙ ap (λ (x : PreEntry). x.maxjobs) (sym one))
    ∙ below_entry q d e t can.some

-- a job that became Starting, whose how passes the test, finds the count within the limit
settled_within : (s u : State) (test : How → Bool) (aside : JobKind → Bool) (limit : Limit) → IsNumbered u → NoneOrWithin s test aside limit u.jobs → Admits u.objects test limit → (j : Job) → BecameStarting s (start_jobs u) j → test j.how ≡ true → aside j.kind ≡ false → IsWithin (count_active test (start_jobs u).jobs) limit
settled_within s u test aside limit n h a j b its kind =
    let since = started_within s u.objects test aside limit a u (record { numbered = n; objects = refl; within = h }) in
    elim (since.within) as (λ _. IsWithin (count_active test (start_jobs u).jobs) limit) [
      | inl none ↦ absurd (b.new (none j b.job b.starting its kind))
      | inr w ↦ w
    ]

launches_keep_objects : (o : Objects) → IsKept next (λ c t. launch t c) (λ t. t.objects ≡ o)
launches_keep_objects o = record { by_step = λ t c e h. objects_same t c (find (λ (j : Job). j.serial == c.serial) t.jobs) ∙ h }

-- starting changes no object
started_objects : (u : State) → (start_jobs u).objects ≡ u.objects
started_objects u = iterate-keeps (λ (t : State). t.objects ≡ u.objects) (launches_keep_objects u.objects) (waiting u) u refl

described : (u : State) (sbs : QName) (d : Sbsd) → object_named sbs (start_jobs u).objects.sbsds ≡ Some d → object_named sbs u.objects.sbsds ≡ Some d
described u sbs d k = ap (λ (o : Objects). object_named sbs o.sbsds) (sym (started_objects u)) ∙ k

named : (o p : Objects) (sbs : QName) (d : Sbsd) → p ≡ o → object_named sbs o.sbsds ≡ Some d → object_named sbs p.sbsds ≡ Some d
named o p sbs d e k = ap (λ (x : Objects). object_named sbs x.sbsds) e ∙ k

admits_maxjobs : (o : Objects) (sbs : QName) (d : Sbsd) → object_named sbs o.sbsds ≡ Some d → Admits o (is_in_sbs sbs) d.maxjobs
admits_maxjobs o sbs d k t c j e n h = below_maxjobs t c j sbs d n (named o t.objects sbs d e k) h

admits_maxact : (o : Objects) (sbs queue : QName) (d : Sbsd) (e : QueueEntry) → object_named sbs o.sbsds ≡ Some d → entry_for queue d ≡ Some e → Admits o (is_from_queue sbs queue) e.maxact
admits_maxact o sbs queue d e k f t c j g n h = below_maxact t c j sbs queue d e n (named o t.objects sbs d g k) f h

admits_maxpty : (o : Objects) (sbs queue : QName) (pty : ℕ) (d : Sbsd) (e : QueueEntry) → object_named sbs o.sbsds ≡ Some d → entry_for queue d ≡ Some e → Admits o (is_from_priority sbs queue pty) (maxpty_of e pty)
admits_maxpty o sbs queue pty d e k f t c j g n h = below_maxpty t c j sbs queue pty d e n (named o t.objects sbs d g k) f h

admits_route : (o : Objects) (sbs : QName) (seq : ℕ) (d : Sbsd) (e : RouteEntry) → IsRouted o → object_named sbs o.sbsds ≡ Some d → entry_numbered seq d ≡ Some e → Admits o (is_by_route sbs seq) e.maxact
admits_route o sbs seq d e r k f t c j g n h =
    below_route t c.sbs (from_queue c.sbs c.jobq j) j sbs seq d e (λ x y z. refl) (subst IsRouted (sym g) r) (named o t.objects sbs d g k) f h

unless_no_pre : (sbs pgm : QName) (how : ℕ → How) (seq : ℕ) (o : Option EndCause) → ((n : ℕ) → is_from_pre sbs pgm (how n) ≡ false) → is_from_pre sbs pgm (starts_unless how seq o).how ≡ false
unless_no_pre sbs pgm how seq None h = h seq
unless_no_pre sbs pgm how seq (Some c) h = refl

through_no_pre : (t : State) (q sbs pgm : QName) (how : ℕ → How) (j : Job) (o : Option RouteEntry) → ((n : ℕ) → is_from_pre sbs pgm (how n) ≡ false) → is_from_pre sbs pgm (routed_through t q how j o).how ≡ false
through_no_pre t q sbs pgm how j None h = refl
through_no_pre t q sbs pgm how j (Some e) h = unless_no_pre sbs pgm how e.seq (route_fault t q e j) h

-- no job of a queue comes by a prestart entry
admits_pre : (o : Objects) (sbs pgm : QName) (limit : Limit) → Admits o (is_from_pre sbs pgm) limit
admits_pre o sbs pgm limit t c j e n h =
    let no = through_no_pre t c.sbs sbs pgm (from_queue c.sbs c.jobq j) j (option_and_then (λ (d : Sbsd). route d j.rtgdta) (object_named c.sbs t.objects.sbsds)) (λ m. refl) in
    absurd (cc)

-- the clock has no part in what became Starting
since_clock : (s : State) (moment : ℕ) (u : State) (j : Job) → BecameStarting s (start_jobs u) j → BecameStarting (with_clock s moment) (start_jobs u) j
since_clock s moment u j b = record { job = b.job; starting = b.starting; new = b.new }

-- no start passes a limit over a step
pub step_limits : (s : State) (caller : ℕ) (call : Call) (moment : ℕ) → IsOrdered s → IsWithinLimits s (step s caller call moment).state
unfolding step
step_limits s caller call moment ordered =
    let c = with_clock s moment in
    let t = (apply c caller call).state in
    let u = ready t in
    let all : IsOrdered u = readies IsOrdered parts t (call_keeps IsOrdered c caller call (calls c (parts.clock s moment ordered))) in
    record {
      maxjobs = λ j sbs d b kind its k. (
          let there = described u sbs d k in
          settled_within c u (is_in_sbs sbs) is_autostart d.maxjobs all.numbered
          (called_within c (is_in_sbs sbs) is_autostart (OfSbs sbs) (autos_aside c (is_in_sbs sbs) is_autostart (OfSbs sbs) (λ x y e. refl)) (sbs_below sbs) caller call d.maxjobs (d, there, refl))
          (admits_maxjobs u.objects sbs d there) j (since_clock s moment u j b) its kind);
      maxact = λ j sbs queue d e b its k f. (
          let there = described u sbs d k in
          settled_within c u (is_from_queue sbs queue) none_aside e.maxact all.numbered
          (called_within c (is_from_queue sbs queue) none_aside (OfQueue sbs queue) (autos_aside c (is_from_queue sbs queue) none_aside (OfQueue sbs queue) (λ x y no. absurd (cc))) (λ q x y z can l m no. absurd (cc)) caller call e.maxact (d, there, (e, f, refl)))
          (admits_maxact u.objects sbs queue d e there f) j (since_clock s moment u j b) its refl);
      maxpty = λ j sbs queue pty d e b its k f. (
          let there = described u sbs d k in
          settled_within c u (is_from_priority sbs queue pty) none_aside (maxpty_of e pty) all.numbered
          (called_within c (is_from_priority sbs queue pty) none_aside (OfPriority sbs queue pty) (autos_aside c (is_from_priority sbs queue pty) none_aside (OfPriority sbs queue pty) (λ x y no. absurd (cc))) (λ q x y z can l m no. absurd (cc)) caller call (maxpty_of e pty) (d, there, (e, f, refl)))
          (admits_maxpty u.objects sbs queue pty d e there f) j (since_clock s moment u j b) its refl);
      routes = λ j sbs seq d e b its k f. (
          let there = described u sbs d k in
          settled_within c u (is_by_route sbs seq) none_aside e.maxact all.numbered
          (called_within c (is_by_route sbs seq) none_aside (OfRoute sbs seq) (routes_start c sbs seq) (λ q x y z can l m no. absurd (cc)) caller call e.maxact (all.orders.routed, (d, there, (e, f, refl))))
          (admits_route u.objects sbs seq d e all.orders.routed there f) j (since_clock s moment u j b) its refl);
      pres = λ j sbs pgm d e b its k f. (
          let there = described u sbs d k in
          settled_within c u (is_from_pre sbs pgm) none_aside e.maxjobs all.numbered
          (called_within c (is_from_pre sbs pgm) none_aside (OfPre sbs pgm) (autos_aside c (is_from_pre sbs pgm) none_aside (OfPre sbs pgm) (λ x y no. absurd (cc))) (pre_below sbs pgm) caller call e.maxjobs (all.objects, (d, there, (e, f, refl))))
          (admits_pre u.objects sbs pgm e.maxjobs) j (since_clock s moment u j b) its refl);
    }

-- nor over any entry of a history
pub limits_kept : (s : State) (h : List Entry) → IsOrdered s → KeepsLimits s h
limits_kept s [] o = tt
limits_kept s (e ∷ es) o = (step_limits s e.caller e.call e.moment o, limits_kept (stepped s e).state es (step_keeps IsOrdered parts s e.caller e.call e.moment o))
