-- Settling gives the first requests of an entry to as many of its jobs, and leaves the others in their order.
use Rattle.std.proofs.Common.{◌≡◌, ◌⊎◌, ℕ, ◌+◌, ◌++◌, ◌&&◌, ◌||◌, ◌==◌, not, Bool, true, false, true≢false, cond, List, [], ◌∷◌, length, filter, map, Option, Some, None, refl, sym, ap, subst, ◌∙◌, inl, inr, arith}
use Rattle.std.specs.List.{count_by, find, list_any}
use Rattle.std.proofs.lemmas.Bool.{and_parts, eq-eqb, eqb-true}
use Rattle.std.proofs.lemmas.List.Sums.{sum_by-cons}
use Rattle.wm_base.specs.declared.job.EndCause.{EndCause}
use Rattle.wm_base.specs.declared.qname.QName.{QName}
use Rattle.wm_base.specs.Iterate.{IsKept}
use Rattle.wm_base.proofs.Iterate.{iterate-keeps}
use Rattle.wm_desc.proofs.Tables.{one_name}
use Rattle.wm_desc.specs.Table.{same_qname}
use Rattle.wm_law.specs.declared.choice.Candidate.{Candidate}
use Rattle.wm_law.specs.declared.job.Job.{Job}
use Rattle.wm_law.specs.declared.job.Phase.{Phase}
use Rattle.wm_law.specs.declared.job.Phase.TheVariants.{Waiting, Starting, Handed, Running, Ended}
use Rattle.wm_law.specs.declared.job.Wish.{Wish}
use Rattle.wm_law.specs.declared.launch.Launched.{Launched}
use Rattle.wm_law.specs.declared.state.Evoke.{Evoke}
use Rattle.wm_law.specs.declared.state.Sbs.{Sbs}
use Rattle.wm_law.specs.declared.state.SbsPhase.{SbsPhase}
use Rattle.wm_law.specs.declared.state.SbsPhase.TheVariants.{Active, Ending, Now}
use Rattle.wm_law.specs.declared.state.State.{State}
use Rattle.wm_law.specs.Choice.{next}
use Rattle.wm_law.specs.Counts.{count_in_sbs, is_active, is_from_pre, is_starting, is_waiting}
use Rattle.wm_law.specs.Jobs.{active_at, changed_at}
use Rattle.wm_law.specs.Kept.{IsDistinct, IsNumbered}
use Rattle.wm_law.specs.Launch.{as_launched, launch, routed_from_queue, with_routed}
use Rattle.wm_law.specs.Laws.{IsIn}
use Rattle.wm_law.specs.Prestart.{assign, assigned_to, evokes_of, first_idle, is_evoke_of, is_idle, is_idle_in, is_running, make_pre, new_pre_job, with_evoke}
use Rattle.wm_law.specs.Requests.{GivesOut, count_used, is_used_in, NoneWaitsAtEnd, SettlingGivesOut}
use Rattle.wm_law.specs.Settling.{come_due, ended_by, is_ending, is_gone, is_gone_by_name, is_sbs_now, job_at, leave, sbs_at, sbs_phase_at, sbss_at, start_jobs, waiting, with_deadline}
use Rattle.wm_law.specs.Supply.{supply}
use Rattle.wm_law.specs.Wishes.{deadline, has_wish, now_cause, told_now, with_wish}
use Rattle.wm_law.proofs.Counted.{count_last, no_fewer, no_more_each, one}
use Rattle.wm_law.proofs.Distinct.{one_by_key}
use Rattle.wm_law.proofs.Filters.{HasFirst, first_before, others_stay}
use Rattle.wm_law.proofs.FirstGone.{gone_is}
use Rattle.wm_law.proofs.Firsts.{next_waits}
use Rattle.wm_law.proofs.Members.{each_stays, in_mapped, of_mapped}
use Rattle.wm_law.proofs.Named.{own_name}
use Rattle.wm_law.proofs.Numbers.{calls, due_keeps, launches_keep, only_started}
use Rattle.wm_law.proofs.RequestCalls.{of_entry}
use Rattle.wm_law.proofs.Served.{IsKeptBySupply, not_running, supply_kept}
use Rattle.wm_law.proofs.Supplies.{IsAssignable, assignable, supplied_keeps}
use Rattle.wm_law.proofs.TheirJobs.{HasSerials, from_one, serials_kept}

-- a change that leaves the test of each job leaves the count
same_count : (test : Job → Bool) (g : Job → Job) → ((i : Job) → test (g i) ≡ test i) → (jobs : List Job) → count_by test (map g jobs) ≡ count_by test jobs
same_count test g h jobs =
    let less = no_more_each test g (λ i t. sym (h i) ∙ t) jobs in
    let more = no_fewer test test g jobs (λ i m t. h i ∙ t) in
    omega (arith, less, more)

-- so it is with one that leaves the test of each job of the list
same_counted : (test : Job → Bool) (g : Job → Job) (jobs : List Job) → ((i : Job) → IsIn i jobs → test (g i) ≡ test i) → count_by test (map g jobs) ≡ count_by test jobs
same_counted test g [] h = refl
same_counted test g (j ∷ jobs) h =
    let this : one test (g j) ≡ one test j = ap (λ (b : Bool). cond b 1 0) (h j (inl refl)) in
    let rest = same_counted test g jobs (λ i m. h i (inr m)) in
    rw (sum_by-cons (one test) (g j) (map g jobs), sum_by-cons (one test) j jobs) (omega (arith, this, rest))

-- a change that lets one job pass the test, and leaves the others, makes the count one more
one_passes : (test : Job → Bool) (g : Job → Job) (jobs : List Job) (j : Job) → IsIn j jobs → IsDistinct (map (λ i. i.serial) jobs) → test j ≡ false → test (g j) ≡ true → ((i : Job) → IsIn i jobs → (i.serial ≡ j.serial → ⊥) → g i ≡ i) → count_by test (map g jobs) ≡ count_by test jobs + 1
one_passes test g [] j i d was is h = absurd i
one_passes test g (k ∷ jobs) j (inl same) d was is h =
    let this : one test (g k) ≡ 1 = ap (λ (b : Bool). cond b 1 0) (ap (λ (x : Job). test (g x)) (sym same) ∙ is) in
    let before : one test k ≡ 0 = ap (λ (b : Bool). cond b 1 0) (ap test (sym same) ∙ was) in
    let rest : map g jobs ≡ jobs = each_stays g jobs (λ x m. h x (inr m) (λ e. d.0 (subst (λ (n : ℕ). IsIn n (map (λ (y : Job). y.serial) jobs)) (e ∙ ap (λ (y : Job). y.serial) same) (in_mapped (λ (y : Job). y.serial) jobs x m)))) in
    let count : count_by test (map g jobs) ≡ count_by test jobs = ap (count_by test) rest in
    rw (sum_by-cons (one test) (g k) (map g jobs), sum_by-cons (one test) k jobs) (omega (arith, this, before, count))
one_passes test g (k ∷ jobs) j (inr m) d was is h =
    let stays : g k ≡ k = h k (inl refl) (λ e. d.0 (subst (λ (n : ℕ). IsIn n (map (λ (y : Job). y.serial) jobs)) (sym e) (in_mapped (λ (y : Job). y.serial) jobs j m))) in
    let this : one test (g k) ≡ one test k = ap (one test) stays in
    let rest = one_passes test g jobs j m d.1 was is (λ x i. h x (inr i)) in
    rw (sum_by-cons (one test) (g k) (map g jobs), sum_by-cons (one test) k jobs) (omega (arith, this, rest))

-- settling's first part ends no job that runs
starting_runs : (p : Phase) → is_starting p ≡ true → is_running p ≡ false
starting_runs Waiting h = absurd (cc)
starting_runs Starting h = refl
starting_runs (Handed m) h = absurd (cc)
starting_runs (Running m) h = absurd (cc)
starting_runs (Ended c) h = absurd (cc)

none_runs : (a b : Bool) → (a && false && b) ≡ false
none_runs true b = refl
none_runs false b = refl

not_used : (sbs pgm : QName) (j : Job) → is_running j.phase ≡ false → is_used_in sbs pgm j ≡ false
not_used sbs pgm j e = ap (λ (b : Bool). is_from_pre sbs pgm j.how && b && j.evoke) e ∙ none_runs (is_from_pre sbs pgm j.how) j.evoke

module _ (sbs pgm : QName) where
  abbrev used : Job → Bool
  used j = is_used_in sbs pgm j

  ended_same : (o : Option EndCause) (j : Job) → is_running j.phase ≡ false → used (ended_by o j) ≡ used j
  ended_same None j e = refl
  ended_same (Some c) j e = not_used sbs pgm (ended_by (Some c) j) refl ∙ sym (not_used sbs pgm j e)

  unless_same : (b : Bool) (j : Job) → is_starting j.phase ≡ b → used (cond b (ended_by (now_cause j.wish) j) j) ≡ used j
  unless_same true j e = ended_same (now_cause j.wish) j (starting_runs j.phase e)
  unless_same false j e = refl

  wish_same : (b : Bool) (w : Wish) (j : Job) → used (cond b (with_wish w j) j) ≡ used j
  wish_same true w j = refl
  wish_same false w j = refl

  due_same : (clock : ℕ) (bs : List Sbs) (j : Job) → used (job_at clock bs j) ≡ used j
  due_same clock bs j =
      let told = told_now (λ (b : Sbs). is_sbs_now b.phase) bs j in
      let looked = with_deadline clock told in
      unless_same (is_starting looked.phase) looked refl ∙ (wish_same (is_active told.phase) (deadline clock told) told ∙ wish_same _ _ j)

-- where none waits at an ending subsystem, none is dropped by those that leave
left_all : {X : Type 0} (p : X → Bool) (xs : List X) → ((x : X) → IsIn x xs → p x ≡ true) → filter p xs ≡ xs
left_all p [] h = refl
left_all p (x ∷ xs) h = ap (λ (b : Bool). cond b (x ∷ filter p xs) (filter p xs)) (h x (inl refl)) ∙ ap (λ (l : List _). x ∷ l) (left_all p xs (λ y i. h y (inr i)))

any_here : (a b : Bool) → (a || b) ≡ true → (a ≡ true) ⊎ (b ≡ true)
any_here true b h = inl refl
any_here false b h = inr h

gone_one : (jobs : List Job) (bs : List Sbs) (q : QName) → list_any (λ b. is_gone jobs b && same_qname b.sbsd q) bs ≡ true → (b : Sbs) × IsIn b bs × (is_ending b.phase ≡ true) × (b.sbsd ≡ q)
gone_one jobs [] q h = absurd (cc)
gone_one jobs (x ∷ bs) q h =
    elim (any_here (is_gone jobs x && same_qname x.sbsd q) (list_any (λ b. is_gone jobs b && same_qname b.sbsd q) bs) h) as (λ _. (b : Sbs) × IsIn b (x ∷ bs) × (is_ending b.phase ≡ true) × (b.sbsd ≡ q)) [
      | inl here ↦ (
          let both = and_parts (is_gone jobs x) (same_qname x.sbsd q) here in
          (x, inl refl, (and_parts (is_ending x.phase) (count_in_sbs x.sbsd jobs == 0) both.0).0, one_name x.sbsd q both.1))
      | inr rest ↦ (let r = gone_one jobs bs q rest in (r.0, inr r.1, r.2, r.3))
    ]

none_gone : (s : State) (e : Evoke) (b : Bool) → NoneWaitsAtEnd s → IsIn e s.evokes → is_gone_by_name s e.sbs ≡ b → not b ≡ true
none_gone s e false n i h = refl
none_gone s e true n i h =
    let r = gone_one s.jobs s.started e.sbs h in
    absurd (true≢false (sym r.2 ∙ n e r.0 i r.1 r.3))

leaves_all : (s : State) → NoneWaitsAtEnd s → (leave s).evokes ≡ s.evokes
leaves_all s n = left_all (λ e. not (is_gone_by_name s e.sbs)) s.evokes (λ e i. none_gone s e (is_gone_by_name s e.sbs) n i refl)

ending_at : (clock : ℕ) (p : SbsPhase) → is_ending p ≡ false → is_ending (sbs_phase_at clock p) ≡ false
ending_at clock Active h = refl
ending_at clock (Ending until) h = absurd (cc)
ending_at clock Now h = absurd (cc)

-- nor does one come to wait there by the clock
pub none_due : (s : State) → NoneWaitsAtEnd s → NoneWaitsAtEnd (come_due s)
none_due s n e b i m same =
    let was = of_mapped (sbs_at s.clock) s.started b m in
    ap (λ (x : Sbs). is_ending x.phase) was.2 ∙ ending_at s.clock was.0.phase (n e was.0 i was.1 (sym (ap (λ (x : Sbs). x.sbsd) was.2) ∙ same))

-- requests are given out from a state on
module _ (sbs pgm : QName) (s : State) where
  abbrev Out : State → Type 0
  Out t = GivesOut sbs pgm s t

  -- where the requests and the jobs with requests stay
  stays_out : (t u : State) → evokes_of sbs pgm u.evokes ≡ evokes_of sbs pgm t.evokes → count_used sbs pgm u.jobs ≡ count_used sbs pgm t.jobs → Out t → Out u
  stays_out t u e c h = record { given = h.given; front = h.front ∙ ap (λ (l : List Evoke). h.given ++ l) (sym e); used = c ∙ h.used }

  append_one : (xs : List Evoke) (y : Evoke) (zs : List Evoke) → xs ++ (y ∷ zs) ≡ (xs ++ y ∷ []) ++ zs
  append_one [] y zs = refl
  append_one (x ∷ xs) y zs = ap (λ (l : List Evoke). x ∷ l) (append_one xs y zs)

  length_one : (xs : List Evoke) (y : Evoke) → length (xs ++ y ∷ []) ≡ length xs + 1
  length_one [] y = refl
  length_one (x ∷ xs) y = let rest = length_one xs y in omega (arith, rest)

  -- where the first request is gone, and one job more has one
  one_out : (t u : State) → HasFirst (is_evoke_of sbs pgm) (evokes_of sbs pgm t.evokes) (evokes_of sbs pgm u.evokes) → count_used sbs pgm u.jobs ≡ count_used sbs pgm t.jobs + 1 → Out t → Out u
  one_out t u f c h = record {
    given = h.given ++ f.0 ∷ [];
    front = h.front ∙ (ap (λ (l : List Evoke). h.given ++ l) f.1 ∙ append_one h.given f.0 (evokes_of sbs pgm u.evokes));
    used = omega (arith, c, h.used, length_one h.given f.0);
  }

  start_out : Out s
  start_out = record { given = []; front = refl; used = omega arith }

  -- serials are given once, too
  record IsOut (t : State) : Type 0 where
    out : Out t
    serials : HasSerials t

  has_request : (b : Bool) (o : Option Job) (j : Job) → cond b o None ≡ Some j → b ≡ true
  has_request true o j e = refl
  has_request false o j e = absurd (cc)

  not_true : (b : Bool) → not b ≡ true → b ≡ false
  not_true true h = absurd (cc)
  not_true false h = refl

  running_active : (q : Phase) → is_running q ≡ true → is_active q ≡ true
  running_active Waiting h = absurd (cc)
  running_active Starting h = absurd (cc)
  running_active (Handed m) h = absurd (cc)
  running_active (Running m) h = refl
  running_active (Ended c) h = absurd (cc)

  -- an idle job of the entry, whose parts are told
  record IsIdleJob (j : Job) : Type 0 where
    from : is_from_pre sbs pgm j.how ≡ true
    runs : is_running j.phase ≡ true
    unused : j.evoke ≡ false

  idle_job : (j : Job) → is_idle_in sbs pgm j ≡ true → IsIdleJob j
  idle_job j h =
      let all = and_parts (is_from_pre sbs pgm j.how) (is_idle j) h in
      let first = and_parts (is_running j.phase && not j.evoke) (not (has_wish j.wish)) all.1 in
      let both = and_parts (is_running j.phase) (not j.evoke) first.0 in
      record { from = all.0; runs = both.0; unused = not_true j.evoke both.1 }

  was_unused : (j : Job) → IsIdleJob j → is_used_in sbs pgm j ≡ false
  was_unused j h = rw (h.from, h.runs, h.unused) refl

  used_changed : (j : Job) → IsIdleJob j → is_used_in sbs pgm (active_at j.serial with_evoke j) ≡ true
  used_changed j h =
      let test : (is_active j.phase && j.serial == j.serial) ≡ true = rw (running_active j.phase h.runs, eq-eqb j.serial j.serial refl) refl in
      ap (λ (b : Bool). is_used_in sbs pgm (cond b (with_evoke j) j)) test ∙ rw (h.from, h.runs) refl

  other_changed : (j i : Job) (b : Bool) → (is_active i.phase && i.serial == j.serial) ≡ b → (i.serial ≡ j.serial → ⊥) → cond b (with_evoke i) i ≡ i
  other_changed j i true e h = absurd (h (eqb-true i.serial j.serial (and_parts (is_active i.phase) (i.serial == j.serial) e).1))
  other_changed j i false e h = refl

  -- the first request for the entry goes to a job of it
  same_out : (t : State) (j : Job) → assign sbs pgm t ≡ Some j → IsOut t → Out (assigned_to sbs pgm j t)
  same_out t j is h =
      let can = assignable sbs pgm t j is in
      let idle = idle_job j can.idle in
      let some = has_request (list_any (is_evoke_of sbs pgm) t.evokes) (first_idle sbs pgm t.jobs) j is in
      let first : HasFirst (is_evoke_of sbs pgm) (evokes_of sbs pgm t.evokes) (evokes_of sbs pgm (assigned_to sbs pgm j t).evokes) = subst (λ (l : List Evoke). HasFirst (is_evoke_of sbs pgm) (evokes_of sbs pgm t.evokes) (evokes_of sbs pgm l)) (sym (gone_is (is_evoke_of sbs pgm) t.evokes)) (first_before (is_evoke_of sbs pgm) t.evokes some) in
      let count = one_passes (is_used_in sbs pgm) (active_at j.serial with_evoke) t.jobs j can.there h.serials.distinct (was_unused j idle) (used_changed j idle) (λ i m e. other_changed j i (is_active i.phase && i.serial == j.serial) refl e) in
      one_out t (assigned_to sbs pgm j t) first count h.out

  -- the entries are two
  differ : (r p : QName) → (same_qname r sbs && same_qname p pgm) ≡ false → (r ≡ sbs) × (p ≡ pgm) → ⊥
  differ r p none same =
      let a : same_qname r sbs ≡ true = subst (λ (y : QName). same_qname r y ≡ true) same.0 (own_name r) in
      let b : same_qname p pgm ≡ true = subst (λ (y : QName). same_qname p y ≡ true) same.1 (own_name p) in
      let both : (same_qname r sbs && same_qname p pgm) ≡ true = rw (a, b) refl in
      absurd (true≢false (sym both ∙ none))

  other_evoke : (r p : QName) (x : Evoke) (u : Bool) → (same_qname r sbs && same_qname p pgm) ≡ false → is_evoke_of sbs pgm x ≡ true → is_evoke_of r p x ≡ u → u ≡ false
  other_evoke r p x false none h k = refl
  other_evoke r p x true none h k =
      let here = of_entry sbs pgm x h in
      let there = of_entry r p x k in
      absurd (differ r p none (sym there.0 ∙ here.0, sym there.1 ∙ here.1))

  from_other : (j : Job) (b : Bool) → is_from_pre sbs pgm j.how ≡ b → (b ≡ true → ⊥) → is_used_in sbs pgm (with_evoke j) ≡ is_used_in sbs pgm j
  from_other j true e h = absurd (h refl)
  from_other j false e h = ap (λ (b : Bool). b && is_running j.phase && true) e ∙ sym (ap (λ (b : Bool). b && is_running j.phase && j.evoke) e)

  other_used : (r p : QName) (t : State) (j i : Job) (b : Bool) → (same_qname r sbs && same_qname p pgm) ≡ false → IsAssignable r p t j → IsDistinct (map (λ (x : Job). x.serial) t.jobs) → IsIn i t.jobs → (is_active i.phase && i.serial == j.serial) ≡ b → is_used_in sbs pgm (cond b (with_evoke i) i) ≡ is_used_in sbs pgm i
  other_used r p t j i true none can d m e =
      let serial = eqb-true i.serial j.serial (and_parts (is_active i.phase) (i.serial == j.serial) e).1 in
      let same : i ≡ j = one_by_key (λ (x : Job). x.serial) t.jobs d i j m can.there serial in
      let its = (and_parts (is_from_pre r p j.how) (is_idle j) can.idle).0 in
      from_other i (is_from_pre sbs pgm i.how) refl (λ k. differ r p none (from_one r p sbs pgm i.how (ap (λ (x : Job). is_from_pre r p x.how) same ∙ its) k))
  other_used r p t j i false none can d m e = refl

  -- a request for another entry is of no matter
  other_out : (r p : QName) (t : State) (j : Job) → (same_qname r sbs && same_qname p pgm) ≡ false → assign r p t ≡ Some j → IsOut t → Out (assigned_to r p j t)
  other_out r p t j none is h =
      let can = assignable r p t j is in
      stays_out t (assigned_to r p j t)
      (ap (λ (l : List Evoke). evokes_of sbs pgm l) (gone_is (is_evoke_of r p) t.evokes) ∙ others_stay (is_evoke_of sbs pgm) (is_evoke_of r p) t.evokes (λ x k. other_evoke r p x (is_evoke_of r p x) none k refl))
      (same_counted (is_used_in sbs pgm) (active_at j.serial with_evoke) t.jobs (λ i m. other_used r p t j i (is_active i.phase && i.serial == j.serial) none can h.serials.distinct m refl))
      h.out

  out_by : (r p : QName) (t : State) (j : Job) (b : Bool) → (same_qname r sbs && same_qname p pgm) ≡ b → assign r p t ≡ Some j → IsOut t → Out (assigned_to r p j t)
  out_by r p t j true e is h =
      let both = and_parts (same_qname r sbs) (same_qname p pgm) e in
      let a = one_name r sbs both.0 in
      let b = one_name p pgm both.1 in
      subst (λ (x : QName). Out (assigned_to x p j t)) (sym a) (subst (λ (y : QName). Out (assigned_to sbs y j t)) (sym b) (same_out t j (subst (λ (y : QName). assign sbs y t ≡ Some j) b (subst (λ (x : QName). assign x p t ≡ Some j) a is)) h))
  out_by r p t j false e is h = other_out r p t j e is h

  made_out : (r p : QName) (t : State) → Out t → Out (make_pre r p t)
  made_out r p t h =
      let new = new_pre_job t r p in
      let none : one (is_used_in sbs pgm) new ≡ 0 = ap (λ (b : Bool). cond b 1 0) (not_used sbs pgm new refl) in
      stays_out t (make_pre r p t) refl (omega (arith, count_last (is_used_in sbs pgm) t.jobs new, none)) h

  out_kept : IsKeptBySupply IsOut
  out_kept = record {
    assigns = λ r p t j is h. record { out = out_by r p t j (same_qname r sbs && same_qname p pgm) refl is h; serials = serials_kept.assigns r p t j is h.serials };
    makes = λ r p t some h. record { out = made_out r p t h.out; serials = serials_kept.makes r p t some h.serials };
  }

  waiting_runs : (p : Phase) → is_waiting p ≡ true → is_running p ≡ false
  waiting_runs Waiting w = refl
  waiting_runs Starting w = absurd (cc)
  waiting_runs (Handed m) w = absurd (cc)
  waiting_runs (Running m) w = absurd (cc)
  waiting_runs (Ended c) w = absurd (cc)

  launched_used : (t : State) (c : Candidate) (l : Launched) (i : Job) (b : Bool) → is_running l.phase ≡ false → IsNumbered t → next t ≡ Some c → IsIn i t.jobs → (i.serial == c.serial) ≡ b → is_used_in sbs pgm (cond b (as_launched l i) i) ≡ is_used_in sbs pgm i
  launched_used t c l i true none n is m e =
      let w = next_waits t c is in
      let same : i ≡ w.0 = one_by_key (λ (x : Job). x.serial) t.jobs n.serials.distinct i w.0 m w.1 (eqb-true i.serial c.serial e ∙ w.3) in
      not_used sbs pgm (as_launched l i) none ∙ sym (not_used sbs pgm i (waiting_runs i.phase (ap (λ (j : Job). is_waiting j.phase) same ∙ w.2)))
  launched_used t c l i false none n is m e = refl

  launched_out : (t : State) (c : Candidate) (o : Option Job) → IsNumbered t → next t ≡ Some c → Out t → Out (with_routed t c o)
  launched_out t c None n is h = h
  launched_out t c (Some j) n is h =
      let l = routed_from_queue t c.sbs c.jobq j in
      stays_out t (with_routed t c (Some j)) refl (same_counted (is_used_in sbs pgm) (changed_at c.serial (as_launched l)) t.jobs (λ i m. launched_used t c l i (i.serial == c.serial) (not_running t c.sbs c.jobq j) n is m refl)) h

  -- numbered, too
  record IsOutNumbered (t : State) : Type 0 where
    out : Out t
    numbered : IsNumbered t

  launches_out : IsKept next (λ c t. launch t c) IsOutNumbered
  launches_out = record {
    by_step = λ t c is h. record { out = launched_out t c (find (λ (j : Job). j.serial == c.serial) t.jobs) h.numbered is h.out; numbered = launches_keep.by_step t c is h.numbered };
  }

  started_out : (t : State) → IsNumbered t → Out t → Out (start_jobs (supply t))
  started_out t n h =
      let supplied = supply_kept IsOut out_kept t (record { out = h; serials = n.serials }) in
      (iterate-keeps IsOutNumbered launches_out (waiting (supply t)) (supply t) (record { out = supplied.out; numbered = supplied_keeps IsNumbered (calls t n).supplies t n })).out

pub settling_gives_out : SettlingGivesOut
settling_gives_out s sbs pgm n w =
    let d = come_due s in
    let due = due_keeps s n in
    let ended = stays_out sbs pgm s s d refl (same_count (is_used_in sbs pgm) (job_at s.clock (sbss_at s)) (due_same sbs pgm s.clock (sbss_at s)) s.jobs) (start_out sbs pgm s) in
    started_out sbs pgm s (leave d) (only_started d due) (stays_out sbs pgm s d (leave d) (ap (λ (l : List Evoke). evokes_of sbs pgm l) (leaves_all d (none_due s w))) refl ended)
