-- Settling leaves nothing that is due to end.
use Rattle.std.proofs.Common.{◌≡◌, ℕ, ℤ, ◌==◌, ◌&&◌, ◌||◌, not, Bool, true, false, cond, List, [], ◌∷◌, map, filter, Option, Some, None, refl, sym, ap, subst, ◌∙◌, inl, inr, ◌++◌}
use Rattle.std.specs.List.{find, list_any}
use Rattle.std.proofs.lemmas.Bool.{or_right, and_parts, eqb-true}
use Rattle.wm_base.specs.declared.job.How.TheVariants.{FromQueue, Pre}
use Rattle.wm_base.specs.declared.qname.QName.{QName}
use Rattle.wm_base.specs.Iterate.{IsKept}
use Rattle.wm_base.specs.Limit.{is_below}
use Rattle.wm_base.proofs.Iterate.{iterate-keeps}
use Rattle.wm_base.proofs.Tests.{or_more, of_four}
use Rattle.wm_law.specs.declared.call.Call.{Call}
use Rattle.wm_law.specs.declared.choice.Candidate.{Candidate}
use Rattle.wm_law.specs.declared.job.Job.{Job}
use Rattle.wm_law.specs.declared.job.JobKind.{JobKind}
use Rattle.wm_law.specs.declared.job.Phase.TheVariants.{Starting}
use Rattle.wm_law.specs.declared.job.Why.{Why}
use Rattle.wm_law.specs.declared.job.Why.TheVariants as why
use Rattle.wm_law.specs.declared.job.Wish.{Wish}
use Rattle.wm_law.specs.declared.job.Wish.TheVariants as wish
use Rattle.wm_law.specs.declared.launch.Launched.{Launched}
use Rattle.wm_law.specs.declared.state.Sbs.{Sbs}
use Rattle.wm_law.specs.declared.state.SbsPhase.{SbsPhase}
use Rattle.wm_law.specs.declared.state.SbsPhase.TheVariants.{Active, Ending, Now}
use Rattle.wm_law.specs.declared.state.State.{State}
use Rattle.wm_law.specs.Choice.{is_sbs_active, maxpty_of, next}
use Rattle.wm_law.specs.Counts.{count_from_priority, count_from_queue, count_in_sbs, is_active, is_in_sbs, is_prestart, is_starting}
use Rattle.wm_law.specs.Kept.{HasDistinctNames, IsNumbered}
use Rattle.wm_law.specs.Jobs.{changed_at, active_at}
use Rattle.wm_law.specs.Launch.{as_launched, from_queue, launch, with_routed, routed_from_queue, routed_through, route}
use Rattle.wm_law.specs.Laws.{IsIn}
use Rattle.wm_law.specs.Machine.{apply, step, with_clock}
use Rattle.wm_law.specs.Settling.{come_due, ended_by, is_gone, is_sbs_now, job_at, leave, sbs_at, sbs_moment, sbs_phase_at, sbss_at, unless_started, waiting, with_deadline, ready}
use Rattle.wm_law.specs.Sound.{HasNoneDue, HasWishes, IsUpToDate, NothingDueStays, OpeningHasNoneDue}
use Rattle.wm_law.specs.Wishes.{deadline, has_come, has_wish, is_due, is_in_any, is_now, is_to_end, is_wish_due, now_cause, told_now, wish_at, with_wish}
use Rattle.wm_law.proofs.Distinct.{distinct_left, one_by_key}
use Rattle.wm_law.proofs.Endings.{ending_starting, key_same, looking, starting_phase, telling_now, unstarted_wish, was_active, wishing_at}
use Rattle.wm_law.proofs.Firsts.{holder_started, ready_waits}
use Rattle.wm_law.proofs.Forward.{only_one}
use Rattle.wm_law.proofs.Members.{each_stays, left_in, of_mapped, of_last}
use Rattle.wm_law.proofs.Moves.{call_keeps, comes_due, readies}
use Rattle.wm_law.proofs.Nexts.{IsNext, is_next}
use Rattle.wm_law.proofs.Numbers.{apply_keeps, clock_keeps, launches_keep, ready_keeps}
use Rattle.wm_law.proofs.Opened.{opened, opening_is}
use Rattle.wm_law.proofs.Placed.{active_through}
use Rattle.wm_law.proofs.Routed.{launched_routed, started_through}
use Rattle.wm_law.proofs.Started.{calls, launched as names_launched}
use Rattle.wm_law.proofs.Wished.{launched_wished, wished_calls, wished_parts}
use Rattle.wm_desc.proofs.Tables.{one_name}
use Rattle.wm_base.specs.declared.job.EndCause.{EndCause}
use Rattle.wm_desc.specs.declared.description.Sbsd.{Sbsd}
use Rattle.wm_desc.specs.declared.entry.PreEntry.{PreEntry}
use Rattle.wm_law.specs.Prestart.{new_pre_job, with_evoke}
use Rattle.wm_law.proofs.Supplies.{IsSupplied, IsSuppliable, supplied_keeps}
use Rattle.wm_law.proofs.UsesUp.{used_up}

-- whether a subsystem ends now
abbrev now : Sbs → Bool
now b = is_sbs_now b.phase

-- of a job that is active in such a subsystem, one that isn't told to end now is so already
told_by : (a n i : Bool) → (a && not n && i) ≡ false → a ≡ true → i ≡ true → n ≡ true
told_by true true i e f g = refl
told_by true false true e f g = absurd (cc)
told_by true false false e f g = absurd (cc)
told_by false n i e f g = absurd (cc)

told_at : (started : List Sbs) (j : Job) (b : Bool) → is_to_end now started j ≡ b → is_active j.phase ≡ true → is_in_any now started j.how ≡ true → is_now (cond b (with_wish (wish.Now why.Endsbs false) j) j).wish ≡ true
told_at started j true e a i = refl
told_at started j false e a i = told_by (is_active j.phase) (is_now j.wish) (is_in_any now started j.how) e a i

now_stays : (clock : ℕ) (j : Job) (w : Wish) → is_now w ≡ true → is_now (wish_at clock j w) ≡ true
now_stays clock j wish.NoWish h = absurd (cc)
now_stays clock j (wish.Later until why) h = absurd (cc)
now_stays clock j (wish.Now why handed) h = refl

now_looked : (clock : ℕ) (j : Job) (b : Bool) → is_now j.wish ≡ true → is_now (cond b (with_wish (deadline clock j) j) j).wish ≡ true
now_looked clock j true h = now_stays clock j j.wish h
now_looked clock j false h = h

later_looked : (clock : ℕ) (j : Job) (b : Bool) (until : Option ℕ) (w : Why) → is_due clock j until ≡ b → is_wish_due clock j (cond b (wish.Now w false) (wish.Later until w)) ≡ false
later_looked clock j true until w e = refl
later_looked clock j false until w e = e

-- a wish that was looked at isn't due
looked_at : (clock : ℕ) (j : Job) (w : Wish) → is_wish_due clock j (wish_at clock j w) ≡ false
looked_at clock j wish.NoWish = refl
looked_at clock j (wish.Later until why) = later_looked clock j (is_due clock j until) until why refl
looked_at clock j (wish.Now why handed) = refl

-- what is due is by the job's kind and evoke
pub due_same : (clock : ℕ) (j k : Job) (w : Wish) → k.kind ≡ j.kind → k.evoke ≡ j.evoke → is_wish_due clock k w ≡ is_wish_due clock j w
due_same clock j k wish.NoWish e f = refl
due_same clock j k (wish.Later until why) e f =
    ap (λ (x : JobKind). has_come clock until || (is_prestart x && not k.evoke)) e
    ∙ ap (λ (x : Bool). has_come clock until || (is_prestart j.kind && not x)) f
due_same clock j k (wish.Now why handed) e f = refl

looked_by : (clock : ℕ) (j : Job) (b : Bool) → b ≡ true → is_wish_due clock j (cond b (with_wish (deadline clock j) j) j).wish ≡ false
looked_by clock j true e = looked_at clock j j.wish
looked_by clock j false e = absurd (cc)

unstarted_by : (j : Job) (w : Wish) → is_starting (ended_by (now_cause w) j).phase ≡ true → is_now w ≡ false
unstarted_by j wish.NoWish e = refl
unstarted_by j (wish.Later until why) e = refl
unstarted_by j (wish.Now why handed) e = absurd (cc)

unstarted_at : (j : Job) (b : Bool) → is_starting j.phase ≡ b → (cond b (ended_by (now_cause j.wish) j) j).phase ≡ Starting → is_now j.wish ≡ false
unstarted_at j true e p = unstarted_by j j.wish (ap is_starting p)
unstarted_at j false e p =
    let yes : is_starting j.phase ≡ true = ap is_starting p in
    absurd (cc)

-- neither takes a request from a job
unstarted_evoke : (b : Bool) (o : Option EndCause) (j : Job) → (cond b (ended_by o j) j).evoke ≡ j.evoke
unstarted_evoke true None j = refl
unstarted_evoke true (Some c) j = refl
unstarted_evoke false o j = refl

wished_evoke : (b : Bool) (w : Wish) (j : Job) → (cond b (with_wish w j) j).evoke ≡ j.evoke
wished_evoke true w j = refl
wished_evoke false w j = refl

-- a job that is active after settling's first part is up to date
module _ (clock : ℕ) (started : List Sbs) (j : Job) (a : is_active (job_at clock started j).phase ≡ true) where
  abbrev first : Job
  first = told_now now started j

  abbrev second : Job
  second = with_deadline clock first

  abbrev third : Job
  third = unless_started second

  third_wish : third.wish ≡ second.wish
  third_wish = unstarted_wish (is_starting second.phase) (now_cause second.wish) second

  second_active : is_active second.phase ≡ true
  second_active = was_active second.phase third.phase (ending_starting.phase second) a

  first_active : is_active first.phase ≡ true
  first_active = was_active first.phase second.phase ((looking clock).phase first) second_active

  active : is_active j.phase ≡ true
  active = was_active j.phase first.phase ((telling_now now started).phase j) first_active

  how : third.how ≡ j.how
  how =
      key_same unless_started ending_starting (λ (x : Job). x.how) (λ x p w u e. refl) second
      ∙ key_same (with_deadline clock) (looking clock) (λ (x : Job). x.how) (λ x p w u e. refl) first
      ∙ key_same (told_now now started) (telling_now now started) (λ (x : Job). x.how) (λ x p w u e. refl) j

  kind : third.kind ≡ first.kind
  kind =
      key_same unless_started ending_starting (λ (x : Job). x.kind) (λ x p w u e. refl) second
      ∙ key_same (with_deadline clock) (looking clock) (λ (x : Job). x.kind) (λ x p w u e. refl) first

  evoke : third.evoke ≡ first.evoke
  evoke =
      unstarted_evoke (is_starting second.phase) (now_cause second.wish) second
      ∙ wished_evoke (is_active first.phase) (deadline clock first) first

  up_to_date : IsUpToDate clock started third
  up_to_date = record {
    looked = ap (is_wish_due clock third) third_wish ∙ due_same clock first third second.wish kind evoke ∙ looked_by clock first (is_active first.phase) first_active;
    starting = λ p. ap is_now third_wish ∙ unstarted_at second (is_starting second.phase) refl p;
    told = λ t. ap is_now third_wish ∙ now_looked clock first (is_active first.phase) (told_at started j (is_to_end now started j) refl active (ap (is_in_any now started) (sym how) ∙ t));
  }

come_by : (clock : ℕ) (until : Option ℕ) (b : Bool) → has_come clock until ≡ b → has_come clock (sbs_moment (cond b Now (Ending until))) ≡ false
come_by clock until true e = refl
come_by clock until false e = e

phase_looked : (clock : ℕ) (p : SbsPhase) → has_come clock (sbs_moment (sbs_phase_at clock p)) ≡ false
phase_looked clock Active = refl
phase_looked clock (Ending until) = come_by clock until (has_come clock until) refl
phase_looked clock Now = refl

-- settling's first part leaves nothing that is due
come_due_none : (s : State) → HasNoneDue (come_due s)
come_due_none s = record {
  subsystems = λ b i. (let m = of_mapped (sbs_at s.clock) s.started b i in ap (λ (x : Sbs). has_come s.clock (sbs_moment x.phase)) m.2 ∙ phase_looked s.clock m.0.phase);
  jobs = λ k i a. (
      let m = of_mapped (job_at s.clock (sbss_at s)) s.jobs k i in
      subst (IsUpToDate s.clock (sbss_at s)) (sym m.2) (up_to_date s.clock (sbss_at s) m.0 (ap (λ (x : Job). is_active x.phase) (sym m.2) ∙ a)));
}

any_by : {X : Type 0} (p : X → Bool) (x : X) (ys xs : List X) (t : Bool) → (list_any p ys ≡ true → list_any p xs ≡ true) → list_any p (cond t (x ∷ ys) ys) ≡ true → (p x || list_any p xs) ≡ true
any_by p x ys xs true f h = or_more (p x) (list_any p ys) (list_any p xs) f h
any_by p x ys xs false f h = or_right (p x) (list_any p xs) (f h)

any_left : {X : Type 0} (p q : X → Bool) (xs : List X) → list_any p (filter q xs) ≡ true → list_any p xs ≡ true
any_left p q [] h = h
any_left p q (x ∷ xs) h = any_by p x (filter q xs) xs (q x) (any_left p q xs) h

left_none : (s : State) → HasNoneDue s → HasNoneDue (leave s)
left_none s h = record {
  subsystems = λ b i. h.subsystems b (left_in (λ (x : Sbs). not (is_gone s.jobs x)) s.started b i);
  jobs = λ j i a. (
      let u = h.jobs j i a in
      record {
        looked = u.looked;
        starting = u.starting;
        told = λ t. u.told (any_left (λ (b : Sbs). now b && is_in_sbs b.sbsd j.how) (λ (b : Sbs). not (is_gone s.jobs b)) s.started t);
      });
}

of_any_by : {X : Type 0} (p : X → Bool) (x : X) (xs : List X) (t : Bool) → p x ≡ t → (list_any p xs ≡ true → (y : X) × IsIn y xs × (p y ≡ true)) → (t || list_any p xs) ≡ true → (y : X) × IsIn y (x ∷ xs) × (p y ≡ true)
of_any_by p x xs true e rest h = (x, inl refl, e)
of_any_by p x xs false e rest h = let m = rest h in (m.0, inr m.1, m.2)

pub of_any : {X : Type 0} (p : X → Bool) (xs : List X) → list_any p xs ≡ true → (y : X) × IsIn y xs × (p y ≡ true)
of_any p [] h = absurd (cc)
of_any p (x ∷ xs) h = of_any_by p x xs (p x) refl (of_any p xs) h

pub not_both : (p : SbsPhase) → is_sbs_active p ≡ true → is_sbs_now p ≡ true → ⊥
not_both Active a n = absurd (cc)
not_both (Ending until) a n = absurd (cc)
not_both Now a n = absurd (cc)

-- no job is launched in a subsystem that ends now
none_in_now : (s : State) (c : Candidate) (f : Job) → IsNext s c f → HasDistinctNames s → is_active (routed_from_queue s c.sbs c.jobq f).phase ≡ true → is_in_any now s.started (routed_from_queue s c.sbs c.jobq f).how ≡ true → ⊥
none_in_now s c f x names a h =
    let t = x.turn in
    let m = x.first.may in
    let o = route t.sbsd f.rtgdta in
    let same = launched_routed s c f x in
    let how = from_queue t.sbs.sbsd t.queue f in
    let active : is_active (routed_through s t.sbs.sbsd how f o).phase ≡ true = ap (λ (l : Launched). is_active l.phase) (sym same) ∙ a in
    let r = started_through s t.sbs.sbsd how t.sbsd f o refl (active_through s t.sbs.sbsd how f o active) in
    let is_how : (routed_from_queue s c.sbs c.jobq f).how ≡ FromQueue t.sbs.sbsd t.queue f.pty r.0.seq = ap (λ (l : Launched). l.how) same ∙ r.2 in
    let b = of_any (λ (b : Sbs). now b && is_in_sbs b.sbsd (routed_from_queue s c.sbs c.jobq f).how) s.started h in
    let both = and_parts (now b.0) (is_in_sbs b.0.sbsd (routed_from_queue s c.sbs c.jobq f).how) b.2 in
    let named : t.sbs.sbsd ≡ b.0.sbsd = one_name t.sbs.sbsd b.0.sbsd (sym (ap (is_in_sbs b.0.sbsd) is_how) ∙ both.1) in
    let one : t.sbs ≡ b.0 = one_by_key (λ (y : Sbs). y.sbsd.name) s.started names t.sbs b.0 (holder_started s f t m) b.1 (ap (λ (q : QName). q.name) named) in
    let allowed = (of_four (is_sbs_active t.sbs.phase) (is_below (count_in_sbs t.sbs.sbsd s.jobs) t.sbsd.maxjobs) (is_below (count_from_queue t.sbs.sbsd t.entry.jobq s.jobs) t.entry.maxact) (is_below (count_from_priority t.sbs.sbsd t.entry.jobq f.pty s.jobs) (maxpty_of t.entry f.pty)) m.allowed).0 in
    not_both t.sbs.phase allowed (ap now one ∙ both.0)

unwished_due : (clock : ℕ) (j : Job) (w : Wish) → has_wish w ≡ false → is_wish_due clock j w ≡ false
unwished_due clock j wish.NoWish h = refl
unwished_due clock j (wish.Later until why) h = absurd (cc)
unwished_due clock j (wish.Now why handed) h = refl

unwished_now : (w : Wish) → has_wish w ≡ false → is_now w ≡ false
unwished_now wish.NoWish h = refl
unwished_now (wish.Later until why) h = refl
unwished_now (wish.Now why handed) h = absurd (cc)

-- what each launch keeps: no name twice, no wish of a waiting job, and nothing that is due
record IsDoneDue (s : State) : Type 0 where
  numbered : IsNumbered s
  wishes : HasWishes s
  names : HasDistinctNames s
  none_due : HasNoneDue s

module _ (s : State) (c : Candidate) (f : Job) (x : IsNext s c f) (h : IsDoneDue s) where
  abbrev l : Launched
  l = routed_from_queue s c.sbs c.jobq f

  unwished : has_wish f.wish ≡ false
  unwished = (h.wishes f x.first.job).waits (ready_waits s f x.first.may.ready)

  launched_now : is_active l.phase ≡ true → IsUpToDate s.clock s.started (as_launched l f)
  launched_now a = record {
    looked = unwished_due s.clock (as_launched l f) f.wish unwished;
    starting = λ p. unwished_now f.wish unwished;
    told = λ t. absurd (none_in_now s c f x h.names a t);
  }

  starts_unless : (i : Job) (b : Bool) (k : Job) → (i.serial == c.serial) ≡ b → IsIn i s.jobs → k ≡ cond b (as_launched l i) i → is_active k.phase ≡ true → IsUpToDate s.clock s.started k
  starts_unless i true k e m same a =
      let its : i ≡ f = only_one s.jobs h.numbered.serials.distinct i f m x.first.job (eqb-true i.serial c.serial e ∙ x.serial) in
      subst (IsUpToDate s.clock s.started) (ap (as_launched l) (sym its) ∙ sym same) (launched_now (ap (λ (y : Job). is_active y.phase) (sym same) ∙ a))
  starts_unless i false k e m same a =
      subst (IsUpToDate s.clock s.started) (sym same) (h.none_due.jobs i m (ap (λ (y : Job). is_active y.phase) (sym same) ∙ a))

  launched_jobs : (k : Job) → IsIn k (map (changed_at c.serial (as_launched l)) s.jobs) → is_active k.phase ≡ true → IsUpToDate s.clock s.started k
  launched_jobs k i a =
      let o = of_mapped (changed_at c.serial (as_launched l)) s.jobs k i in
      starts_unless o.0 (o.0.serial == c.serial) k refl o.1 o.2 a

launched_none : (s : State) (c : Candidate) (o : Option Job) → find (λ j. j.serial == c.serial) s.jobs ≡ o → next s ≡ Some c → IsDoneDue s → HasNoneDue (with_routed s c o)
launched_none s c None f e h = h.none_due
launched_none s c (Some j) f e h = record {
  subsystems = h.none_due.subsystems;
  jobs = launched_jobs s c j (is_next s c j e h.numbered f) h;
}

launches_leave_none : IsKept next (λ c t. launch t c) IsDoneDue
launches_leave_none = record {
  by_step = λ s c e h. record {
    numbered = launches_keep.by_step s c e h.numbered;
    wishes = launched_wished s c (find (λ (j : Job). j.serial == c.serial) s.jobs) h.wishes;
    names = names_launched s c (find (λ (j : Job). j.serial == c.serial) s.jobs) h.names;
    none_due = launched_none s c (find (λ (j : Job). j.serial == c.serial) s.jobs) refl e h;
  };
}

-- each active job of a list is up to date
abbrev pub AllUpToDate : ℕ → List Sbs → List Job → Type 0
AllUpToDate clock bs jobs = (j : Job) → IsIn j jobs → is_active j.phase ≡ true → IsUpToDate clock bs j

-- one more job, which is up to date if it is active
pub last_up : (clock : ℕ) (bs : List Sbs) (jobs : List Job) (j : Job) → (is_active j.phase ≡ true → IsUpToDate clock bs j) → AllUpToDate clock bs jobs → AllUpToDate clock bs (jobs ++ j ∷ [])
last_up clock bs jobs j new h k i a =
    elim (of_last jobs j k i) as (λ _. IsUpToDate clock bs k) [
      | inl m ↦ h k m a
      | inr same ↦ subst (IsUpToDate clock bs) (sym same) (new (ap (λ (y : Job). is_active y.phase) (sym same) ∙ a))
    ]

-- no name stands twice, and nothing is due
pub record IsQuietly (t : State) : Type 0 where
  pub names : HasDistinctNames t
  pub none : HasNoneDue t

-- the subsystem in which a prestart job is made doesn't end now
pre_untold : (q : QName) (d : Sbsd) (e : PreEntry) (t : State) → IsSuppliable q d e t → HasDistinctNames t → is_in_any now t.started (Pre q e.pgm) ≡ true → ⊥
pre_untold q d e t can names h =
    let b = of_any (λ (b : Sbs). now b && is_in_sbs b.sbsd (Pre q e.pgm)) t.started h in
    let both = and_parts (now b.0) (is_in_sbs b.0.sbsd (Pre q e.pgm)) b.2 in
    let named : q ≡ b.0.sbsd = one_name q b.0.sbsd both.1 in
    let one : can.sbs ≡ b.0 = one_by_key (λ (y : Sbs). y.sbsd.name) t.started names can.sbs b.0 can.started b.1 (ap (λ (n : QName). n.name) (can.named ∙ named)) in
    not_both can.sbs.phase can.active (ap now one ∙ both.0)

used_active : (b : Bool) (i : Job) → is_active (cond b (with_evoke i) i).phase ≡ true → is_active i.phase ≡ true
used_active true i h = h
used_active false i h = h

-- nor do prestart jobs that are made and requests that jobs get make anything due
pub supplied_quietly : IsSupplied IsQuietly
supplied_quietly = record {
  makes = λ q d e t can h. record {
    names = h.names;
    none = record {
      subsystems = h.none.subsystems;
      jobs = last_up t.clock t.started t.jobs (new_pre_job t q e.pgm) (λ a. record { looked = refl; starting = λ p. refl; told = λ x. absurd (pre_untold q d e t can h.names x) }) h.none.jobs;
    };
  };
  assigns = λ t q pgm job evokes can h. record {
    names = h.names;
    none = record {
      subsystems = h.none.subsystems;
      jobs = λ k i a. (
          let m = of_mapped (active_at job.serial with_evoke) t.jobs k i in
          let b = is_active m.0.phase && m.0.serial == job.serial in
          subst (IsUpToDate t.clock t.started) (sym m.2) (used_up t.clock t.started b m.0 (h.none.jobs m.0 m.1 (used_active b m.0 (ap (λ (y : Job). is_active y.phase) (sym m.2) ∙ a)))));
    };
  };
}

-- a step leaves nothing that is due to end
pub leaves_none_due : (s : State) (caller : ℕ) (call : Call) (moment : ℕ) → IsNumbered s → HasWishes s → HasDistinctNames s → HasNoneDue (step s caller call moment).state
unfolding step
leaves_none_due s caller call moment n w d =
    let c = with_clock s moment in
    let t = (apply c caller call).state in
    let numbered : IsNumbered t = apply_keeps c caller call (clock_keeps s moment n) in
    let wishes : HasWishes t = call_keeps HasWishes c caller call (wished_calls c w) in
    let names : HasDistinctNames t = call_keeps HasDistinctNames c caller call (calls c d) in
    let names_due : HasDistinctNames (come_due t) = comes_due HasDistinctNames t (calls t names) in
    let quiet : IsQuietly (ready t) = supplied_keeps IsQuietly supplied_quietly (leave (come_due t)) (record {
      names = distinct_left (λ (b : Sbs). b.sbsd.name) (λ b. not (is_gone (come_due t).jobs b)) (come_due t).started names_due;
      none = left_none (come_due t) (come_due_none t);
    }) in
    (iterate-keeps IsDoneDue launches_leave_none (waiting (ready t)) (ready t) (record {
      numbered = ready_keeps t numbered;
      wishes = readies HasWishes wished_parts t wishes;
      names = quiet.names;
      none_due = quiet.none;
    })).none_due

opened_has_none_due : (offset : ℤ) → HasNoneDue (opened offset)
opened_has_none_due offset = record { subsystems = λ b i. absurd i; jobs = λ j i a. absurd i }

pub opening_has_none_due : OpeningHasNoneDue
opening_has_none_due offset = subst HasNoneDue (sym (opening_is offset)) (opened_has_none_due offset)

-- where the job isn't to be told, it is as it was
untold_by : (started : List Sbs) (j : Job) (b : Bool) → is_to_end now started j ≡ b → (is_in_any now started j.how ≡ true → is_now j.wish ≡ true) → cond b (with_wish (wish.Now why.Endsbs false) j) j ≡ j
untold_by started j true e told =
    let both = and_parts (is_active j.phase && not (is_now j.wish)) (is_in_any now started j.how) e in
    let free = (and_parts (is_active j.phase) (not (is_now j.wish)) both.0).1 in
    let yes = told both.1 in
    let no : not true ≡ true = ap not (sym yes) ∙ free in
    absurd (cc)
untold_by started j false e told = refl

stays_later : (b : Bool) (until : Option ℕ) (w : Why) → b ≡ false → cond b (wish.Now w false) (wish.Later until w) ≡ wish.Later until w
stays_later true until w e = absurd (cc)
stays_later false until w e = refl

-- a wish that isn't due is as it was
undue : (clock : ℕ) (j : Job) (w : Wish) → is_wish_due clock j w ≡ false → wish_at clock j w ≡ w
undue clock j wish.NoWish e = refl
undue clock j (wish.Later until why) e = stays_later (is_due clock j until) until why e
undue clock j (wish.Now why handed) e = refl

undue_by : (clock : ℕ) (j : Job) (b : Bool) → is_wish_due clock j j.wish ≡ false → cond b (with_wish (deadline clock j) j) j ≡ j
undue_by clock j true e = ap (λ (w : Wish). with_wish w j) (undue clock j j.wish e)
undue_by clock j false e = refl

uncaused : (j : Job) (w : Wish) → is_now w ≡ false → ended_by (now_cause w) j ≡ j
uncaused j wish.NoWish e = refl
uncaused j (wish.Later until why) e = refl
uncaused j (wish.Now why handed) e = absurd (cc)

unended_by : (j : Job) (b : Bool) → is_starting j.phase ≡ b → (j.phase ≡ Starting → is_now j.wish ≡ false) → cond b (ended_by (now_cause j.wish) j) j ≡ j
unended_by j true e h = uncaused j j.wish (h (starting_phase j.phase e))
unended_by j false e h = refl

-- an active job that is up to date stays as it is in settling's first part
up_to_date_stays : (clock : ℕ) (started : List Sbs) (j : Job) → IsUpToDate clock started j → job_at clock started j ≡ j
up_to_date_stays clock started j h =
    ap (λ (x : Job). unless_started (with_deadline clock x)) (untold_by started j (is_to_end now started j) refl h.told)
    ∙ ap unless_started (undue_by clock j (is_active j.phase) h.looked)
    ∙ unended_by j (is_starting j.phase) refl h.starting

job_stays_by : (clock : ℕ) (started : List Sbs) (j : Job) (b : Bool) → is_active j.phase ≡ b → (is_active j.phase ≡ true → IsUpToDate clock started j) → job_at clock started j ≡ j
job_stays_by clock started j true e h = up_to_date_stays clock started j (h e)
job_stays_by clock started j false e h = let w = wishing_at clock started in w.idle j e

-- so does each job, where the active ones are up to date
pub job_stays : (clock : ℕ) (started : List Sbs) (j : Job) → (is_active j.phase ≡ true → IsUpToDate clock started j) → job_at clock started j ≡ j
job_stays clock started j h = job_stays_by clock started j (is_active j.phase) refl h

ending_stays : (b : Bool) (until : Option ℕ) → b ≡ false → cond b Now (Ending until) ≡ Ending until
ending_stays true until e = absurd (cc)
ending_stays false until e = refl

phase_stays : (clock : ℕ) (p : SbsPhase) → has_come clock (sbs_moment p) ≡ false → sbs_phase_at clock p ≡ p
phase_stays clock Active e = refl
phase_stays clock (Ending until) e = ending_stays (has_come clock until) until e
phase_stays clock Now e = refl

-- and each subsystem whose moment hasn't come
pub sbs_stays : (clock : ℕ) (b : Sbs) → has_come clock (sbs_moment b.phase) ≡ false → sbs_at clock b ≡ b
sbs_stays clock b e = ap (λ (p : SbsPhase). record b { phase = p }) (phase_stays clock b.phase e)

pub nothing_due_stays : NothingDueStays
nothing_due_stays s h =
    let subsystems : sbss_at s ≡ s.started = each_stays (sbs_at s.clock) s.started (λ b i. sbs_stays s.clock b (h.subsystems b i)) in
    let jobs : map (job_at s.clock s.started) s.jobs ≡ s.jobs = each_stays (job_at s.clock s.started) s.jobs (λ j i. job_stays s.clock s.started j (h.jobs j i)) in
    ap (λ (bs : List Sbs). record s { started = bs; jobs = map (job_at s.clock bs) s.jobs }) subsystems ∙ ap (λ (js : List Job). record s { jobs = js }) jobs
