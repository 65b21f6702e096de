-- No prestart job is used more often than its entry's MAXUSE lets it.
use Rattle.std.proofs.Common.{◌≡◌, ℕ, ℤ, ◌≤◌, ◌<◌, ◌+◌, ◌-◌, ◌^◌, ◌++◌, ◌==◌, ◌&&◌, min, not, Bool, true, false, cond, List, [], ◌∷◌, map, Option, Some, None, refl, sym, ap, subst, ◌∙◌, inl, inr, arith}
use Rattle.std.specs.List.{find}
use Rattle.std.specs.Option.{option_and_then}
use Rattle.std.proofs.lemmas.Bool.{and_parts, eqb-true, ltb-true, not-true}
use Rattle.wm_base.specs.declared.job.How.{How}
use Rattle.wm_base.specs.declared.job.How.TheVariants.{NotYet, FromQueue, Auto, Pre}
use Rattle.wm_base.specs.declared.limit.Limit.{Limit}
use Rattle.wm_base.specs.declared.limit.Limit.TheVariants.{NoMax, Most}
use Rattle.wm_base.specs.declared.qname.QName.{QName}
use Rattle.wm_base.specs.Limit.{is_below}
use Rattle.wm_base.proofs.Iterate.{iterate-keeps}
use Rattle.wm_desc.specs.declared.description.Sbsd.{Sbsd}
use Rattle.wm_desc.specs.declared.entry.PreEntry.{PreEntry}
use Rattle.wm_desc.specs.declared.objects.Objects.{Objects}
use Rattle.wm_desc.specs.Table.{object_named, same_qname}
use Rattle.wm_law.specs.declared.call.Call.{Call}
use Rattle.wm_law.specs.declared.choice.Candidate.{Candidate}
use Rattle.wm_law.specs.declared.job.Job.{Job}
use Rattle.wm_law.specs.declared.job.JobKind.{JobKind}
use Rattle.wm_law.specs.declared.job.JobKind.TheVariants.{Asj, Bch, Pj}
use Rattle.wm_law.specs.declared.job.Phase.{Phase}
use Rattle.wm_law.specs.declared.job.Phase.TheVariants.{Waiting, Starting, Handed, Running, Ended}
use Rattle.wm_law.specs.declared.job.Why.TheVariants as why
use Rattle.wm_law.specs.declared.job.Wish.{Wish}
use Rattle.wm_law.specs.declared.job.Wish.TheVariants as wish
use Rattle.wm_law.specs.declared.state.Power.{Power}
use Rattle.wm_law.specs.declared.state.Sbs.{Sbs}
use Rattle.wm_law.specs.declared.state.State.{State}
use Rattle.wm_law.specs.Autos.{auto_job, routed_auto}
use Rattle.wm_law.specs.Counts.{is_active}
use Rattle.wm_law.specs.Fit.{IsCall}
use Rattle.wm_law.specs.History.{stepped}
use Rattle.wm_law.specs.Jobs.{active_at, changed_at}
use Rattle.wm_law.specs.Kept.{IsNumbered, IsWishOn}
use Rattle.wm_law.specs.Launch.{as_launched, pre_entry_for, routed_from_queue, with_routed}
use Rattle.wm_law.specs.Laws.{IsIn}
use Rattle.wm_law.specs.Limits.{IsWithin}
use Rattle.wm_law.specs.Machine.{apply, step, with_clock}
use Rattle.wm_law.specs.Maxuse.{AreUsable, IsWithinMaxuse, LegalAreCalls, MaxuseIsKept, OpeningIsWithinMaxuse, StepKeepsMaxuse, UsesAreKept}
use Rattle.wm_law.specs.Prestart.{is_by_pre, is_idle, is_running, new_pre_job, wish_after_use, with_evoke}
use Rattle.wm_law.specs.Reports.{in_phase, phased_at, with_phase}
use Rattle.wm_law.specs.Settling.{come_due, job_at, leave, ready, sbss_at, waiting}
use Rattle.wm_law.specs.Sound.{ActiveHaveCome, HasCome}
use Rattle.wm_law.specs.SoundPrestart.{OnlyRunHaveUses, is_yet_to_run}
use Rattle.wm_law.specs.Submitting.{submitted_job}
use Rattle.wm_law.specs.Uses.{maxuse_by, maxuse_of}
use Rattle.wm_law.specs.Wishes.{has_wish}
use Rattle.wm_law.proofs.Alterations.{each_altered, idle}
use Rattle.wm_law.proofs.Distinct.{one_by_key}
use Rattle.wm_law.proofs.Endings.{IsEnding, IsPhaseAfter, IsUseOn, coming_due, key_same, use_ends, was_active}
use Rattle.wm_law.proofs.Members.{found_among, of_last, of_mapped}
use Rattle.wm_law.proofs.Moves.{HoldsOfStates, IsOnward, autos_made, call_keeps}
use Rattle.wm_law.proofs.Numbers.{auto_keeps, begun_keeps, calls, clock_keeps, due_keeps, launches_keep, only_started}
use Rattle.wm_law.proofs.Objects.{IsObjectChange}
use Rattle.wm_law.proofs.Opened.{only_sbsd, opened, opening_is}
use Rattle.wm_law.proofs.Placed.{active_before, some_there}
use Rattle.wm_law.proofs.PresInOrder.{launched_as_auto, launched_by_queue}
use Rattle.wm_law.proofs.Requests.{idle_runs, running_now}
use Rattle.wm_law.proofs.Sound.{step_keeps_sound}
use Rattle.wm_law.proofs.SoundPrestart.{step_keeps_prestart_sound}
use Rattle.wm_law.proofs.Supplies.{IsSupplied, supplied_keeps}
use Rattle.wm_law.proofs.Usable.{call_keeps_usable}

-- how often a job may be used, by the objects alone
abbrev limit_of : Objects → How → Limit
limit_of o NotYet = NoMax
limit_of o (FromQueue sbs jobq pty route) = NoMax
limit_of o (Auto sbs route) = NoMax
limit_of o (Pre sbs pgm) = maxuse_of (option_and_then (pre_entry_for pgm) (object_named sbs o.sbsds))

same_limit : (s : State) (how : How) → maxuse_by s how ≡ limit_of s.objects how
same_limit s NotYet = refl
same_limit s (FromQueue sbs jobq pty route) = refl
same_limit s (Auto sbs route) = refl
same_limit s (Pre sbs pgm) = refl

-- the uses of a job keep MAXUSE
record KeepsMaxuse (o : Objects) (j : Job) : Type 0 where
  within : is_active j.phase ≡ true → IsWithin j.uses (limit_of o j.how)
  below : is_idle j ≡ true → is_below j.uses (limit_of o j.how) ≡ true

abbrev AllKeepMaxuse : Objects → List Job → Type 0
AllKeepMaxuse o jobs = (j : Job) → IsIn j jobs → KeepsMaxuse o j

no_limit : (o : Objects) (how : How) → is_by_pre how ≡ false → limit_of o how ≡ NoMax
no_limit o NotYet h = refl
no_limit o (FromQueue sbs jobq pty route) h = refl
no_limit o (Auto sbs route) h = refl
no_limit o (Pre sbs pgm) h = absurd (cc)

-- a job that came by no prestart entry
unlimited : (o : Objects) (j : Job) → is_by_pre j.how ≡ false → KeepsMaxuse o j
unlimited o j h = record {
  within = λ a. subst (IsWithin j.uses) (sym (no_limit o j.how h)) tt;
  below = λ i. subst (λ (l : Limit). is_below j.uses l ≡ true) (sym (no_limit o j.how h)) refl;
}

-- a job that isn't active
inactive : (o : Objects) (j : Job) → is_active j.phase ≡ false → KeepsMaxuse o j
inactive o j h = record {
  within = λ a. absurd (cc);
  below = λ i. (let now = (running_now j.phase (idle_runs j i)).1 in absurd (cc));
}

none_within : (l : Limit) → IsWithin 0 l
none_within NoMax = tt
none_within (Most m) = let least : 0 ≤ m = omega arith in least

new_keeps : (o : Objects) (q : QName) (t : State) (pgm : QName) → KeepsMaxuse o (new_pre_job t q pgm)
new_keeps o q t pgm = record { within = λ a. none_within (limit_of o (Pre q pgm)); below = λ i. absurd (cc) }

last_keeps : (o : Objects) (jobs : List Job) (j : Job) → KeepsMaxuse o j → AllKeepMaxuse o jobs → AllKeepMaxuse o (jobs ++ j ∷ [])
last_keeps o jobs j new h k i =
    elim (of_last jobs j k i) as (λ _. KeepsMaxuse o k) [ inl m ↦ h k m | inr same ↦ subst (KeepsMaxuse o) (sym same) new ]

-- where entries let their jobs be used, a job that hasn't been used may be
usable_by : (o : Objects) (sbs pgm : QName) (d : Option Sbsd) → AreUsable o → object_named sbs o.sbsds ≡ d → is_below 0 (maxuse_of (option_and_then (pre_entry_for pgm) d)) ≡ true
usable_by o sbs pgm None h k = refl
usable_by o sbs pgm (Some d) h k = by_entry (pre_entry_for pgm d) refl
  where
    by_entry : (e : Option PreEntry) → pre_entry_for pgm d ≡ e → is_below 0 (maxuse_of e) ≡ true
    by_entry None f = refl
    by_entry (Some e) f = h sbs d e k (found_among (λ (x : PreEntry). same_qname x.pgm pgm) d.pres e f).0

usable : (o : Objects) (how : How) → AreUsable o → is_below 0 (limit_of o how) ≡ true
usable o NotYet h = refl
usable o (FromQueue sbs jobq pty route) h = refl
usable o (Auto sbs route) h = refl
usable o (Pre sbs pgm) h = usable_by o sbs pgm (object_named sbs o.sbsds) h refl

runs : (p : Phase) → is_active p ≡ true → is_yet_to_run p ≡ false → is_running p ≡ true
runs Waiting a y = absurd (cc)
runs Starting a y = absurd (cc)
runs (Handed m) a y = absurd (cc)
runs (Running m) a y = refl
runs (Ended c) a y = absurd (cc)

-- a job that moves on, and becomes idle, hasn't been used yet, or was idle
moved_below : (o : Objects) (j : Job) (q : Phase) (b : Bool) → is_yet_to_run j.phase ≡ b → AreUsable o → (is_yet_to_run j.phase ≡ true → j.uses ≡ 0) → IsOnward j.phase q → KeepsMaxuse o j → is_idle (in_phase q j) ≡ true → is_below j.uses (limit_of o j.how) ≡ true
moved_below o j q true y can unused r h i = subst (λ (n : ℕ). is_below n (limit_of o j.how) ≡ true) (sym (unused y)) (usable o j.how can)
moved_below o j q false y can unused r h i =
    let running : is_running q ≡ true = idle_runs (in_phase q j) i in
    let active = active_before j.phase q r.past r.on (running_now q running).1 in
    let same : is_running j.phase ≡ is_running q = runs j.phase active y ∙ sym running in
    h.below (ap (λ (b : Bool). b && not j.evoke && not (has_wish j.wish)) same ∙ i)

moved_keeps : (o : Objects) (j : Job) (q : Phase) → AreUsable o → (is_yet_to_run j.phase ≡ true → j.uses ≡ 0) → IsOnward j.phase q → KeepsMaxuse o j → KeepsMaxuse o (in_phase q j)
moved_keeps o j q can unused r h = record {
  within = λ a. h.within (active_before j.phase q r.past r.on a);
  below = λ i. moved_below o j q (is_yet_to_run j.phase) refl can unused r h i;
}

moved_at : (s : State) (serial : ℕ) (phase : Phase) (j i : Job) (b : Bool) (k : Job) → IsNumbered s → AreUsable s.objects → OnlyRunHaveUses s → AllKeepMaxuse s.objects s.jobs → IsIn j s.jobs → j.serial ≡ serial → IsOnward j.phase phase → (i.serial == serial) ≡ b → IsIn i s.jobs → k ≡ cond b (in_phase phase i) i → KeepsMaxuse s.objects k
moved_at s serial phase j i true k n can unused h m e r f o same =
    let its : i ≡ j = one_by_key (λ (x : Job). x.serial) s.jobs n.serials.distinct i j o m (eqb-true i.serial serial f ∙ sym e) in
    subst (KeepsMaxuse s.objects) (ap (in_phase phase) (sym its) ∙ sym same) (moved_keeps s.objects j phase can (unused j m) r (h j m))
moved_at s serial phase j i false k n can unused h m e r f o same = subst (KeepsMaxuse s.objects) (sym same) (h i o)

moved_all : (s : State) (serial : ℕ) (j : Job) (phase : Phase) → IsNumbered s → AreUsable s.objects → OnlyRunHaveUses s → AllKeepMaxuse s.objects s.jobs → IsIn j s.jobs → j.serial ≡ serial → IsOnward j.phase phase → AllKeepMaxuse s.objects (with_phase s serial phase).jobs
moved_all s serial j phase n can unused h m e r k i =
    let o = of_mapped (phased_at serial phase) s.jobs k i in
    moved_at s serial phase j o.0 (o.0.serial == serial) k n can unused h m e r refl o.1 o.2

launched_at : (s : State) (c : Candidate) (f i : Job) (b : Bool) (k : Job) → KeepsMaxuse s.objects i → k ≡ cond b (as_launched (routed_from_queue s c.sbs c.jobq f) i) i → KeepsMaxuse s.objects k
launched_at s c f i true k h same = subst (KeepsMaxuse s.objects) (sym same) (unlimited s.objects (as_launched (routed_from_queue s c.sbs c.jobq f) i) (launched_by_queue s c.sbs c.jobq f))
launched_at s c f i false k h same = subst (KeepsMaxuse s.objects) (sym same) h

-- a use more, where the uses are below the limit, is within it
used_within : (n : ℕ) (l : Limit) → is_below n l ≡ true → IsWithin (min (n + 1) (2 ^ 32 - 1)) l
used_within n NoMax h = tt
used_within n (Most m) h =
    let less : n < m = ltb-true n m h in
    let within : min (n + 1) (2 ^ 32 - 1) ≤ m = omega arith in
    within

-- a job that has no wish after a use has uses below the limit
no_wish_by : (b : Bool) → has_wish (cond b wish.NoWish (wish.Now why.Maxuse false)) ≡ false → b ≡ true
no_wish_by true h = refl
no_wish_by false h = absurd (cc)

done_below : (l : Limit) (n : ℕ) (w : Wish) → has_wish (wish_after_use l n w) ≡ false → is_below n l ≡ true
done_below l n wish.NoWish h = no_wish_by (is_below n l) h
done_below l n (wish.Later until why) h = absurd (cc)
done_below l n (wish.Now why handed) h = absurd (cc)

-- a job without a wish had none
no_wish_before : (w v : Wish) → IsWishOn w v → has_wish v ≡ false → has_wish w ≡ false
no_wish_before wish.NoWish v on h = refl
no_wish_before (wish.Later until why) wish.NoWish on h = let rank = on.rank in absurd (omega arith)
no_wish_before (wish.Later until why) (wish.Later other y) on h = absurd (cc)
no_wish_before (wish.Later until why) (wish.Now y handed) on h = absurd (cc)
no_wish_before (wish.Now why handed) (wish.Later other y) on h = absurd (cc)
no_wish_before (wish.Now why handed) (wish.Now y other) on h = absurd (cc)
no_wish_before (wish.Now why true) wish.NoWish on h = let rank = on.rank in absurd (omega arith)
no_wish_before (wish.Now why false) wish.NoWish on h = let rank = on.rank in absurd (omega arith)

running_still : (p q : Phase) → IsPhaseAfter p q → is_running q ≡ true → q ≡ p
running_still p q (inl e) r = e
running_still p q (inr e) r = let no : is_running q ≡ false = ap is_running e.1.1 in absurd (cc)

-- what a job without a wish, that runs and has no request, is
idle_of : (j : Job) → is_idle j ≡ true → (is_running j.phase ≡ true) × (j.evoke ≡ false) × (has_wish j.wish ≡ false)
idle_of j h =
    let both = and_parts (is_running j.phase && not j.evoke) (not (has_wish j.wish)) h in
    let first = and_parts (is_running j.phase) (not j.evoke) both.0 in
    (first.0, not-true j.evoke first.1, not-true (has_wish j.wish) both.1)

is_so : (r e w : Bool) → r ≡ true → e ≡ false → w ≡ false → (r && not e && not w) ≡ true
is_so true false false a b c = refl
is_so true true w a b c = absurd (cc)
is_so true false true a b c = absurd (cc)
is_so false e w a b c = absurd (cc)

module _ (s : State) (change : Job → Job) (started : List Sbs) (power : Power) (e : IsEnding s change started power) (n : IsNumbered s) (j : Job) (m : IsIn j s.jobs) (h : KeepsMaxuse s.objects j) where
  abbrev k : Job
  k = change j

  how_same : k.how ≡ j.how
  how_same = key_same change e.jobs (λ (x : Job). x.how) (λ x q v u r. refl) j

  limit_same : limit_of s.objects k.how ≡ limit_of s.objects j.how
  limit_same = ap (limit_of s.objects) how_same

  was : is_active k.phase ≡ true → is_active j.phase ≡ true
  was a = was_active j.phase k.phase (e.jobs.phase j) a

  -- with as many uses a job keeps MAXUSE
  same_within : k.uses ≡ j.uses → is_active k.phase ≡ true → IsWithin k.uses (limit_of s.objects k.how)
  same_within u a = subst (λ (x : ℕ). IsWithin x (limit_of s.objects k.how)) (sym u) (subst (IsWithin j.uses) (sym limit_same) (h.within (was a)))

  as_below : k.uses ≡ j.uses → is_below j.uses (limit_of s.objects j.how) ≡ true → is_below k.uses (limit_of s.objects k.how) ≡ true
  as_below u b = subst (λ (x : ℕ). is_below x (limit_of s.objects k.how) ≡ true) (sym u) (subst (λ (l : Limit). is_below j.uses l ≡ true) (sym limit_same) b)

  ended_by : IsUseOn s j k → KeepsMaxuse s.objects k
  ended_by (inl same) = record {
    within = λ a. same_within same.uses a;
    below = λ i. (
        let parts = idle_of k i in
        let phase = running_still j.phase k.phase (e.jobs.phase j) parts.0 in
        as_below same.uses (h.below (is_so (is_running j.phase) j.evoke (has_wish j.wish) (ap is_running (sym phase) ∙ parts.0) (sym same.evoke ∙ parts.1) (no_wish_before j.wish k.wish (e.onward n j m) parts.2))));
  }
  ended_by (inr (inl gets)) = record {
    within = λ a. (
        let uses : k.uses ≡ min (j.uses + 1) (2 ^ 32 - 1) = ap (λ (x : Job). x.uses) gets.with_request in
        subst (λ (x : ℕ). IsWithin x (limit_of s.objects k.how)) (sym uses) (subst (IsWithin (min (j.uses + 1) (2 ^ 32 - 1))) (sym limit_same) (used_within j.uses (limit_of s.objects j.how) (h.below gets.idle))));
    below = λ i. (
        let parts = idle_of k i in
        let evoke : k.evoke ≡ true = ap (λ (x : Job). x.evoke) gets.with_request in
        let none = parts.1 in
        absurd (cc));
  }
  ended_by (inr (inr done)) =
      let uses : k.uses ≡ j.uses = ap (λ (x : Job). x.uses) done.after in
      record {
        within = λ a. same_within uses a;
        below = λ i. (
            let parts = idle_of k i in
            let none : has_wish (wish_after_use (maxuse_by s j.how) j.uses j.wish) ≡ false = ap (λ (x : Job). has_wish x.wish) (sym done.after) ∙ parts.2 in
            as_below uses (subst (λ (l : Limit). is_below j.uses l ≡ true) (same_limit s j.how) (done_below (maxuse_by s j.how) j.uses j.wish none)));
      }

ended_all : (s : State) (change : Job → Job) (started : List Sbs) (power : Power) → IsEnding s change started power → IsNumbered s → AllKeepMaxuse s.objects s.jobs → AllKeepMaxuse s.objects (map change s.jobs)
ended_all s change started power e n h k i =
    let m = of_mapped change s.jobs k i in
    subst (KeepsMaxuse s.objects) (sym m.2) (ended_by s change started power e n m.0 m.1 (h m.0 m.1) (e.used n m.0 m.1))

-- where descriptions of started subsystems stay, so do the limits of the jobs that came by them
limit_still : (s : State) (o : Objects) (kind : JobKind) (jobq : Option QName) (pty : ℕ) (how : How) → IsObjectChange s o → HasCome s.started s.objects kind jobq pty how → limit_of o how ≡ limit_of s.objects how
limit_still s o Bch jobq pty how c h = ap (limit_of o) h.is_how ∙ sym (ap (limit_of s.objects) h.is_how)
limit_still s o Asj jobq pty how c h = ap (limit_of o) h.is_how ∙ sym (ap (limit_of s.objects) h.is_how)
limit_still s o Pj jobq pty how c h =
    ap (limit_of o) h.is_how
    ∙ ap (λ (d : Option Sbsd). maxuse_of (option_and_then (pre_entry_for h.entry.pgm) d)) (c.described h.sbs h.started (some_there (object_named h.sbs.sbsd s.objects.sbsds) h.sbsd h.described))
    ∙ sym (ap (limit_of s.objects) h.is_how)

remade_keeps : (s : State) (o : Objects) (j : Job) → IsObjectChange s o → (is_active j.phase ≡ true → HasCome s.started s.objects j.kind j.jobq j.pty j.how) → KeepsMaxuse s.objects j → KeepsMaxuse o j
remade_keeps s o j c come h = record {
  within = λ a. subst (IsWithin j.uses) (sym (limit_still s o j.kind j.jobq j.pty j.how c (come a))) (h.within a);
  below = λ i. (
      let a = (running_now j.phase (idle_runs j i)).1 in
      subst (λ (l : Limit). is_below j.uses l ≡ true) (sym (limit_still s o j.kind j.jobq j.pty j.how c (come a))) (h.below i));
}

-- numbered, and all jobs keep MAXUSE
record IsKeeping (s : State) : Type 0 where
  numbered : IsNumbered s
  jobs : AllKeepMaxuse s.objects s.jobs

supplies_keep : IsSupplied IsKeeping
supplies_keep = record {
  makes = λ q d e t can k. record { numbered = (calls t k.numbered).supplies.makes q d e t can k.numbered; jobs = last_keeps t.objects t.jobs (new_pre_job t q e.pgm) (new_keeps t.objects q t e.pgm) k.jobs };
  assigns = λ t q pgm job evokes can k. record { numbered = (calls t k.numbered).supplies.assigns t q pgm job evokes can k.numbered; jobs = ended_all t (active_at job.serial with_evoke) t.started t.power (use_ends t q pgm job can.there can.idle) k.numbered k.jobs };
}

calls_keep : (s : State) → ActiveHaveCome s → OnlyRunHaveUses s → AreUsable s.objects → IsKeeping s → HoldsOfStates IsKeeping s
calls_keep s places unused can l =
    let n = calls s l.numbered in
    let h = l.jobs in
    record {
      stays = l;
      starts = λ q e. autos_made IsKeeping s q e
          (λ t x d m k. record { numbered = auto_keeps q t x d m k.numbered; jobs = last_keeps t.objects t.jobs (routed_auto t q (auto_job t x d)) (unlimited t.objects (routed_auto t q (auto_job t x d)) (launched_as_auto t q (auto_job t x d))) k.jobs })
          (record { numbered = begun_keeps s q l.numbered; jobs = h });
      supplies = supplies_keep;
      enters = λ user c d due has. record { numbered = n.enters user c d due has; jobs = last_keeps s.objects s.jobs (submitted_job s user c d due) (unlimited s.objects (submitted_job s user c d due) refl) h };
      alters = λ change place a. record { numbered = n.alters change place a; jobs = each_altered (KeepsMaxuse s.objects) s change place a h (λ j k i b. inactive s.objects k (idle s j k b)) };
      holds = λ held a. record { numbered = n.holds held a; jobs = h };
      lists = λ stopped evokes. record { numbered = n.lists stopped evokes; jobs = h };
      moves = λ serial j phase stopped i e r k. record { numbered = n.moves serial j phase stopped i e r k; jobs = moved_all s serial j phase l.numbered can unused h i e r.onward };
      ends = λ change started stopped evokes power e. record { numbered = n.ends change started stopped evokes power e; jobs = ended_all s change started power e l.numbered h };
      makes = λ o c. record { numbered = n.makes o c; jobs = λ j i. remade_keeps s o j c (places j i) (h j i) };
    }

launched_keeps : (s : State) (c : Candidate) (o : Option Job) → AllKeepMaxuse s.objects s.jobs → AllKeepMaxuse (with_routed s c o).objects (with_routed s c o).jobs
launched_keeps s c None h = h
launched_keeps s c (Some j) h = λ k m. (
    let o = of_mapped (changed_at c.serial (as_launched (routed_from_queue s c.sbs c.jobq j))) s.jobs k m in
    launched_at s c j o.0 (o.0.serial == c.serial) k (h o.0 o.1) o.2)

-- numbered, all jobs keep MAXUSE, and the entries let their jobs be used
record IsKeepingAll (s : State) : Type 0 where
  keeping : IsKeeping s
  usable : AreUsable s.objects

launched_all : (s : State) (c : Candidate) (o : Option Job) → IsNumbered (with_routed s c o) → IsKeepingAll s → IsKeepingAll (with_routed s c o)
launched_all s c None n k = k
launched_all s c (Some j) n k = record { keeping = record { numbered = n; jobs = launched_keeps s c (Some j) k.keeping.jobs }; usable = k.usable }

supplies_all : IsSupplied IsKeepingAll
supplies_all = record {
  makes = λ q d e t can k. record { keeping = supplies_keep.makes q d e t can k.keeping; usable = k.usable };
  assigns = λ t q pgm job evokes can k. record { keeping = supplies_keep.assigns t q pgm job evokes can k.keeping; usable = k.usable };
}

step_keeps_all : (s : State) (caller : ℕ) (call : Call) (moment : ℕ) → ActiveHaveCome s → OnlyRunHaveUses s → IsCall call → IsKeepingAll s → IsKeepingAll (step s caller call moment).state
unfolding step
step_keeps_all s caller call moment places unused fit l =
    let c = with_clock s moment in
    let t = (apply c caller call).state in
    let clocked : IsKeeping c = record { numbered = clock_keeps s moment l.keeping.numbered; jobs = l.keeping.jobs } in
    let called : IsKeeping t = call_keeps IsKeeping c caller call (calls_keep c places unused l.usable clocked) in
    let usable : AreUsable t.objects = call_keeps_usable c caller call fit l.usable in
    let due : IsKeeping (come_due t) = record { numbered = due_keeps t called.numbered; jobs = ended_all t (job_at t.clock (sbss_at t)) (sbss_at t) t.power (coming_due t) called.numbered called.jobs } in
    let left : IsKeepingAll (leave (come_due t)) = record { keeping = record { numbered = only_started (come_due t) due.numbered; jobs = due.jobs }; usable = usable } in
    let supplied : IsKeepingAll (ready t) = supplied_keeps IsKeepingAll supplies_all (leave (come_due t)) left in
    iterate-keeps IsKeepingAll
    (record { by_step = λ u x e k. launched_all u x (find (λ (j : Job). j.serial == x.serial) u.jobs) (launches_keep.by_step u x e k.keeping.numbered) k })
    (waiting (ready t)) (ready t) supplied

all_keep : (s : State) → IsNumbered s → IsWithinMaxuse s → IsKeepingAll s
all_keep s n h = record {
  keeping = record {
    numbered = n;
    jobs = λ j i. record {
      within = λ a. subst (IsWithin j.uses) (same_limit s j.how) (h.active j i a);
      below = λ k. subst (λ (l : Limit). is_below j.uses l ≡ true) (same_limit s j.how) (h.idle j i k);
    };
  };
  usable = h.usable;
}

kept_within : (s : State) → IsKeepingAll s → IsWithinMaxuse s
kept_within s k = record {
  usable = k.usable;
  active = λ j i a. subst (IsWithin j.uses) (sym (same_limit s j.how)) ((k.keeping.jobs j i).within a);
  idle = λ j i e. subst (λ (l : Limit). is_below j.uses l ≡ true) (sym (same_limit s j.how)) ((k.keeping.jobs j i).below e);
}

pub step_keeps_maxuse : StepKeepsMaxuse
step_keeps_maxuse s caller call moment sound pres fit h =
    kept_within (step s caller call moment).state (step_keeps_all s caller call moment sound.places pres.uses fit (all_keep s sound.numbered h))

pub maxuse_is_kept : MaxuseIsKept
maxuse_is_kept s [] sound pres fit h = h
maxuse_is_kept s (e ∷ es) sound pres fit h =
    maxuse_is_kept (stepped s e).state es (step_keeps_sound s e.caller e.call e.moment sound) (step_keeps_prestart_sound s e.caller e.call e.moment sound pres) fit.1
    (step_keeps_maxuse s e.caller e.call e.moment sound pres fit.0 h)

pub legal_are_calls : LegalAreCalls
legal_are_calls s [] legal = tt
legal_are_calls s (e ∷ es) legal = (legal.0.call, legal_are_calls (stepped s e).state es legal.1)

pub uses_are_kept : UsesAreKept
uses_are_kept s [] sound pres legal h = tt
uses_are_kept s (e ∷ es) sound pres legal h =
    let t = (stepped s e).state in
    let new = step_keeps_maxuse s e.caller e.call e.moment sound pres legal.0.call h in
    (new.active, uses_are_kept t es (step_keeps_sound s e.caller e.call e.moment sound) (step_keeps_prestart_sound s e.caller e.call e.moment sound pres) legal.1 new)

opened_is_within : (offset : ℤ) → IsWithinMaxuse (opened offset)
opened_is_within offset = record {
  usable = λ sbs d e k i. absurd (subst (λ (x : Sbsd). IsIn e x.pres) (only_sbsd sbs d k) i);
  active = λ j i a. absurd i;
  idle = λ j i e. absurd i;
}

pub opening_is_within_maxuse : OpeningIsWithinMaxuse
opening_is_within_maxuse offset = subst IsWithinMaxuse (sym (opening_is offset)) (opened_is_within offset)
