-- A call that tells nothing to end makes nothing due.
use Rattle.std.proofs.Common.{◌≡◌, ℕ, ◌==◌, ◌&&◌, ◌++◌, Bool, true, false, cond, List, [], ◌∷◌, refl, sym, ap, subst, ◌∙◌, inl, inr, arith}
use Rattle.std.proofs.lemmas.Bool.{and_parts, eqb-true}
use Rattle.wm_base.specs.declared.job.How.{How}
use Rattle.wm_base.specs.declared.job.How.TheVariants.{Auto}
use Rattle.wm_base.specs.declared.qname.QName.{QName}
use Rattle.wm_desc.specs.declared.description.Jobd.{Jobd}
use Rattle.wm_desc.specs.declared.entry.AutoEntry.{AutoEntry}
use Rattle.wm_desc.proofs.Tables.{one_name}
use Rattle.wm_law.specs.declared.call.Call.{Call}
use Rattle.wm_law.specs.declared.job.Job.{Job}
use Rattle.wm_law.specs.declared.job.Phase.{Phase}
use Rattle.wm_law.specs.declared.job.Phase.TheVariants.{Handed}
use Rattle.wm_law.specs.declared.job.Wish.{Wish}
use Rattle.wm_law.specs.declared.job.Wish.TheVariants as wish
use Rattle.wm_law.specs.declared.state.Sbs.{Sbs}
use Rattle.wm_law.specs.declared.state.SbsPhase.TheVariants.{Active}
use Rattle.wm_law.specs.declared.state.State.{State}
use Rattle.wm_law.specs.Autos.{auto_job, routed_auto, auto_made}
use Rattle.wm_law.specs.CallKinds.{is_ending_call}
use Rattle.wm_law.specs.Counts.{is_active, is_in_sbs, is_starting}
use Rattle.wm_law.specs.Jobs.{active_at, with_active}
use Rattle.wm_law.specs.Kept.{HasDistinctNames, IsNumbered}
use Rattle.wm_law.specs.Launch.{as_auto, routed_in}
use Rattle.wm_law.specs.Laws.{IsIn}
use Rattle.wm_law.specs.Reports.{in_phase, phased_at, with_kill, with_phase}
use Rattle.wm_law.specs.Settling.{is_sbs_now, sbs_moment}
use Rattle.wm_law.specs.Sound.{CallsLeaveNoneDue, HasNoneDue, IsUpToDate}
use Rattle.wm_law.specs.Submitting.{submitted_job}
use Rattle.wm_law.specs.Subsystems.{begun}
use Rattle.wm_law.specs.Wishes.{handed_wish, has_come, is_in_any, is_now, is_wish_due}
use Rattle.wm_law.proofs.Alterations.{IsAlteration, altered, each_altered, idle}
use Rattle.wm_law.proofs.Distinct.{one_by_key}
use Rattle.wm_law.proofs.Due.{due_same, not_both, of_any, IsQuietly, last_up, supplied_quietly}
use Rattle.wm_law.proofs.Forward.{only_one}
use Rattle.wm_law.proofs.Members.{of_last, of_mapped}
use Rattle.wm_law.proofs.Moves.{HoldsAfterCalls, IsMakeable, IsOnward, call_comes, moved_on, starting_rank, autos_made, started_keeps, IsUse, prestart_keeps}
use Rattle.wm_law.proofs.Passed.{any_in}
use Rattle.wm_law.proofs.Placed.{active_as, active_before}
use Rattle.wm_law.proofs.Routed.{by_route}
use Rattle.wm_law.proofs.Started.{begun_names}
use Rattle.wm_law.proofs.Endings.{was_active, wished}

-- whether a subsystem ends now
abbrev now : Sbs → Bool
now b = is_sbs_now b.phase

-- a job that moves on, but not to Starting, is up to date as it was
moved_up : (clock : ℕ) (bs : List Sbs) (i : Job) (p : Phase) → is_starting p ≡ false → IsUpToDate clock bs i → IsUpToDate clock bs (in_phase p i)
moved_up clock bs i p n u = record {
  looked = due_same clock i (in_phase p i) i.wish refl refl ∙ u.looked;
  starting = λ e. (let yes : is_starting p ≡ true = ap is_starting e in absurd (cc));
  told = u.told;
}

moved_at : (s : State) (serial : ℕ) (j : Job) (phase : Phase) → IsNumbered s → IsIn j s.jobs → j.serial ≡ serial → IsOnward j.phase phase → is_starting phase ≡ false → HasNoneDue s → (i : Job) (b : Bool) (k : Job) → (i.serial == serial) ≡ b → IsIn i s.jobs → k ≡ cond b (in_phase phase i) i → is_active k.phase ≡ true → IsUpToDate s.clock s.started k
moved_at s serial j phase n m e r x h i true k f o same a =
    let its : j ≡ i = only_one s.jobs n.serials.distinct j i m o (e ∙ sym (eqb-true i.serial serial f)) in
    let active : is_active phase ≡ true = ap (λ (y : Job). is_active y.phase) (sym same) ∙ a in
    let was : is_active i.phase ≡ true = ap (λ (y : Job). is_active y.phase) (sym its) ∙ active_before j.phase phase r.past r.on active in
    subst (IsUpToDate s.clock s.started) (sym same) (moved_up s.clock s.started i phase x (h.jobs i o was))
moved_at s serial j phase n m e r x h i false k f o same a =
    subst (IsUpToDate s.clock s.started) (sym same) (h.jobs i o (ap (λ (y : Job). is_active y.phase) (sym same) ∙ a))

moved_due : (s : State) (serial : ℕ) (j : Job) (phase : Phase) → IsNumbered s → IsIn j s.jobs → j.serial ≡ serial → IsOnward j.phase phase → is_starting phase ≡ false → HasNoneDue s → HasNoneDue (with_phase s serial phase)
moved_due s serial j phase n m e r x h = record {
  subsystems = h.subsystems;
  jobs = λ k i a. (let o = of_mapped (phased_at serial phase) s.jobs k i in moved_at s serial j phase n m e r x h o.0 (o.0.serial == serial) k refl o.1 o.2 a);
}

handed_due : (clock : ℕ) (i : Job) (w : Wish) → is_wish_due clock i w ≡ false → is_wish_due clock i (handed_wish w) ≡ false
handed_due clock i wish.NoWish h = h
handed_due clock i (wish.Later until why) h = h
handed_due clock i (wish.Now why handed) h = h

handed_now : (w : Wish) → is_now (handed_wish w) ≡ is_now w
handed_now wish.NoWish = refl
handed_now (wish.Later until why) = refl
handed_now (wish.Now why handed) = refl

-- so is one whose kill is handed
kill_up : (clock : ℕ) (bs : List Sbs) (i : Job) → IsUpToDate clock bs i → IsUpToDate clock bs (with_kill i)
kill_up clock bs i u = record {
  looked = due_same clock i (with_kill i) (handed_wish i.wish) refl refl ∙ handed_due clock i i.wish u.looked;
  starting = λ e. handed_now i.wish ∙ u.starting e;
  told = λ t. handed_now i.wish ∙ u.told t;
}

kill_at : (s : State) → HasNoneDue s → (i : Job) (b : Bool) (k : Job) → IsIn i s.jobs → k ≡ cond b (with_kill i) i → is_active k.phase ≡ true → IsUpToDate s.clock s.started k
kill_at s h i true k o same a = subst (IsUpToDate s.clock s.started) (sym same) (kill_up s.clock s.started i (h.jobs i o (ap (λ (y : Job). is_active y.phase) (sym same) ∙ a)))
kill_at s h i false k o same a = subst (IsUpToDate s.clock s.started) (sym same) (h.jobs i o (ap (λ (y : Job). is_active y.phase) (sym same) ∙ a))

kill_due : (s : State) (serial : ℕ) → HasNoneDue s → HasNoneDue (with_active s serial with_kill)
kill_due s serial h = record {
  subsystems = h.subsystems;
  jobs = λ k i a. (let o = of_mapped (active_at serial with_kill) s.jobs k i in kill_at s h o.0 (is_active o.0.phase && o.0.serial == serial) k o.1 o.2 a);
}

-- a subsystem that starts doesn't end now
any_begun : (bs : List Sbs) (q : QName) (how : How) → is_in_any now (bs ++ record { sbsd = q; phase = Active } ∷ []) how ≡ true → is_in_any now bs how ≡ true
any_begun bs q how h =
    let test = λ (b : Sbs). now b && is_in_sbs b.sbsd how in
    let b = of_any test (bs ++ record { sbsd = q; phase = Active } ∷ []) h in
    elim (of_last bs (record { sbsd = q; phase = Active }) b.0 b.1) as (λ _. is_in_any now bs how ≡ true) [
      | inl m ↦ any_in test bs b.0 m b.2
      | inr same ↦ (let none : false ≡ true = sym (ap test same) ∙ b.2 in absurd (cc))
    ]

begun_due : (s : State) (q : QName) → HasNoneDue s → HasNoneDue (begun s q)
begun_due s q h = record {
  subsystems = λ b i. (elim (of_last s.started (record { sbsd = q; phase = Active }) b i) as (λ _. has_come s.clock (sbs_moment b.phase) ≡ false) [
    | inl m ↦ h.subsystems b m
    | inr same ↦ ap (λ (x : Sbs). has_come s.clock (sbs_moment x.phase)) same
  ]);
  jobs = λ j i a. (
      let u = h.jobs j i a in
      record { looked = u.looked; starting = u.starting; told = λ t. u.told (any_begun s.started q j.how t) });
}

-- an autostart job's subsystem doesn't end now
auto_untold : (q : QName) (t : State) (e : AutoEntry) (d : Jobd) → IsMakeable q t → HasDistinctNames t → is_active (routed_auto t q (auto_job t e d)).phase ≡ true → is_in_any now t.started (routed_auto t q (auto_job t e d)).how ≡ true → ⊥
auto_untold q t e d m names a h =
    let j = auto_job t e d in
    let l = routed_in t q (as_auto q) j in
    let r = by_route t q (as_auto q) j (active_as t q (as_auto q) j a) in
    let is_how : l.how ≡ Auto q r.entry.seq = r.is_how in
    let b = of_any (λ (b : Sbs). now b && is_in_sbs b.sbsd l.how) t.started h in
    let both = and_parts (now b.0) (is_in_sbs b.0.sbsd l.how) b.2 in
    let named : q ≡ b.0.sbsd = one_name q b.0.sbsd (sym (ap (is_in_sbs b.0.sbsd) is_how) ∙ both.1) in
    let one : m.sbs ≡ b.0 = one_by_key (λ (y : Sbs). y.sbsd.name) t.started names m.sbs b.0 m.started b.1 (ap (λ (n : QName). n.name) (m.named ∙ named)) in
    not_both m.sbs.phase m.active (ap now one ∙ both.0)

auto_quiet : (q : QName) (t : State) (e : AutoEntry) (d : Jobd) → IsMakeable q t → IsQuietly t → IsQuietly (auto_made t q e d)
auto_quiet q t e d m h = record {
  names = h.names;
  none = record {
    subsystems = h.none.subsystems;
    jobs = last_up t.clock t.started t.jobs (routed_auto t q (auto_job t e d))
        (λ a. record { looked = refl; starting = λ p. refl; told = λ x. absurd (auto_untold q t e d m h.names a x) })
        h.none.jobs;
  };
}

altered_due : (s : State) (change : Job → Job) (place : ℕ) → IsAlteration s change place → HasNoneDue s → HasNoneDue (altered s change place)
altered_due s change place a h = record {
  subsystems = h.subsystems;
  jobs = each_altered (λ (k : Job). is_active k.phase ≡ true → IsUpToDate s.clock s.started k) s change place a h.jobs (λ j k i b active. (let no = idle s j k b in absurd (cc)));
}

-- neither a request that a job gets nor the end of a use makes anything due
used_due : (s : State) (change : Job → Job) → IsUse s change → IsNumbered s → HasNoneDue s → HasNoneDue (wished s change s.started s.stopped s.evokes s.power)
used_due s change u n h = record {
  subsystems = h.subsystems;
  jobs = λ k i a. (
      let m = of_mapped change s.jobs k i in
      let wishing = u.ending.jobs in
      let active : is_active m.0.phase ≡ true = was_active m.0.phase (change m.0).phase (wishing.phase m.0) (ap (λ (x : Job). is_active x.phase) (sym m.2) ∙ a) in
      subst (IsUpToDate s.clock s.started) (sym m.2) (u.up n m.0 m.1 (h.jobs m.0 m.1 active)));
}

quiet_calls : (s : State) (call : Call) → IsNumbered s → HasDistinctNames s → HasNoneDue s → is_ending_call call ≡ false → HoldsAfterCalls (λ t. HasNoneDue t.state) s call
quiet_calls s call n names h quiet = record {
  refuses = λ x. h;
  nothing = λ x. h;
  notes = h;
  hands = λ m j o i e f. (let on = moved_on j (Handed m) 1 (starting_rank j.phase e) (omega arith) (omega arith) (omega arith) (λ c d w x. absurd (cc)) in moved_due s j.serial j (Handed m) n i refl on.onward refl h);
  reports = λ serial j phase stopped i e r x fit. (let m = moved_due s serial j phase n i e r.onward x h in record { subsystems = m.subsystems; jobs = m.jobs });
  starts = λ q e. (started_keeps IsQuietly s q e supplied_quietly (autos_made IsQuietly s q e (auto_quiet q) (record { names = begun_names s q e.fresh names; none = begun_due s q h }))).none;
  enters = λ user c d due a fit. record { subsystems = h.subsystems; jobs = last_up s.clock s.started s.jobs (submitted_job s user c d due) (λ x. absurd (cc)) h.jobs };
  alters = λ reply change place p a fit. altered_due s change place a h;
  holds = λ reply held p a told fit. record { subsystems = h.subsystems; jobs = h.jobs };
  ends = λ reply change started stopped evokes power p e told kept. absurd (cc);
  uses = λ reply change p u. used_due s change u n h;
  waits = λ place evokes is. record { subsystems = h.subsystems; jobs = h.jobs };
  prestarts = λ q d e can. (prestart_keeps IsQuietly s q d e can supplied_quietly (record { names = names; none = record { subsystems = h.subsystems; jobs = h.jobs } })).none;
  kills = λ m j i k. kill_due s j.serial h;
  makes = λ o c told fit. record { subsystems = h.subsystems; jobs = h.jobs };
}

pub calls_leave_none_due : CallsLeaveNoneDue
calls_leave_none_due s caller call sound h quiet = call_comes (λ t. HasNoneDue t.state) s caller call (quiet_calls s call sound.numbered sound.names h quiet)
