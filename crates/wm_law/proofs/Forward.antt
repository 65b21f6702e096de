-- No step loses a job, or takes its phase or its wish back.
use Rattle.std.proofs.Common.{◌≡◌, ◌⊎◌, ℕ, ◌≤◌, ◌==◌, Bool, true, false, cond, List, [], ◌∷◌, map, Option, Some, None, refl, sym, ap, subst, ◌∙◌, inl, inr, arith, ◌&&◌}
use Rattle.std.specs.List.{find}
use Rattle.std.proofs.lemmas.Bool.{eqb-true}
use Rattle.wm_base.specs.Iterate.{IsKept}
use Rattle.wm_base.proofs.Iterate.{iterate-keeps}
use Rattle.wm_base.proofs.Tests.{Some-injective}
use Rattle.wm_law.specs.declared.call.Call.{Call}
use Rattle.wm_law.specs.declared.choice.Candidate.{Candidate}
use Rattle.wm_law.specs.declared.job.Job.{Job}
use Rattle.wm_base.specs.declared.job.EndCause.{EndCause}
use Rattle.wm_law.specs.declared.job.Phase.{Phase}
use Rattle.wm_law.specs.declared.job.Phase.TheVariants.{Waiting, Starting, Handed, Running, Ended}
use Rattle.wm_law.specs.declared.job.Wish.{Wish}
use Rattle.wm_law.specs.declared.state.State.{State}
use Rattle.wm_law.specs.Autos.{auto_job, routed_auto, auto_made}
use Rattle.wm_law.specs.Choice.{next}
use Rattle.wm_law.specs.Counts.{is_active, is_waiting}
use Rattle.wm_law.specs.Kept.{IsDistinct, IsNumbered, phase_rank, is_start_fault, IsEndOn, IsLater, IsWishOn, GoesOn, StepGoesOn}
use Rattle.wm_law.specs.Jobs.{changed_at, with_job, active_at}
use Rattle.wm_law.specs.Launch.{as_launched, launch, with_routed, routed_from_queue}
use Rattle.wm_law.specs.Laws.{IsIn}
use Rattle.wm_law.specs.Submitting.{submitted_job}
use Rattle.wm_law.specs.Reports.{in_phase, with_phase}
use Rattle.wm_law.specs.Settling.{come_due, settle, leave, waiting, ready}
use Rattle.wm_law.specs.Machine.{apply, step, with_clock}
use Rattle.wm_law.specs.Wishes.{now_cause}
use Rattle.wm_law.proofs.Alterations.{IsAltered}
use Rattle.wm_law.proofs.Endings.{IsPhaseAfter, IsWishing, key_same, on_same, on_still, unended, using, used_wish, wished}
use Rattle.wm_law.proofs.Members.{in_longer, in_mapped}
use Rattle.wm_law.proofs.Moves.{HoldsOfStates, call_keeps, comes_due, autos_made}
use Rattle.wm_law.proofs.Numbers.{launches_keep, apply_keeps, clock_keeps, ready_keeps}
use Rattle.wm_law.proofs.Firsts.{next_waits}
use Rattle.wm_law.specs.Prestart.{make_pre, new_pre_job, with_evoke}
use Rattle.wm_law.proofs.Supplies.{supplied_keeps}

-- what is active doesn't come to wait
not_back : (p q : Phase) → is_active p ≡ true → is_waiting q ≡ true → phase_rank p ≤ phase_rank q → ⊥
not_back p Starting a w r = absurd (cc)
not_back p (Handed m) a w r = absurd (cc)
not_back p (Running m) a w r = absurd (cc)
not_back p (Ended c) a w r = absurd (cc)
not_back Waiting Waiting a w r = absurd (cc)
not_back Starting Waiting a w r = absurd (omega arith)
not_back (Handed m) Waiting a w r = absurd (omega arith)
not_back (Running m) Waiting a w r = absurd (omega arith)
not_back (Ended c) Waiting a w r = absurd (cc)

-- a phase that stays ends nothing
end_same : (p : Phase) (w : Wish) → IsEndOn p w p
end_same p w = record { kept = λ c e. e; by_wish = λ c d a k e. absurd (unended p d a e) }

-- nor is a job that waits to end by a wish
end_waiting : (p : Phase) (w : Wish) (q : Phase) → is_waiting p ≡ true → IsEndOn p w q
end_waiting Waiting w q h = record { kept = λ c e. absurd (cc); by_wish = λ c d a k e. absurd (cc) }
end_waiting Starting w q h = absurd (cc)
end_waiting (Handed m) w q h = absurd (cc)
end_waiting (Running m) w q h = absurd (cc)
end_waiting (Ended c) w q h = absurd (cc)

ended_same : (c d : EndCause) → Ended c ≡ Ended d → c ≡ d
ended_same c d e = cc

end_by : (i j k : Job) (p : Phase) → j.phase ≡ p → IsLater i j → IsLater j k → (c d : EndCause) → is_active i.phase ≡ true → now_cause i.wish ≡ Some c → k.phase ≡ Ended d → (d ≡ c) ⊎ (is_start_fault d ≡ true)
end_by i j k Waiting e h l c d a w f = absurd (not_back i.phase j.phase a (ap is_waiting e) h.phase)
end_by i j k Starting e h l c d a w f = (let end = l.end in let on = h.wish in end.by_wish c d (ap is_active e) (on.cause c w) f)
end_by i j k (Handed m) e h l c d a w f = (let end = l.end in let on = h.wish in end.by_wish c d (ap is_active e) (on.cause c w) f)
end_by i j k (Running m) e h l c d a w f = (let end = l.end in let on = h.wish in end.by_wish c d (ap is_active e) (on.cause c w) f)
end_by i j k (Ended x) e h l c d a w f =
    let end = h.end in
    let last = l.end in
    let same : x ≡ d = ended_same x d (sym (last.kept x e) ∙ f) in
    end.by_wish c d a w (e ∙ ap Ended same)

end_still : (i j k : Job) → IsLater i j → IsLater j k → IsEndOn i.phase i.wish k.phase
end_still i j k h l = record {
  kept = λ c e. (let end = h.end in let last = l.end in last.kept c (end.kept c e));
  by_wish = end_by i j k j.phase refl h l;
}

pub no_less : (j : Job) → IsLater j j
no_less j = record { serial = refl; job = refl; phase = omega arith; wish = on_same j.wish j.wish refl; end = end_same j.phase j.wish }

stays : (s : State) → GoesOn s s
stays s j i = (j, i, no_less j)

later_still : (i j k : Job) → IsLater i j → IsLater j k → IsLater i k
later_still i j k h l = record { serial = l.serial ∙ h.serial; job = l.job ∙ h.job; phase = let a = h.phase in let b = l.phase in omega arith; wish = on_still i.wish j.wish k.wish h.wish l.wish; end = end_still i j k h l }

pub goes_on_still : (s t u : State) → GoesOn s t → GoesOn t u → GoesOn s u
goes_on_still s t u h l i m =
    let a = h i m in
    let b = l a.0 a.1 in
    (b.0, b.1, later_still i a.0 b.0 a.2 b.2)

-- two jobs of one serial are one
pub only_one : (jobs : List Job) → IsDistinct (map (λ j. j.serial) jobs) → (i j : Job) → IsIn i jobs → IsIn j jobs → i.serial ≡ j.serial → i ≡ j
only_one [] d i j m n e = absurd m
only_one (k ∷ jobs) d i j (inl a) (inl b) e = a ∙ sym b
only_one (k ∷ jobs) d i j (inl a) (inr n) e = absurd (d.0 (subst (λ (x : ℕ). IsIn x (map (λ (j : Job). j.serial) jobs)) (sym e ∙ ap (λ (x : Job). x.serial) a) (in_mapped (λ (x : Job). x.serial) jobs j n)))
only_one (k ∷ jobs) d i j (inr m) (inl b) e = absurd (d.0 (subst (λ (x : ℕ). IsIn x (map (λ (j : Job). j.serial) jobs)) (e ∙ ap (λ (x : Job). x.serial) b) (in_mapped (λ (x : Job). x.serial) jobs i m)))
only_one (k ∷ jobs) d i j (inr m) (inr n) e = only_one jobs d.1 i j m n e

later_at : (change : Job → Job) (serial : ℕ) (i j : Job) (t : Bool) → (j.serial == serial) ≡ t → (j.serial ≡ serial → i ≡ j) → IsLater i (change i) → IsLater j (cond t (change j) j)
later_at change serial i j true e one h = subst (λ (x : Job). IsLater x (change x)) (one (eqb-true j.serial serial e)) h
later_at change serial i j false e one h = no_less j

-- a change that makes the job of the serial a later one
job_goes_on : (s : State) (serial : ℕ) (change : Job → Job) (i : Job) → IsNumbered s → IsIn i s.jobs → i.serial ≡ serial → IsLater i (change i) → GoesOn s (with_job s serial change)
job_goes_on s serial change i n m e h j k =
    (changed_at serial change j, in_mapped (changed_at serial change) s.jobs j k, later_at change serial i j (j.serial == serial) refl (λ f. only_one s.jobs n.serials.distinct i j m k (e ∙ sym f)) h)

phase_goes_on : (s : State) (serial : ℕ) (phase : Phase) (i : Job) → IsNumbered s → IsIn i s.jobs → i.serial ≡ serial → phase_rank i.phase ≤ phase_rank phase → IsEndOn i.phase i.wish phase → GoesOn s (with_phase s serial phase)
phase_goes_on s serial phase i n m e h end = job_goes_on s serial (in_phase phase) i n m e (record { serial = refl; job = refl; phase = h; wish = on_same i.wish i.wish refl; end = end })

waiting_least : (p : Phase) (n : ℕ) → is_waiting p ≡ true → phase_rank p ≤ n
waiting_least Waiting n h = omega arith
waiting_least Starting n h = absurd (cc)
waiting_least (Handed m) n h = absurd (cc)
waiting_least (Running m) n h = absurd (cc)
waiting_least (Ended c) n h = absurd (cc)

launch_goes_on : (s : State) (c : Candidate) (i : Job) (o : Option Job) → IsNumbered s → IsIn i s.jobs → i.serial ≡ c.serial → is_waiting i.phase ≡ true → GoesOn s (with_routed s c o)
launch_goes_on s c i None n m e w = stays s
launch_goes_on s c i (Some f) n m e w =
    let l = routed_from_queue s c.sbs c.jobq f in
    job_goes_on s c.serial (as_launched l) i n m e (record { serial = refl; job = refl; phase = waiting_least i.phase (phase_rank l.phase) w; wish = on_same i.wish i.wish refl; end = end_waiting i.phase i.wish l.phase w })

-- numbered, and gone on from a state
record IsOn (s t : State) : Type 0 where
  numbered : IsNumbered t
  on : GoesOn s t

launches_go_on : (s : State) → IsKept next (λ c t. launch t c) (IsOn s)
launches_go_on s = record {
  by_step = λ t c e h.
      let i = next_waits t c e in
      record {
        numbered = launches_keep.by_step t c e h.numbered;
        on = goes_on_still s t (launch t c) h.on (launch_goes_on t c i.0 (find (λ j. j.serial == c.serial) t.jobs) h.numbered i.1 (sym i.3) i.2);
      };
}

later_altered : (s : State) (j k : Job) → (k ≡ j) ⊎ IsAltered s j k → IsLater j k
later_altered s j k (inl e) = subst (IsLater j) (sym e) (no_less j)
later_altered s j k (inr a) = record { serial = a.serial; job = a.job; phase = waiting_least j.phase (phase_rank k.phase) a.waits; wish = on_same j.wish k.wish a.wish; end = end_waiting j.phase j.wish k.phase a.waits }

rank_after : (p q : Phase) → IsPhaseAfter p q → phase_rank p ≤ phase_rank q
rank_after p q (inl e) =
    let same = ap phase_rank e in
    omega arith
rank_after p q (inr e) =
    let before : phase_rank p ≡ 1 = ap phase_rank e.0 in
    let after : phase_rank q ≡ 4 = ap phase_rank e.1.1 in
    omega arith

active_stays : (change : Job → Job) → IsWishing change → (j : Job) (c : EndCause) → j.phase ≡ Ended c → (change j).phase ≡ Ended c
active_stays change h j c e = ap (λ (x : Job). x.phase) (h.idle j (ap is_active e)) ∙ e

one_cause : (a b : EndCause) (o : Option EndCause) → o ≡ Some a → o ≡ Some b → a ≡ b
one_cause a b o e f = Some-injective a b (sym e ∙ f)

end_wished : (change : Job → Job) → IsWishing change → (j : Job) → IsWishOn j.wish (change j).wish → IsEndOn j.phase j.wish (change j).phase
end_wished change h j on = record {
  kept = active_stays change h j;
  by_wish = λ c d a w e. inl (one_cause d c (now_cause (change j).wish) (h.why j d a e) (on.cause c w));
}

-- a job whose wish changes goes on
later_wished : (change : Job → Job) → IsWishing change → (j : Job) → IsWishOn j.wish (change j).wish → IsLater j (change j)
later_wished change h j on = record {
  serial = key_same change h (λ (x : Job). x.serial) (λ x p w u e. refl) j;
  job = key_same change h (λ (x : Job). x.job) (λ x p w u e. refl) j;
  phase = rank_after j.phase (change j).phase (h.phase j);
  wish = on;
  end = end_wished change h j on;
}

-- no call loses a job, or takes its phase or its wish back
calls : (s : State) → IsNumbered s → HoldsOfStates (GoesOn s) s
calls s n = record {
  stays = stays s;
  starts = λ q e. autos_made (GoesOn s) s q e
      (λ t x d m h. goes_on_still s t (auto_made t q x d) h (λ j i. (j, in_longer t.jobs (routed_auto t q (auto_job t x d)) j i, no_less j)))
      (λ j i. (j, i, no_less j));
  supplies = record {
    makes = λ q d e t can h. goes_on_still s t (make_pre q e.pgm t) h (λ j i. (j, in_longer t.jobs (new_pre_job t q e.pgm) j i, no_less j));
    assigns = λ t q pgm job evokes can h. goes_on_still s t (wished t (active_at job.serial with_evoke) t.started t.stopped evokes t.power) h
        (λ j i. (active_at job.serial with_evoke j, in_mapped (active_at job.serial with_evoke) t.jobs j i, later_wished (active_at job.serial with_evoke) (using job.serial) j (on_same j.wish (active_at job.serial with_evoke j).wish (used_wish job.serial (is_active j.phase && j.serial == job.serial) j))));
  };
  enters = λ user c d due has j i. (j, in_longer s.jobs (submitted_job s user c d due) j i, no_less j);
  alters = λ change place a j i. (change j, in_mapped change s.jobs j i, later_altered s j (change j) (a.each j));
  holds = λ held a j i. (j, i, no_less j);
  lists = λ stopped evokes j i. (j, i, no_less j);
  moves = λ serial j phase stopped i e r k. (let on = r.onward in phase_goes_on s serial phase j n i e on.on r.end);
  ends = λ change started stopped evokes power e j i. (change j, in_mapped change s.jobs j i, later_wished change e.jobs j (e.onward n j i));
  makes = λ o c j i. (j, i, no_less j);
}

-- nor does settling
pub settle_goes_on : (s : State) → IsNumbered s → GoesOn s (settle s)
settle_goes_on s h =
    let due : GoesOn s (come_due s) = comes_due (GoesOn s) s (calls s h) in
    let supplied : GoesOn s (ready s) = supplied_keeps (GoesOn s) (calls s h).supplies (leave (come_due s)) due in
    (iterate-keeps (IsOn s) (launches_go_on s) (waiting (ready s)) (ready s) (record { numbered = ready_keeps s h; on = supplied })).on

apply_goes_on : (s : State) (caller : ℕ) (call : Call) → IsNumbered s → GoesOn s (apply s caller call).state
apply_goes_on s caller call n = call_keeps (GoesOn s) s caller call (calls s n)

pub step_goes_on : StepGoesOn
unfolding step
step_goes_on s caller call moment h =
    let c = clock_keeps s moment h in
    goes_on_still s (apply (with_clock s moment) caller call).state (settle (apply (with_clock s moment) caller call).state) (apply_goes_on (with_clock s moment) caller call c) (settle_goes_on _ (apply_keeps (with_clock s moment) caller call c))
