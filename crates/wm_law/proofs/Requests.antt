-- Of the jobs that haven't ended only Running prestart jobs have a request, and a job that is yet to run has no uses.
use Rattle.std.proofs.Common.{◌≡◌, ◌⊎◌, ℕ, ℤ, ◌≤◌, ◌++◌, ◌==◌, ◌&&◌, not, Bool, true, false, cond, List, [], ◌∷◌, map, Option, Some, None, refl, sym, ap, subst, ◌∙◌, inl, inr, arith}
use Rattle.std.specs.List.{find}
use Rattle.std.proofs.lemmas.Bool.{and_parts, eqb-true}
use Rattle.wm_base.specs.declared.job.How.{How}
use Rattle.wm_base.specs.declared.qname.QName.{QName}
use Rattle.wm_desc.specs.declared.description.Jobd.{Jobd}
use Rattle.wm_desc.specs.declared.entry.AutoEntry.{AutoEntry}
use Rattle.wm_desc.specs.declared.objects.Objects.{Objects}
use Rattle.wm_law.specs.declared.call.Call.{Call}
use Rattle.wm_law.specs.declared.choice.Candidate.{Candidate}
use Rattle.wm_law.specs.declared.job.Job.{Job}
use Rattle.wm_law.specs.declared.job.JobKind.{JobKind}
use Rattle.wm_law.specs.declared.job.JobKind.TheVariants.{Asj, Bch, Pj}
use Rattle.wm_law.specs.declared.job.Phase.{Phase}
use Rattle.wm_law.specs.declared.job.Phase.TheVariants.{Waiting, Starting, Handed, Running, Ended}
use Rattle.wm_law.specs.declared.state.Power.{Power}
use Rattle.wm_law.specs.declared.state.Sbs.{Sbs}
use Rattle.wm_law.specs.declared.state.State.{State}
use Rattle.wm_law.specs.Autos.{auto_job, routed_auto}
use Rattle.wm_law.specs.Choice.{next}
use Rattle.wm_law.specs.Counts.{is_active, is_waiting}
use Rattle.wm_law.specs.Jobs.{active_at, changed_at}
use Rattle.wm_law.specs.Kept.{IsNumbered, phase_rank}
use Rattle.wm_law.specs.Launch.{as_launched, routed_from_queue, with_routed}
use Rattle.wm_law.specs.Laws.{IsIn}
use Rattle.wm_law.specs.Machine.{step}
use Rattle.wm_law.specs.Named.{is_ended}
use Rattle.wm_law.specs.Opening.{opening}
use Rattle.wm_law.specs.Prestart.{is_by_pre, is_idle, is_running, new_pre_job, with_evoke}
use Rattle.wm_law.specs.Reports.{in_phase, phased_at, with_phase}
use Rattle.wm_law.specs.Sound.{ActiveHaveCome, HasCome}
use Rattle.wm_law.specs.SoundPrestart.{OnlyRunningHaveRequests, OnlyRunHaveUses, is_yet_to_run}
use Rattle.wm_law.specs.Submitting.{submitted_job}
use Rattle.wm_law.specs.Wishes.{has_wish}
use Rattle.wm_law.proofs.Alterations.{IsAltered, IsEndOnQueue, each_altered, idle}
use Rattle.wm_law.proofs.Endings.{IsEnding, IsPhaseAfter, IsUseOn, IsWishing, key_same, use_ends, was_active}
use Rattle.wm_law.proofs.Members.{of_last, of_mapped}
use Rattle.wm_law.proofs.Moves.{HoldsOfStates, IsKeptByParts, IsOnward, autos_made, step_keeps}
use Rattle.wm_law.proofs.Nexts.{IsNext, is_next}
use Rattle.wm_law.proofs.Numbers.{auto_keeps, begun_keeps, calls, clock_keeps, launches_keep, only_started}
use Rattle.wm_law.proofs.Opened.{opened, opening_is}
use Rattle.wm_law.proofs.Placed.{active_before}
use Rattle.wm_law.proofs.PresInOrder.{launched_as_auto, launched_by_queue}
use Rattle.wm_law.proofs.Firsts.{ready_waits}
use Rattle.wm_law.proofs.Distinct.{one_by_key}

-- what is known of a job's use: an active job that came by a prestart entry is a prestart job; and requests and uses are of running jobs
record IsUsedRightly (j : Job) : Type 0 where
  kind : is_active j.phase ≡ true → is_by_pre j.how ≡ true → j.kind ≡ Pj
  request : is_ended j.phase ≡ false → j.evoke ≡ true → (is_running j.phase ≡ true) × (j.kind ≡ Pj)
  unused : is_yet_to_run j.phase ≡ true → j.uses ≡ 0

abbrev AllUsedRightly : List Job → Type 0
AllUsedRightly jobs = (j : Job) → IsIn j jobs → IsUsedRightly j

yet_before : (p q : Phase) → phase_rank p ≤ phase_rank q → is_yet_to_run q ≡ true → is_yet_to_run p ≡ true
yet_before Waiting q r h = refl
yet_before Starting q r h = refl
yet_before (Handed m) q r h = refl
yet_before (Running m) Waiting r h = absurd (omega arith)
yet_before (Running m) Starting r h = absurd (omega arith)
yet_before (Running m) (Handed n) r h = absurd (omega arith)
yet_before (Running m) (Running n) r h = absurd (cc)
yet_before (Running m) (Ended c) r h = absurd (cc)
yet_before (Ended c) Waiting r h = absurd (omega arith)
yet_before (Ended c) Starting r h = absurd (omega arith)
yet_before (Ended c) (Handed n) r h = absurd (omega arith)
yet_before (Ended c) (Running n) r h = absurd (omega arith)
yet_before (Ended c) (Ended d) r h = absurd (cc)

unended_before : (p q : Phase) → phase_rank p ≤ phase_rank q → is_ended q ≡ false → is_ended p ≡ false
unended_before Waiting q r h = refl
unended_before Starting q r h = refl
unended_before (Handed m) q r h = refl
unended_before (Running m) q r h = refl
unended_before (Ended c) Waiting r h = absurd (omega arith)
unended_before (Ended c) Starting r h = absurd (omega arith)
unended_before (Ended c) (Handed n) r h = absurd (omega arith)
unended_before (Ended c) (Running n) r h = absurd (omega arith)
unended_before (Ended c) (Ended d) r h = absurd (cc)

-- what runs runs on, unless it ends
runs_on : (p q : Phase) → phase_rank p ≤ phase_rank q → is_ended q ≡ false → is_running p ≡ true → is_running q ≡ true
runs_on Waiting q r n h = absurd (cc)
runs_on Starting q r n h = absurd (cc)
runs_on (Handed m) q r n h = absurd (cc)
runs_on (Ended c) q r n h = absurd (cc)
runs_on (Running m) Waiting r n h = absurd (omega arith)
runs_on (Running m) Starting r n h = absurd (omega arith)
runs_on (Running m) (Handed k) r n h = absurd (omega arith)
runs_on (Running m) (Running k) r n h = refl
runs_on (Running m) (Ended c) r n h = absurd (cc)

waiting_yet : (p : Phase) → is_waiting p ≡ true → (is_yet_to_run p ≡ true) × (is_ended p ≡ false) × (is_running p ≡ false)
waiting_yet Waiting h = (refl, refl, refl)
waiting_yet Starting h = absurd (cc)
waiting_yet (Handed m) h = absurd (cc)
waiting_yet (Running m) h = absurd (cc)
waiting_yet (Ended c) h = absurd (cc)

pub running_now : (p : Phase) → is_running p ≡ true → (is_yet_to_run p ≡ false) × (is_active p ≡ true)
running_now Waiting h = absurd (cc)
running_now Starting h = absurd (cc)
running_now (Handed m) h = absurd (cc)
running_now (Running m) h = (refl, refl)
running_now (Ended c) h = absurd (cc)

pub idle_runs : (j : Job) → is_idle j ≡ true → is_running j.phase ≡ true
idle_runs j h = (and_parts (is_running j.phase) (not j.evoke) (and_parts (is_running j.phase && not j.evoke) (not (has_wish j.wish)) h).0).0

-- a job that waits has neither a request nor uses
no_request : (j : Job) → IsUsedRightly j → is_waiting j.phase ≡ true → (j.evoke ≡ true → ⊥) × (j.uses ≡ 0)
no_request j h w =
    let p = waiting_yet j.phase w in (
      λ e. (
          let running = (h.request p.1 e).0 in
          let not_running = p.2 in
          absurd (cc)),
      h.unused p.0,
    )

-- a job that moves on
moved_rightly : (j : Job) (q : Phase) → IsOnward j.phase q → IsUsedRightly j → IsUsedRightly (in_phase q j)
moved_rightly j q r h = record {
  kind = λ a p. h.kind (active_before j.phase q r.past r.on a) p;
  request = λ n e. (let was = h.request (unended_before j.phase q r.on n) e in (runs_on j.phase q r.on n was.0, was.1));
  unused = λ y. h.unused (yet_before j.phase q r.on y);
}

moved_at : (s : State) (serial : ℕ) (phase : Phase) (j i : Job) (b : Bool) (k : Job) → IsNumbered s → AllUsedRightly s.jobs → IsIn j s.jobs → j.serial ≡ serial → IsOnward j.phase phase → (i.serial == serial) ≡ b → IsIn i s.jobs → k ≡ cond b (in_phase phase i) i → IsUsedRightly k
moved_at s serial phase j i true k n h m e r f o same =
    let its : i ≡ j = one_by_key (λ (x : Job). x.serial) s.jobs n.serials.distinct i j o m (eqb-true i.serial serial f ∙ sym e) in
    subst IsUsedRightly (ap (in_phase phase) (sym its) ∙ sym same) (moved_rightly j phase r (h j m))
moved_at s serial phase j i false k n h m e r f o same = subst IsUsedRightly (sym same) (h i o)

moved_used : (s : State) (serial : ℕ) (j : Job) (phase : Phase) → IsNumbered s → AllUsedRightly s.jobs → IsIn j s.jobs → j.serial ≡ serial → IsOnward j.phase phase → AllUsedRightly (with_phase s serial phase).jobs
moved_used s serial j phase n h m e r k i =
    let o = of_mapped (phased_at serial phase) s.jobs k i in
    moved_at s serial phase j o.0 (o.0.serial == serial) k n h m e r refl o.1 o.2

last_used : (jobs : List Job) (j : Job) → IsUsedRightly j → AllUsedRightly jobs → AllUsedRightly (jobs ++ j ∷ [])
last_used jobs j new h k i =
    elim (of_last jobs j k i) as (λ _. IsUsedRightly k) [ inl m ↦ h k m | inr same ↦ subst IsUsedRightly (sym same) new ]

unended_waits : (p : Phase) → (is_waiting p ≡ true) ⊎ IsEndOnQueue p → is_ended p ≡ false → is_waiting p ≡ true
unended_waits p (inl w) n = w
unended_waits p (inr e) n = let ended : is_ended p ≡ true = ap is_ended e.1 in absurd (cc)

altered_used : (s : State) (j k : Job) → IsAltered s j k → IsUsedRightly j → IsUsedRightly k
altered_used s j k a h =
    let none = no_request j h a.waits in
    record {
      kind = λ active p. (let no = idle s j k a in absurd (cc));
      request = λ n e. absurd (none.0 (sym a.evoke ∙ e));
      unused = λ y. a.uses ∙ none.1;
    }

-- what a launch of a job that waited makes of it
launched_rightly : (s : State) (sbs queue : QName) (f j : Job) → is_waiting j.phase ≡ true → IsUsedRightly j → IsUsedRightly (as_launched (routed_from_queue s sbs queue f) j)
launched_rightly s sbs queue f j w h =
    let none = no_request j h w in
    record {
      kind = λ a p. (let no = launched_by_queue s sbs queue f in absurd (cc));
      request = λ n e. absurd (none.0 e);
      unused = λ y. none.1;
    }

launched_at : (s : State) (c : Candidate) (f i : Job) (b : Bool) (k : Job) → (i.serial == c.serial) ≡ b → IsIn i s.jobs → IsNumbered s → IsNext s c f → AllUsedRightly s.jobs → k ≡ cond b (as_launched (routed_from_queue s c.sbs c.jobq f) i) i → IsUsedRightly k
launched_at s c f i true k e m n x h same =
    let its : i ≡ f = one_by_key (λ (y : Job). y.serial) s.jobs n.serials.distinct i f m x.first.job (eqb-true i.serial c.serial e ∙ x.serial) in
    let waits : is_waiting i.phase ≡ true = ap (λ (y : Job). is_waiting y.phase) its ∙ ready_waits s f x.first.may.ready in
    subst IsUsedRightly (sym same) (launched_rightly s c.sbs c.jobq f i waits (h i m))
launched_at s c f i false k e m n x h same = subst IsUsedRightly (sym same) (h i m)

launched_used : (s : State) (c : Candidate) (o : Option Job) → find (λ j. j.serial == c.serial) s.jobs ≡ o → next s ≡ Some c → IsNumbered s → AllUsedRightly s.jobs → AllUsedRightly (with_routed s c o).jobs
launched_used s c None f e n h = h
launched_used s c (Some j) f e n h = λ k m. (
    let o = of_mapped (changed_at c.serial (as_launched (routed_from_queue s c.sbs c.jobq j))) s.jobs k m in
    launched_at s c j o.0 (o.0.serial == c.serial) k refl o.1 n (is_next s c j e n f) h o.2)

-- a phase that hasn't ended is as it was
phase_still : (p q : Phase) → IsPhaseAfter p q → is_ended q ≡ false → q ≡ p
phase_still p q (inl e) n = e
phase_still p q (inr e) n = let ended : is_ended q ≡ true = ap is_ended e.1.1 in absurd (cc)

yet_unended : (p : Phase) → is_yet_to_run p ≡ true → is_ended p ≡ false
yet_unended Waiting h = refl
yet_unended Starting h = refl
yet_unended (Handed m) h = refl
yet_unended (Running m) h = absurd (cc)
yet_unended (Ended c) h = absurd (cc)

module _ (s : State) (change : Job → Job) (w : IsWishing change) (j : Job) (h : IsUsedRightly j) where
  kind_still : (change j).kind ≡ j.kind
  kind_still = key_same change w (λ (x : Job). x.kind) (λ x q v u r. refl) j

  how_still : (change j).how ≡ j.how
  how_still = key_same change w (λ (x : Job). x.how) (λ x q v u r. refl) j

  kind_rightly : is_active (change j).phase ≡ true → is_by_pre (change j).how ≡ true → (change j).kind ≡ Pj
  kind_rightly a p = kind_still ∙ h.kind (was_active j.phase (change j).phase (w.phase j) a) (ap is_by_pre (sym how_still) ∙ p)

  used_by : IsUseOn s j (change j) → IsUsedRightly (change j)
  used_by (inl same) = record {
    kind = kind_rightly;
    request = λ n e. (
        let phase = phase_still j.phase (change j).phase (w.phase j) n in
        let was = h.request (ap is_ended (sym phase) ∙ n) (sym same.evoke ∙ e) in
        (ap is_running phase ∙ was.0, kind_still ∙ was.1));
    unused = λ y. (
        let phase = phase_still j.phase (change j).phase (w.phase j) (yet_unended (change j).phase y) in
        same.uses ∙ h.unused (ap is_yet_to_run (sym phase) ∙ y));
  }
  used_by (inr (inl gets)) =
      let running = idle_runs j gets.idle in
      let now = running_now j.phase running in
      let phase : (change j).phase ≡ j.phase = ap (λ (x : Job). x.phase) gets.with_request in
      record {
        kind = kind_rightly;
        request = λ n e. (ap is_running phase ∙ running, kind_still ∙ h.kind now.1 gets.by_pre);
        unused = λ y. (let not_yet = ap is_yet_to_run phase ∙ now.0 in absurd (cc));
      }
  used_by (inr (inr done)) =
      let now = running_now j.phase done.running in
      let phase : (change j).phase ≡ j.phase = ap (λ (x : Job). x.phase) done.after in
      let evoke : (change j).evoke ≡ false = ap (λ (x : Job). x.evoke) done.after in
      record {
        kind = kind_rightly;
        request = λ n e. absurd (cc);
        unused = λ y. (let not_yet = ap is_yet_to_run phase ∙ now.0 in absurd (cc));
      }

ended_used : (s : State) (change : Job → Job) (started : List Sbs) (power : Power) → IsEnding s change started power → IsNumbered s → AllUsedRightly s.jobs → AllUsedRightly (map change s.jobs)
ended_used s change started power e n h k i =
    let m = of_mapped change s.jobs k i in
    subst IsUsedRightly (sym m.2) (used_by s change e.jobs m.0 (h m.0 m.1) (e.used n m.0 m.1))

auto_used : (q : QName) (t : State) (e : AutoEntry) (d : Jobd) → IsUsedRightly (routed_auto t q (auto_job t e d))
auto_used q t e d = record {
  kind = λ a p. (let no = launched_as_auto t q (auto_job t e d) in absurd (cc));
  request = λ n e. absurd (cc);
  unused = λ y. refl;
}

pre_used : (q : QName) (t : State) (pgm : QName) → IsUsedRightly (new_pre_job t q pgm)
pre_used q t pgm = record { kind = λ a p. refl; request = λ n e. absurd (cc); unused = λ y. refl }

-- numbered, and all jobs are used rightly
record IsInUse (s : State) : Type 0 where
  numbered : IsNumbered s
  jobs : AllUsedRightly s.jobs

calls_used : (s : State) → IsInUse s → HoldsOfStates IsInUse s
calls_used s l =
    let n = calls s l.numbered in
    let h = l.jobs in
    record {
      stays = l;
      starts = λ q e. autos_made IsInUse s q e
          (λ t x d m k. record { numbered = auto_keeps q t x d m k.numbered; jobs = last_used t.jobs (routed_auto t q (auto_job t x d)) (auto_used q t x d) k.jobs })
          (record { numbered = begun_keeps s q l.numbered; jobs = h });
      supplies = record {
        makes = λ q d e t can k. record { numbered = n.supplies.makes q d e t can k.numbered; jobs = last_used t.jobs (new_pre_job t q e.pgm) (pre_used q t e.pgm) k.jobs };
        assigns = λ t q pgm job evokes can k. record { numbered = n.supplies.assigns t q pgm job evokes can k.numbered; jobs = ended_used t (active_at job.serial with_evoke) t.started t.power (use_ends t q pgm job can.there can.idle) k.numbered k.jobs };
      };
      enters = λ user c d due has. record { numbered = n.enters user c d due has; jobs = last_used s.jobs (submitted_job s user c d due) (record { kind = λ a p. absurd (cc); request = λ m e. absurd (cc); unused = λ y. refl }) h };
      alters = λ change place a. record { numbered = n.alters change place a; jobs = each_altered IsUsedRightly s change place a h (λ j k i b. altered_used s j k b (h j i)) };
      holds = λ held a. record { numbered = n.holds held a; jobs = h };
      lists = λ stopped evokes. record { numbered = n.lists stopped evokes; jobs = h };
      moves = λ serial j phase stopped i e r k. record { numbered = n.moves serial j phase stopped i e r k; jobs = moved_used s serial j phase l.numbered h i e r.onward };
      ends = λ change started stopped evokes power e. record { numbered = n.ends change started stopped evokes power e; jobs = ended_used s change started power e l.numbered h };
      makes = λ o c. record { numbered = n.makes o c; jobs = h };
    }

parts : IsKeptByParts IsInUse
parts = record {
  clock = λ s moment l. record { numbered = clock_keeps s moment l.numbered; jobs = l.jobs };
  calls = calls_used;
  leaves = λ s l. record { numbered = only_started s l.numbered; jobs = l.jobs };
  launches = record { by_step = λ t c e l. record { numbered = launches_keep.by_step t c e l.numbered; jobs = launched_used t c (find (λ (j : Job). j.serial == c.serial) t.jobs) refl e l.numbered l.jobs } };
}

-- an active job that came by a prestart entry is a prestart job
kind_by : (bs : List Sbs) (o : Objects) (kind : JobKind) (jobq : Option QName) (pty : ℕ) (how : How) → HasCome bs o kind jobq pty how → is_by_pre how ≡ true → kind ≡ Pj
kind_by bs o Bch jobq pty how h p = let no : is_by_pre how ≡ false = ap is_by_pre h.is_how in absurd (cc)
kind_by bs o Asj jobq pty how h p = let no : is_by_pre how ≡ false = ap is_by_pre h.is_how in absurd (cc)
kind_by bs o Pj jobq pty how h p = refl

used_rightly : (s : State) → ActiveHaveCome s → OnlyRunningHaveRequests s → OnlyRunHaveUses s → AllUsedRightly s.jobs
used_rightly s places requests uses j i = record {
  kind = λ a p. kind_by s.started s.objects j.kind j.jobq j.pty j.how (places j i a) p;
  request = requests j i;
  unused = uses j i;
}

-- every step keeps both
pub step_keeps_uses : (s : State) (caller : ℕ) (call : Call) (moment : ℕ) → IsNumbered s → ActiveHaveCome s → OnlyRunningHaveRequests s → OnlyRunHaveUses s → OnlyRunningHaveRequests (step s caller call moment).state × OnlyRunHaveUses (step s caller call moment).state
step_keeps_uses s caller call moment n places requests uses =
    let after = step_keeps IsInUse parts s caller call moment (record { numbered = n; jobs = used_rightly s places requests uses }) in
    (λ j i. (after.jobs j i).request, λ j i. (after.jobs j i).unused)

opened_uses : (offset : ℤ) → OnlyRunningHaveRequests (opened offset) × OnlyRunHaveUses (opened offset)
opened_uses offset = (λ j i. absurd i, λ j i. absurd i)

pub opening_uses : (offset : ℤ) → OnlyRunningHaveRequests (opening offset) × OnlyRunHaveUses (opening offset)
opening_uses offset = subst (λ (s : State). OnlyRunningHaveRequests s × OnlyRunHaveUses s) (sym (opening_is offset)) (opened_uses offset)
