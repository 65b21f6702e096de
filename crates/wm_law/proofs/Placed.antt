-- The entries by which active jobs came stay.
use Rattle.std.proofs.Common.{◌≡◌, ℕ, ◌≤◌, ◌++◌, ◌==◌, ◌&&◌, not, Bool, true, false, cond, List, [], ◌∷◌, Option, Some, None, is_some, refl, sym, ap, subst, ◌∙◌, inl, inr, arith}
use Rattle.std.specs.List.{find}
use Rattle.std.specs.Option.{option_and_then}
use Rattle.std.proofs.lemmas.Bool.{eqb-true}
use Rattle.wm_base.specs.declared.job.EndCause.{EndCause}
use Rattle.wm_base.specs.declared.job.How.{How}
use Rattle.wm_base.specs.declared.job.How.TheVariants.{FromQueue, Auto, Pre}
use Rattle.wm_base.specs.declared.qname.QName.{QName}
use Rattle.wm_base.specs.Iterate.{IsKept}
use Rattle.wm_base.proofs.Tests.{not_both}
use Rattle.wm_desc.specs.declared.description.Jobd.{Jobd}
use Rattle.wm_desc.specs.declared.description.Sbsd.{Sbsd}
use Rattle.wm_desc.specs.declared.entry.AutoEntry.{AutoEntry}
use Rattle.wm_desc.specs.declared.entry.RouteEntry.{RouteEntry}
use Rattle.wm_desc.specs.declared.objects.Objects.{Objects}
use Rattle.wm_desc.specs.Table.{object_named}
use Rattle.wm_law.specs.declared.call.Call.{Call}
use Rattle.wm_law.specs.declared.choice.Candidate.{Candidate}
use Rattle.wm_law.specs.declared.job.Job.{Job}
use Rattle.wm_law.specs.declared.job.JobKind.{JobKind}
use Rattle.wm_law.specs.declared.job.JobKind.TheVariants.{Bch, Asj, Pj}
use Rattle.wm_law.specs.declared.job.Phase.{Phase}
use Rattle.wm_law.specs.declared.job.Phase.TheVariants.{Waiting, Starting, Handed, Running, Ended}
use Rattle.wm_law.specs.declared.launch.Launched.{Launched}
use Rattle.wm_law.specs.declared.state.Evoke.{Evoke}
use Rattle.wm_law.specs.declared.state.Power.{Power}
use Rattle.wm_law.specs.declared.state.Sbs.{Sbs}
use Rattle.wm_law.specs.declared.state.SbsPhase.TheVariants.{Active}
use Rattle.wm_law.specs.declared.state.State.{State}
use Rattle.wm_law.specs.Autos.{auto_job, routed_auto, auto_made}
use Rattle.wm_law.specs.Choice.{next}
use Rattle.wm_law.specs.Counts.{count_in_sbs, is_active, is_in_sbs, is_waiting}
use Rattle.wm_law.specs.Kept.{IsNumbered, phase_rank}
use Rattle.wm_law.specs.Jobs.{changed_at, active_at}
use Rattle.wm_law.specs.Launch.{as_auto, as_launched, from_queue, is_match, launch, with_routed, routed_from_queue, routed_in, starts_unless, routed_through, route, route_fault}
use Rattle.wm_law.specs.Laws.{IsIn}
use Rattle.wm_law.specs.Machine.{step}
use Rattle.wm_law.specs.Reports.{in_phase, phased_at, with_phase}
use Rattle.wm_law.specs.Settling.{is_ending, is_gone, leave}
use Rattle.wm_law.specs.Sound.{CameFromQueue, ActiveHaveCome, HasQueues, HasCome}
use Rattle.wm_law.specs.Submitting.{submitted_job}
use Rattle.wm_law.proofs.Alterations.{IsAlteration, altered, each_altered, idle}
use Rattle.wm_law.proofs.Endings.{AreEnded, IsEnding, was_active, wished, use_ends}
use Rattle.wm_law.proofs.Firsts.{holder_started, ready_waits}
use Rattle.wm_law.proofs.Forward.{only_one}
use Rattle.wm_law.proofs.Lodged.{counted, not_zero}
use Rattle.wm_law.proofs.Members.{found_among, in_left, in_longer, of_last, of_mapped}
use Rattle.wm_law.proofs.Moves.{HoldsOfStates, IsMakeable, IsOnward, IsKeptByParts, autos_made, both_hold, step_keeps}
use Rattle.wm_law.proofs.Named.{own_name}
use Rattle.wm_law.proofs.Nexts.{IsNext, is_next}
use Rattle.wm_law.proofs.Numbers.{calls, clock_keeps, launches_keep, only_started}
use Rattle.wm_law.proofs.Objects.{IsObjectChange}
use Rattle.wm_law.proofs.Queued.{launches_queued, queued_calls}
use Rattle.wm_law.proofs.Routed.{by_route, launched_routed, started_through}
use Rattle.wm_law.proofs.Turns.{is_turn}
use Rattle.wm_desc.specs.declared.entry.PreEntry.{PreEntry}
use Rattle.wm_law.specs.Prestart.{make_pre, new_pre_job, with_evoke}
use Rattle.wm_law.proofs.Supplies.{IsSuppliable}
use Rattle.wm_law.specs.declared.state.Stop.{Stop}

active_by : (how : ℕ → How) (seq : ℕ) (o : Option EndCause) → is_active (starts_unless how seq o).phase ≡ true → (starts_unless how seq o).phase ≡ Starting
active_by how seq None h = refl
active_by how seq (Some c) h = absurd (cc)

-- a launch that leaves a job active leaves it Starting
pub active_through : (s : State) (sbs : QName) (how : ℕ → How) (j : Job) (o : Option RouteEntry) → is_active (routed_through s sbs how j o).phase ≡ true → (routed_through s sbs how j o).phase ≡ Starting
active_through s sbs how j None h = absurd (cc)
active_through s sbs how j (Some e) h = active_by how e.seq (route_fault s sbs e j) h

pub active_as : (s : State) (sbs : QName) (how : ℕ → How) (j : Job) → is_active (routed_in s sbs how j).phase ≡ true → (routed_in s sbs how j).phase ≡ Starting
active_as s sbs how j h = active_through s sbs how j (option_and_then (λ d. route d j.rtgdta) (object_named sbs s.objects.sbsds)) h

-- the launched job came by the entries of its turn
placed_now : (s : State) (c : Candidate) (j : Job) → IsNext s c j → is_active (routed_from_queue s c.sbs c.jobq j).phase ≡ true → CameFromQueue s.started s.objects j.jobq j.pty (routed_from_queue s c.sbs c.jobq j).how
placed_now s c j n a =
    let t = n.turn in
    let m = n.first.may in
    let i = is_turn s j t m.turn in
    let o = route t.sbsd j.rtgdta in
    let same = launched_routed s c j n in
    let how = from_queue t.sbs.sbsd t.queue j in
    let active : is_active (routed_through s t.sbs.sbsd how j o).phase ≡ true = ap (λ (l : Launched). is_active l.phase) (sym same) ∙ a in
    let r = started_through s t.sbs.sbsd how t.sbsd j o refl (active_through s t.sbs.sbsd how j o active) in
    record {
      queue = t.queue;
      sbs = t.sbs;
      sbsd = t.sbsd;
      entry = t.entry;
      route = r.0;
      started = holder_started s j t m;
      described = i.sbsd;
      fed = i.entry;
      routed = (found_among (λ (e : RouteEntry). is_match e.cmp j.rtgdta) t.sbsd.routes r.0 r.1).0;
      has_queue = i.queue;
      is_how = ap (λ (l : Launched). l.how) same ∙ r.2;
    }

-- the active job is so placed
abbrev IsPlacedIn : State → Job → Type 0
IsPlacedIn s j = HasCome s.started s.objects j.kind j.jobq j.pty j.how

-- a submitted job that came from a queue is in its place
submitted : (bs : List Sbs) (o : Objects) (kind : JobKind) (jobq : Option QName) (pty : ℕ) (how : How) → kind ≡ Bch → CameFromQueue bs o jobq pty how → HasCome bs o kind jobq pty how
submitted bs o kind jobq pty how e p = subst (λ (k : JobKind). HasCome bs o k jobq pty how) (sym e) p

placed_at : (s : State) (c : Candidate) (f : Job) (i : Job) (b : Bool) (k : Job) → (i.serial == c.serial) ≡ b → IsIn i s.jobs → IsNumbered s → HasQueues s → IsNext s c f → ActiveHaveCome s → k ≡ cond b (as_launched (routed_from_queue s c.sbs c.jobq f) i) i → is_active k.phase ≡ true → IsPlacedIn s k
placed_at s c f i true k e m n q x h same a =
    let l = routed_from_queue s c.sbs c.jobq f in
    let its : i ≡ f = only_one s.jobs n.serials.distinct i f m x.first.job (eqb-true i.serial c.serial e ∙ x.serial) in
    let active : is_active l.phase ≡ true = ap (λ (y : Job). is_active y.phase) (sym same) ∙ a in
    let bch : f.kind ≡ Bch = (q f x.first.job).waits (ready_waits s f x.first.may.ready) in
    let placed : IsPlacedIn s (as_launched l f) = submitted s.started s.objects f.kind f.jobq f.pty l.how bch (placed_now s c f x active) in
    subst (IsPlacedIn s) (ap (as_launched l) (sym its) ∙ sym same) placed
placed_at s c f i false k e m n q x h same a =
    subst (IsPlacedIn s) (sym same) (h i m (ap (λ (y : Job). is_active y.phase) (sym same) ∙ a))

launched_placed : (s : State) (c : Candidate) (o : Option Job) → find (λ j. j.serial == c.serial) s.jobs ≡ o → next s ≡ Some c → IsNumbered s → HasQueues s → ActiveHaveCome s → ActiveHaveCome (with_routed s c o)
launched_placed s c None f e n q h = h
launched_placed s c (Some j) f e n q h = λ k m a. (
    let o = of_mapped (changed_at c.serial (as_launched (routed_from_queue s c.sbs c.jobq j))) s.jobs k m in
    placed_at s c j o.0 (o.0.serial == c.serial) k refl o.1 n q (is_next s c j e n f) h o.2 a)

-- numbered, the jobs have their queues, and active jobs have their places
abbrev IsSettled : State → Type 0
IsSettled s = IsNumbered s × (HasQueues s × ActiveHaveCome s)

launches_placed : IsKept next (λ c t. launch t c) IsSettled
launches_placed = record {
  by_step = λ t c e h. (launches_keep.by_step t c e h.0, (launches_queued.by_step t c e h.1.0, launched_placed t c (find (λ (j : Job). j.serial == c.serial) t.jobs) refl e h.0 h.1.0 h.1.1));
}

-- what is active was so before, or waited
pub active_before : (p q : Phase) → is_waiting p ≡ false → phase_rank p ≤ phase_rank q → is_active q ≡ true → is_active p ≡ true
active_before Waiting q w r a = absurd (cc)
active_before Starting q w r a = refl
active_before (Handed m) q w r a = refl
active_before (Running m) q w r a = refl
active_before (Ended c) Waiting w r a = absurd (cc)
active_before (Ended c) Starting w r a = absurd (omega arith)
active_before (Ended c) (Handed m) w r a = absurd (omega arith)
active_before (Ended c) (Running m) w r a = absurd (omega arith)
active_before (Ended c) (Ended d) w r a = absurd (cc)

moved_at : (s : State) (serial : ℕ) (phase : Phase) (j i : Job) (b : Bool) (k : Job) → IsNumbered s → ActiveHaveCome s → IsIn j s.jobs → j.serial ≡ serial → IsOnward j.phase phase → (i.serial == serial) ≡ b → IsIn i s.jobs → k ≡ cond b (in_phase phase i) i → is_active k.phase ≡ true → IsPlacedIn s k
moved_at s serial phase j i true k n h m e r f o same a =
    let its : j ≡ i = only_one s.jobs n.serials.distinct j i m o (e ∙ sym (eqb-true i.serial serial f)) in
    let active : is_active phase ≡ true = ap (λ (y : Job). is_active y.phase) (sym same) ∙ a in
    let was : is_active i.phase ≡ true = ap (λ (y : Job). is_active y.phase) (sym its) ∙ active_before j.phase phase r.past r.on active in
    let placed : IsPlacedIn s (in_phase phase i) = h i o was in
    subst (IsPlacedIn s) (sym same) placed
moved_at s serial phase j i false k n h m e r f o same a =
    subst (IsPlacedIn s) (sym same) (h i o (ap (λ (y : Job). is_active y.phase) (sym same) ∙ a))

moved_placed : (s : State) (serial : ℕ) (j : Job) (phase : Phase) → IsNumbered s → ActiveHaveCome s → IsIn j s.jobs → j.serial ≡ serial → IsOnward j.phase phase → ActiveHaveCome (with_phase s serial phase)
moved_placed s serial j phase n h m e r k i a =
    let o = of_mapped (phased_at serial phase) s.jobs k i in
    moved_at s serial phase j o.0 (o.0.serial == serial) k n h m e r refl o.1 o.2 a

-- one more job, which is in its place if it is active
last_placed : (s : State) (j : Job) → (is_active j.phase ≡ true → IsPlacedIn s j) → ActiveHaveCome s → (k : Job) → IsIn k (s.jobs ++ j ∷ []) → is_active k.phase ≡ true → IsPlacedIn s k
last_placed s j new h k i a =
    elim (of_last s.jobs j k i) as (λ _. IsPlacedIn s k) [
      | inl m ↦ h k m a
      | inr same ↦ subst (IsPlacedIn s) (sym same) (new (ap (λ (y : Job). is_active y.phase) (sym same) ∙ a))
    ]

-- no altered job is active
altered_placed : (s : State) (change : Job → Job) (place : ℕ) → IsAlteration s change place → ActiveHaveCome s → ActiveHaveCome (altered s change place)
altered_placed s change place a h =
    each_altered (λ (k : Job). is_active k.phase ≡ true → IsPlacedIn s k) s change place a h (λ j k i b active. (let no = idle s j k b in absurd (cc)))

-- an autostart job came with the subsystem in which it is made
auto_placed : (q : QName) (t : State) (e : AutoEntry) (d : Jobd) → IsMakeable q t → ActiveHaveCome t → ActiveHaveCome (auto_made t q e d)
auto_placed q t e d m h =
    let j = auto_job t e d in
    last_placed t (routed_auto t q j)
    (λ a.
    let r = by_route t q (as_auto q) j (active_as t q (as_auto q) j a) in
    record {
      sbs = m.sbs;
      sbsd = r.sbsd;
      route = r.entry;
      started = m.started;
      described = ap (λ (n : QName). object_named n t.objects.sbsds) m.named ∙ r.described;
      routed = (found_among (λ (x : RouteEntry). is_match x.cmp j.rtgdta) r.sbsd.routes r.entry r.routed).0;
      is_how = r.is_how ∙ ap (λ (n : QName). Auto n r.entry.seq) (sym m.named);
    })
    h

-- a prestart job came by the entry for which it is made
pre_placed : (q : QName) (d : Sbsd) (e : PreEntry) (t : State) → IsSuppliable q d e t → ActiveHaveCome t → ActiveHaveCome (make_pre q e.pgm t)
pre_placed q d e t can h =
    last_placed t (new_pre_job t q e.pgm)
    (λ a. record {
      sbs = can.sbs;
      sbsd = d;
      entry = e;
      started = can.started;
      described = ap (λ (n : QName). object_named n t.objects.sbsds) can.named ∙ can.described;
      entered = can.entered;
      is_how = ap (λ (n : QName). Pre n e.pgm) (sym can.named);
    })
    h

-- what a how names among subsystems and objects is named among others, too
abbrev pub IsStillNamed : List Sbs → Objects → List Sbs → Objects → How → Type 0
IsStillNamed bs o cs p how = (b : Sbs) (d : Sbsd) → IsIn b bs → is_in_sbs b.sbsd how ≡ true → object_named b.sbsd o.sbsds ≡ Some d → (c : Sbs) × IsIn c cs × (c.sbsd ≡ b.sbsd) × (object_named c.sbsd p.sbsds ≡ Some d)

-- a job that is in its place stays there
pub placed_still : (bs : List Sbs) (o : Objects) (cs : List Sbs) (p : Objects) (kind : JobKind) (jobq : Option QName) (pty : ℕ) (how : How) → IsStillNamed bs o cs p how → HasCome bs o kind jobq pty how → HasCome cs p kind jobq pty how
placed_still bs o cs p Bch jobq pty how still h =
    let n = still h.sbs h.sbsd h.started (ap (is_in_sbs h.sbs.sbsd) h.is_how ∙ own_name h.sbs.sbsd) h.described in
    record {
      queue = h.queue;
      sbs = n.0;
      sbsd = h.sbsd;
      entry = h.entry;
      route = h.route;
      started = n.1;
      described = n.3;
      fed = h.fed;
      routed = h.routed;
      has_queue = h.has_queue;
      is_how = h.is_how ∙ ap (λ (q : QName). FromQueue q h.queue pty h.route.seq) (sym n.2);
    }
placed_still bs o cs p Asj jobq pty how still h =
    let n = still h.sbs h.sbsd h.started (ap (is_in_sbs h.sbs.sbsd) h.is_how ∙ own_name h.sbs.sbsd) h.described in
    record {
      sbs = n.0;
      sbsd = h.sbsd;
      route = h.route;
      started = n.1;
      described = n.3;
      routed = h.routed;
      is_how = h.is_how ∙ ap (λ (q : QName). Auto q h.route.seq) (sym n.2);
    }
placed_still bs o cs p Pj jobq pty how still h =
    let n = still h.sbs h.sbsd h.started (ap (is_in_sbs h.sbs.sbsd) h.is_how ∙ own_name h.sbs.sbsd) h.described in
    record {
      sbs = n.0;
      sbsd = h.sbsd;
      entry = h.entry;
      started = n.1;
      described = n.3;
      entered = h.entered;
      is_how = h.is_how ∙ ap (λ (q : QName). Pre q h.entry.pgm) (sym n.2);
    }

pub some_there : {X : Type 0} (o : Option X) (x : X) → o ≡ Some x → is_some o ≡ true
some_there o x e = ap is_some e

-- so where one more subsystem starts, where the subsystems end, and where objects change
pub longer : (s : State) (b : Sbs) (how : How) → IsStillNamed s.started s.objects (s.started ++ b ∷ []) s.objects how
longer s b how x d i its k = (x, in_longer s.started b x i, refl, k)

pub ending : (s : State) (started : List Sbs) (how : How) → AreEnded s.started started → IsStillNamed s.started s.objects started s.objects how
ending s started how e x d i its k =
    let m = e.after x i in
    let same = m.2 in
    (m.0, m.1, same.named, ap (λ (q : QName). object_named q s.objects.sbsds) same.named ∙ k)

ended_placed : (s : State) (change : Job → Job) (started : List Sbs) (stopped : List Stop) (evokes : List Evoke) (power : Power) → IsEnding s change started power → ActiveHaveCome s → ActiveHaveCome (wished s change started stopped evokes power)
ended_placed s change started stopped evokes power e h k i a =
    let m = of_mapped change s.jobs k i in
    let j = m.0 in
    let active : is_active j.phase ≡ true = was_active j.phase (change j).phase (e.jobs.phase j) (ap (λ (x : Job). is_active x.phase) (sym m.2) ∙ a) in
    let placed = placed_still s.started s.objects started s.objects j.kind j.jobq j.pty j.how (ending s started j.how e.subsystems) (h j m.1 active) in
    subst (λ (x : Job). HasCome started s.objects x.kind x.jobq x.pty x.how) (sym (m.2 ∙ e.jobs.same j)) placed

pub remade : (s : State) (o : Objects) (how : How) → IsObjectChange s o → IsStillNamed s.started s.objects s.started o how
remade s o how c x d i its k = (x, i, refl, c.described x i (some_there (object_named x.sbsd s.objects.sbsds) d k) ∙ k)

calls_place : (s : State) → IsNumbered s → ActiveHaveCome s → HoldsOfStates ActiveHaveCome s
calls_place s n h = record {
  stays = h;
  starts = λ q e. autos_made ActiveHaveCome s q e (auto_placed q) (λ j i a. placed_still s.started s.objects _ _ j.kind j.jobq j.pty j.how (longer s (record { sbsd = q; phase = Active }) j.how) (h j i a));
  supplies = record { makes = pre_placed; assigns = λ t q pgm job evokes can k. ended_placed t (active_at job.serial with_evoke) t.started t.stopped evokes t.power (use_ends t q pgm job can.there can.idle) k };
  enters = λ user c d due has. last_placed s (submitted_job s user c d due) (λ a. absurd (cc)) h;
  alters = λ change place a. altered_placed s change place a h;
  holds = λ held a. h;
  lists = λ stopped evokes. h;
  moves = λ serial j phase stopped i e r k. moved_placed s serial j phase n h i e r.onward;
  ends = λ change started stopped evokes power e. ended_placed s change started stopped evokes power e h;
  makes = λ o c j i a. placed_still s.started s.objects _ _ j.kind j.jobq j.pty j.how (remade s o j.how c) (h j i a);
}

-- a subsystem with an active job doesn't leave
stays_started : (s : State) (j : Job) → IsIn j s.jobs → is_active j.phase ≡ true → IsStillNamed s.started s.objects (leave s).started s.objects j.how
stays_started s j i a x d m its k =
    let both : (is_active j.phase && is_in_sbs x.sbsd j.how) ≡ true = ap (λ (b : Bool). b && is_in_sbs x.sbsd j.how) a ∙ its in
    let more = counted (λ (y : Job). is_active y.phase && is_in_sbs x.sbsd y.how) s.jobs j i both in
    (x, in_left (λ (y : Sbs). not (is_gone s.jobs y)) s.started x (not_both (is_ending x.phase) (count_in_sbs x.sbsd s.jobs == 0) (not_zero (count_in_sbs x.sbsd s.jobs) more)) m, refl, k)

left_placed : (s : State) → ActiveHaveCome s → ActiveHaveCome (leave s)
left_placed s h j i a = placed_still s.started s.objects (leave s).started s.objects j.kind j.jobq j.pty j.how (stays_started s j i a) (h j i a)

parts : IsKeptByParts IsSettled
parts = record {
  clock = λ s moment h. (clock_keeps s moment h.0, h.1);
  calls = λ s h. both_hold IsNumbered (λ t. HasQueues t × ActiveHaveCome t) s (calls s h.0) (both_hold HasQueues ActiveHaveCome s (queued_calls s h.1.0) (calls_place s h.0 h.1.1));
  leaves = λ s h. (only_started s h.0, (h.1.0, left_placed s h.1.1));
  launches = launches_placed;
}

pub step_keeps_places : (s : State) (caller : ℕ) (call : Call) (moment : ℕ) → IsNumbered s → HasQueues s → ActiveHaveCome s → ActiveHaveCome (step s caller call moment).state
step_keeps_places s caller call moment n q h = (step_keeps IsSettled parts s caller call moment (n, (q, h))).1.1
