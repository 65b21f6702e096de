-- Only submitted jobs wait, and the queues of jobs and the held ones stay objects.
use Rattle.std.proofs.Common.{◌≡◌, ℕ, ℤ, ◌++◌, ◌==◌, not, Bool, true, false, cond, List, [], ◌∷◌, map, Option, Some, None, refl, sym, subst, ◌∙◌, inl, inr, arith}
use Rattle.std.specs.List.{find}
use Rattle.std.specs.Option.{IsSome}
use Rattle.std.specs.declared.cmp.Ordering.TheVariants.{Less}
use Rattle.std.proofs.lemmas.List.Kept.{AllPairs-filter}
use Rattle.wm_base.specs.declared.qname.QName.{QName}
use Rattle.wm_base.specs.Iterate.{IsKept}
use Rattle.wm_base.proofs.Tests.{Some-injective}
use Rattle.wm_desc.specs.declared.description.Jobd.{Jobd}
use Rattle.wm_desc.specs.declared.entry.AutoEntry.{AutoEntry}
use Rattle.wm_desc.specs.declared.objects.Objects.{Objects}
use Rattle.wm_desc.proofs.Tables.{qname_ties, qname_total}
use Rattle.wm_desc.specs.Sorted.{place_of}
use Rattle.wm_desc.specs.Table.{object_named, qname_cmp, same_qname}
use Rattle.wm_law.specs.declared.call.Call.{Call}
use Rattle.wm_law.specs.declared.choice.Candidate.{Candidate}
use Rattle.wm_law.specs.declared.command.Sbmjob.{Sbmjob}
use Rattle.wm_law.specs.declared.job.Job.{Job}
use Rattle.wm_law.specs.declared.job.JobKind.TheVariants.{Bch, Asj}
use Rattle.wm_law.specs.declared.job.Phase.{Phase}
use Rattle.wm_law.specs.declared.state.State.{State}
use Rattle.wm_law.specs.Autos.{auto_job, routed_auto}
use Rattle.wm_law.specs.Choice.{next}
use Rattle.wm_law.specs.Counts.{is_waiting}
use Rattle.wm_law.specs.Jobs.{changed_at, active_at}
use Rattle.wm_law.specs.Launch.{as_auto, as_launched, launch, with_routed, routed_from_queue}
use Rattle.wm_law.specs.Laws.{IsIn}
use Rattle.wm_law.specs.Machine.{step}
use Rattle.wm_law.specs.Opening.{opening}
use Rattle.wm_law.specs.Queues.{own_name}
use Rattle.wm_law.specs.Reports.{in_phase}
use Rattle.wm_law.specs.Sound.{AreQueues, HasAutoValues, HasQueues, IsQueued}
use Rattle.wm_law.specs.Submitting.{queue_of, submitted_job}
use Rattle.wm_law.proofs.Alterations.{IsAlteration, IsAltered, IsHolding, each_altered}
use Rattle.wm_law.proofs.Endings.{IsWishing, key_same, was_waiting, using}
use Rattle.wm_law.proofs.InOrder.{in_inserted, sorted_added}
use Rattle.wm_law.proofs.Members.{left_in, of_last, of_mapped}
use Rattle.wm_law.proofs.Moves.{HoldsOfStates, IsAcceptable, IsKeptByParts, never_waits, step_keeps, autos_made}
use Rattle.wm_law.proofs.Opened.{opened, opening_is}
use Rattle.wm_law.proofs.Settling.{launch_never_waits, not_waiting}
use Rattle.wm_law.specs.Prestart.{new_pre_job, with_evoke}

-- a change leaves a job its kind, its queue and its other values, and after it the job doesn't wait
record KeepsQueue (change : Job → Job) : Type 0 where
  kind : (j : Job) → (change j).kind ≡ j.kind
  jobq : (j : Job) → (change j).jobq ≡ j.jobq
  values : (j : Job) → HasAutoValues j → HasAutoValues (change j)
  never : (j : Job) → is_waiting (change j).phase ≡ false

queued_changed : (o : Objects) (change : Job → Job) (j : Job) → KeepsQueue change → IsQueued o j → IsQueued o (change j)
queued_changed o change j k h = record {
  waits = λ w. (let no = k.never j in absurd (cc));
  has_queue = λ b. subst (λ (q : Option QName). IsSome q) (sym (k.jobq j)) (h.has_queue (sym (k.kind j) ∙ b));
  is_object = λ q e. h.is_object q (sym (k.jobq j) ∙ e);
  auto = λ a. k.values j (h.auto (sym (k.kind j) ∙ a));
}

queued_at : (o : Objects) (change : Job → Job) (t : Bool) (j : Job) → KeepsQueue change → IsQueued o j → IsQueued o (cond t (change j) j)
queued_at o change true j k h = queued_changed o change j k h
queued_at o change false j k h = h

-- each job of a list is queued
abbrev AllQueued : Objects → List Job → Type 0
AllQueued o jobs = (j : Job) → IsIn j jobs → IsQueued o j

all_changed : (o : Objects) (jobs : List Job) (serial : ℕ) (change : Job → Job) → KeepsQueue change → AllQueued o jobs → AllQueued o (map (changed_at serial change) jobs)
all_changed o jobs serial change k h i m =
    let f = of_mapped (changed_at serial change) jobs i m in
    subst (IsQueued o) (sym f.2) (queued_at o change (f.0.serial == serial) f.0 k (h f.0 f.1))

-- so it is where wishes change
wished_queued : (o : Objects) (change : Job → Job) → IsWishing change → (j : Job) → IsQueued o j → IsQueued o (change j)
wished_queued o change e j h =
    let kind = key_same change e (λ (x : Job). x.kind) (λ x p w u e. refl) j in
    let jobq = key_same change e (λ (x : Job). x.jobq) (λ x p w u e. refl) j in
    record {
      waits = λ w. kind ∙ h.waits (was_waiting j.phase (change j).phase (e.phase j) w);
      has_queue = λ b. subst (λ (q : Option QName). IsSome q) (sym jobq) (h.has_queue (sym kind ∙ b));
      is_object = λ q f. h.is_object q (sym jobq ∙ f);
      auto = λ a. (
          let v = h.auto (sym kind ∙ a) in
          record {
            jobq = jobq ∙ v.jobq;
            pty = key_same change e (λ (x : Job). x.pty) (λ x p w u e. refl) j ∙ v.pty;
            place = key_same change e (λ (x : Job). x.place) (λ x p w u e. refl) j ∙ v.place;
            held = key_same change e (λ (x : Job). x.held) (λ x p w u e. refl) j ∙ v.held;
          });
    }

all_wished : (o : Objects) (jobs : List Job) (change : Job → Job) → IsWishing change → AllQueued o jobs → AllQueued o (map change jobs)
all_wished o jobs change e h i m =
    let f = of_mapped change jobs i m in
    subst (IsQueued o) (sym f.2) (wished_queued o change e f.0 (h f.0 f.1))

submitted_queued : (s : State) (user : List ℕ) (c : Sbmjob) (d : Jobd) (due : ℕ) → IsAcceptable s c d due → IsQueued s.objects (submitted_job s user c d due)
submitted_queued s user c d due a = record {
  waits = λ w. refl;
  has_queue = λ b. refl;
  is_object = λ q e. subst (λ (n : QName). IsSome (object_named n s.objects.jobqs)) (Some-injective (queue_of c d) q e) a.queue;
  auto = λ k. absurd (cc);
}

-- an altered job was submitted, and its queue is an object
altered_queued : (s : State) (j k : Job) → IsAltered s j k → IsQueued s.objects j → IsQueued s.objects k
altered_queued s j k a h = record {
  waits = λ w. a.kind ∙ h.waits a.waits;
  has_queue = λ b. a.queue (h.has_queue (sym a.kind ∙ b));
  is_object = λ q e. (elim (a.is_object q e) as (λ _. IsSome (object_named q s.objects.jobqs)) [ inl was ↦ h.is_object q was | inr there ↦ there ]);
  auto = λ b. (let kinds : Bch ≡ Asj = sym (h.waits a.waits) ∙ sym a.kind ∙ b in absurd (cc));
}

all_altered : (s : State) (change : Job → Job) (place : ℕ) → IsAlteration s change place → HasQueues s → AllQueued s.objects (map change s.jobs)
all_altered s change place a h = each_altered (IsQueued s.objects) s change place a h (λ j k i b. altered_queued s j k b (h j i))

-- an autostart job doesn't wait, and has no queue
auto_queued : (q : QName) (s : State) (e : AutoEntry) (d : Jobd) → IsQueued s.objects (routed_auto s q (auto_job s e d))
auto_queued q s e d = record {
  waits = λ w. (let no = launch_never_waits s q (as_auto q) (auto_job s e d) in absurd (cc));
  has_queue = λ b. absurd (cc);
  is_object = λ n f. absurd (cc);
  auto = λ a. record { jobq = refl; pty = refl; place = refl; held = refl };
}

-- nor has a prestart job
pre_queued : (q : QName) (s : State) (pgm : QName) → IsQueued s.objects (new_pre_job s q pgm)
pre_queued q s pgm = record {
  waits = λ w. absurd (cc);
  has_queue = λ b. absurd (cc);
  is_object = λ n f. absurd (cc);
  auto = λ a. absurd (cc);
}

last_queued : (o : Objects) (jobs : List Job) (last : Job) → IsQueued o last → AllQueued o jobs → AllQueued o (jobs ++ last ∷ [])
last_queued o jobs last q h j i =
    elim (of_last jobs last j i) as (λ _. IsQueued o j) [ inl m ↦ h j m | inr same ↦ subst (IsQueued o) (sym same) q ]

moved_queued : (s : State) (serial : ℕ) (phase : Phase) → is_waiting phase ≡ false → HasQueues s → AllQueued s.objects (map (changed_at serial (in_phase phase)) s.jobs)
moved_queued s serial phase n h = all_changed s.objects s.jobs serial (in_phase phase) (record { kind = λ j. refl; jobq = λ j. refl; values = λ j v. record { jobq = v.jobq; pty = v.pty; place = v.place; held = v.held }; never = λ j. n }) h

queued_still : (a b : Objects) (j : Job) → ((q : QName) → IsSome (object_named q a.jobqs) → IsSome (object_named q b.jobqs)) → IsQueued a j → IsQueued b j
queued_still a b j still h = record { waits = h.waits; has_queue = h.has_queue; is_object = λ q e. still q (h.is_object q e); auto = h.auto }

launched_queued : (s : State) (c : Candidate) (o : Option Job) → HasQueues s → HasQueues (with_routed s c o)
launched_queued s c None h = h
launched_queued s c (Some j) h = all_changed s.objects s.jobs c.serial (as_launched (routed_from_queue s c.sbs c.jobq j)) (record { kind = λ k. refl; jobq = λ k. refl; values = λ k v. record { jobq = v.jobq; pty = v.pty; place = v.place; held = v.held }; never = λ k. not_waiting s c.sbs c.jobq j }) h

pub queued_calls : (s : State) → HasQueues s → HoldsOfStates HasQueues s
queued_calls s h = record {
  stays = h;
  starts = λ q e. autos_made HasQueues s q e (λ t x d m k. last_queued t.objects t.jobs (routed_auto t q (auto_job t x d)) (auto_queued q t x d) k) h;
  supplies = record {
    makes = λ q d e t can k. last_queued t.objects t.jobs (new_pre_job t q e.pgm) (pre_queued q t e.pgm) k;
    assigns = λ t q pgm job evokes can k. all_wished t.objects t.jobs (active_at job.serial with_evoke) (using job.serial) k;
  };
  enters = λ user c d due a. last_queued s.objects s.jobs (submitted_job s user c d due) (submitted_queued s user c d due a) h;
  alters = λ change place a. all_altered s change place a h;
  holds = λ held a. h;
  lists = λ stopped evokes. h;
  moves = λ serial j phase stopped i e r n. moved_queued s serial phase (never_waits j.phase phase r.onward) h;
  ends = λ change started stopped evokes power e. all_wished s.objects s.jobs change e.jobs h;
  makes = λ o c j i. queued_still s.objects o j c.jobqs (h j i);
}

pub launches_queued : IsKept next (λ c t. launch t c) HasQueues
launches_queued = record { by_step = λ s c e h. launched_queued s c (find (λ (j : Job). j.serial == c.serial) s.jobs) h }

pub queued_parts : IsKeptByParts HasQueues
queued_parts = record { clock = λ s moment h. h; calls = queued_calls; leaves = λ s h. h; launches = launches_queued }

pub step_keeps_queues : (s : State) (caller : ℕ) (call : Call) (moment : ℕ) → HasQueues s → HasQueues (step s caller call moment).state
step_keeps_queues s caller call moment h = step_keeps HasQueues queued_parts s caller call moment h

none_queued : (offset : ℤ) → HasQueues (opened offset)
none_queued offset j i = absurd i

pub opening_has_queues : (offset : ℤ) → HasQueues (opening offset)
opening_has_queues offset = subst HasQueues (sym (opening_is offset)) (none_queued offset)

-- the held queues are such
abbrev HoldsQueues : State → Type 0
HoldsQueues s = AreQueues s.objects s.held

launched_held : (s : State) (c : Candidate) (o : Option Job) → HoldsQueues s → HoldsQueues (with_routed s c o)
launched_held s c None h = h
launched_held s c (Some j) h = h

-- one more held queue goes to its place, or one goes
still_queues : (s : State) (held : List QName) → IsHolding s held → HoldsQueues s → AreQueues s.objects held
still_queues s held (inl x) h =
    let place = place_of own_name qname_cmp x.queue s.held in
    subst (AreQueues s.objects) (sym x.is_with) (record {
      sorted = sorted_added own_name qname_cmp qname_total same_qname qname_ties x.queue s.held h.sorted x.new;
      are_objects = λ q i. (elim (in_inserted s.held place x.queue q i) as (λ _. IsSome (object_named q s.objects.jobqs)) [
        | inl same ↦ subst (λ (n : QName). IsSome (object_named n s.objects.jobqs)) (sym same) x.is_object
        | inr was ↦ h.are_objects q was
      ]);
    })
still_queues s held (inr x) h =
    let stays = λ (q : QName). not (same_qname q x.queue) in
    subst (AreQueues s.objects) (sym x.is_without) (record {
      sorted = AllPairs-filter (λ (a b : QName). qname_cmp a b ≡ Less) stays s.held h.sorted;
      are_objects = λ q i. h.are_objects q (left_in stays s.held q i);
    })

held_calls : (s : State) → HoldsQueues s → HoldsOfStates HoldsQueues s
held_calls s h = record {
  stays = h;
  starts = λ q e. autos_made HoldsQueues s q e (λ t x d m k. k) h;
  supplies = record { makes = λ q d e t can k. k; assigns = λ t q pgm job evokes can k. k };
  enters = λ user c d due a. h;
  alters = λ change place a. h;
  holds = λ held a. still_queues s held a h;
  lists = λ stopped evokes. h;
  moves = λ serial j phase stopped i e r n. h;
  ends = λ change started stopped evokes power e. h;
  makes = λ o c. record { sorted = h.sorted; are_objects = λ q i. c.jobqs q (h.are_objects q i) };
}

held_parts : IsKeptByParts HoldsQueues
held_parts = record {
  clock = λ s moment h. h;
  calls = held_calls;
  leaves = λ s h. h;
  launches = record { by_step = λ s c e h. launched_held s c (find (λ (j : Job). j.serial == c.serial) s.jobs) h };
}

pub step_keeps_held : (s : State) (caller : ℕ) (call : Call) (moment : ℕ) → HoldsQueues s → HoldsQueues (step s caller call moment).state
step_keeps_held s caller call moment h = step_keeps HoldsQueues held_parts s caller call moment h

none_held : (offset : ℤ) → HoldsQueues (opened offset)
none_held offset = record { sorted = λ i j d less within. absurd (omega arith); are_objects = λ q i. absurd i }

pub opening_holds_queues : (offset : ℤ) → HoldsQueues (opening offset)
opening_holds_queues offset = subst HoldsQueues (sym (opening_is offset)) (none_held offset)
