-- Calls in range keep the ranges of a state.
use Rattle.std.proofs.Common.{◌≡◌, ◌⊎◌, ◌<◌, ◌==◌, ◌^◌, ℕ, true, nat_le, nat_lt, unwrap_or, List, length, map, Option, Some, None, refl, sym, ap, subst, ◌∙◌, inl, inr, arith}
use Rattle.std.specs.Option.{IfSome, IsSome}
use Rattle.std.proofs.lemmas.Bool.{and_parts}
use Rattle.std.proofs.lemmas.Bool.Decides.{nat_tests}
use Rattle.wm_base.specs.Name.{IsName}
use Rattle.wm_base.specs.Text.{IsText}
use Rattle.wm_base.specs.declared.job.EndCause.{EndCause}
use Rattle.wm_base.specs.declared.qname.QName.{QName}
use Rattle.wm_base.proofs.Tests.{of_four}
use Rattle.wm_desc.specs.Ranges.{jobd_in_range, request_in_range, within}
use Rattle.wm_desc.specs.Table.{object_named}
use Rattle.wm_desc.specs.declared.description.Jobd.{Jobd}
use Rattle.wm_desc.specs.declared.objects.Objects.{Objects}
use Rattle.wm_law.specs.Counts.{is_waiting}
use Rattle.wm_law.specs.Fit.{IsBetween, IsCall, IsQName, IsSubmission, IsTextOf}
use Rattle.wm_law.specs.Jobs.{active_at, changed_at}
use Rattle.wm_law.specs.Machine.{apply}
use Rattle.wm_law.specs.Prestarting.{without_stop}
use Rattle.wm_law.specs.Ranges.{IsCause}
use Rattle.wm_law.specs.Reports.{in_phase, with_kill, with_phase}
use Rattle.wm_law.specs.Sound.{IsSound}
use Rattle.wm_law.specs.Submitting.{numbers_end, or_described, queue_of, serials_end, submitted_job}
use Rattle.wm_law.specs.declared.call.Call.{Call}
use Rattle.wm_law.specs.declared.command.Sbmjob.{Sbmjob}
use Rattle.wm_law.specs.declared.job.Job.{Job}
use Rattle.wm_law.specs.declared.job.JobKind.{JobKind}
use Rattle.wm_law.specs.declared.job.JobKind.TheVariants.{Bch}
use Rattle.wm_law.specs.declared.job.Phase.{Phase}
use Rattle.wm_law.specs.declared.job.Phase.TheVariants.{Waiting, Starting, Handed, Running, Ended}
use Rattle.wm_law.specs.declared.state.Evoke.{Evoke}
use Rattle.wm_law.specs.declared.state.State.{State}
use Rattle.wm_law.specs.declared.state.Stop.{Stop}
use Rattle.wm_law.proofs.Alterations.{IsAltered, IsAlteration, IsEndOnQueue, KeepAll, KeepsRanges}
use Rattle.wm_law.proofs.Endings.{wishing_kill}
use Rattle.wm_law.proofs.Moves.{HoldsAfterCalls, IsAcceptable, call_comes, prestart_keeps, started_keeps}
use Rattle.wm_law.proofs.RangedMoments.{due_within}
use Rattle.wm_rows.specs.Stored.{IsPhase, IsQueue, IsRequest, stored_of, stored_phase}
use Rattle.wm_tables.specs.Ranges.{IsInRange, IsJobInRange}
use Rattle.wm_tables.specs.Restart.{IsOfKind}
use Rattle.wm_tables.proofs.RangedJobs.{AreJobs, jobs_last, jobs_mapped, jobs_still, phased}
use Rattle.wm_tables.proofs.RangedLaunches.{at_one, autos_range, data_length, described_in, request_text}
use Rattle.wm_tables.proofs.RangedSupplies.{supplies_range, wished_range}

-- the jobs change, and nothing else that has a range
with_jobs : (s : State) (jobs : List Job) (place : ℕ) → AreJobs s.objects jobs → IsInRange s → IsInRange (record s { jobs = jobs; next_place = place })
with_jobs s jobs place h r = record { objects = r.objects; held = r.held; jobs = h; clock = r.clock }

-- a job of a serial comes to another phase
phase_range : (s : State) (serial : ℕ) (phase : Phase) → IsPhase (stored_phase phase) → IsInRange s → IsInRange (with_phase s serial phase)
phase_range s serial phase h r =
    with_jobs s (map (changed_at serial (in_phase phase)) s.jobs) s.next_place
    (jobs_mapped s.objects (changed_at serial (in_phase phase)) s.jobs (λ j i x. at_one s.objects j (in_phase phase j) (j.serial == serial) x (phased s.objects j (in_phase phase j) refl h x)) r.jobs)
    r

cause_range : (p : Phase) → ((c : EndCause) → p ≡ Ended c → IsCause c) → IsPhase (stored_phase p)
cause_range Waiting h = tt
cause_range Starting h = tt
cause_range (Handed m) h = tt
cause_range (Running m) h = tt
cause_range (Ended c) h = h c refl

-- stopped entries have no range, and neither have requests that wait
with_lists : (s : State) (stopped : List Stop) (evokes : List Evoke) → IsInRange s → IsInRange (record s { stopped = stopped; evokes = evokes })
with_lists s stopped evokes r = record { objects = r.objects; held = r.held; jobs = r.jobs; clock = r.clock }

-- Waiting jobs that are altered

altered_phase : (p : Phase) → (is_waiting p ≡ true) ⊎ IsEndOnQueue p → IsPhase (stored_phase p)
altered_phase p (inl w) = cause_range p (λ c e. (let no = ap is_waiting e in absurd (cc)))
altered_phase p (inr e) = subst (λ (x : Phase). IsPhase (stored_phase x)) (sym e.1) e.3

altered_queue : (was is : Option QName) → ((q : QName) → is ≡ Some q → (was ≡ Some q) ⊎ IsQName q) → IsQueue was → IsQueue is
altered_queue was None h r = tt
altered_queue was (Some q) h r = elim (h q refl) as (λ _. IsName q.lib × IsName q.name) [ inl same ↦ subst IsQueue same r | inr new ↦ (new.lib, new.name) ]

same_some : (a b : QName) → Some a ≡ Some b → a ≡ b
same_some a b e = cc

altered_there : (o : Objects) (was is : Option QName) → (IsSome was → IsSome is) → ((q : QName) → is ≡ Some q → (was ≡ Some q) ⊎ IsSome (object_named q o.jobqs)) → (q : QName) × (was ≡ Some q) × IsSome (object_named q o.jobqs) → (q : QName) × (is ≡ Some q) × IsSome (object_named q o.jobqs)
altered_there o was None keeps h k = let there = keeps (subst (λ (x : Option QName). IsSome x) (sym k.1) refl) in absurd (cc)
altered_there o was (Some q) keeps h k = (
  q,
  refl,
  elim (h q refl) as (λ _. IsSome (object_named q o.jobqs)) [ inl same ↦ subst (λ (n : QName). IsSome (object_named n o.jobqs)) (same_some k.0 q (sym k.1 ∙ same)) k.2 | inr there ↦ there ],
)

altered_place : (n m next : ℕ) → (n ≡ m) ⊎ (n ≡ next) → m < 2 ^ 64 → next < 2 ^ 64 → n < 2 ^ 64
altered_place n m next (inl e) h g = subst (λ (x : ℕ). x < 2 ^ 64) (sym e) h
altered_place n m next (inr e) h g = subst (λ (x : ℕ). x < 2 ^ 64) (sym e) g

altered_job : (s : State) (j k : Job) → IsAltered s j k → KeepsRanges s j k → j.kind ≡ Bch → s.next_place < 2 ^ 64 → IsJobInRange s.objects j → IsJobInRange s.objects k
altered_job s j k a keeps bch next r =
    let h = r.stored in
    let pty = keeps.pty (record { least = h.pty_least; most = h.pty_most }) in
    subst (IsJobInRange s.objects) (sym keeps.same)
    (record {
      stored = record {
        serial = h.serial;
        number_least = h.number_least;
        number_most = h.number_most;
        user = h.user;
        name = h.name;
        jobq = altered_queue j.jobq k.jobq keeps.jobq h.jobq;
        pty_least = pty.least;
        pty_most = pty.most;
        place = altered_place k.place j.place s.next_place keeps.place h.place next;
        rtgdta = h.rtgdta;
        rqsdta = h.rqsdta;
        due = keeps.due h.due;
        phase = altered_phase k.phase a.phase;
      };
      lengths = record { rtgdta = r.lengths.rtgdta; rqsdta = r.lengths.rqsdta };
      kind = subst (λ (x : JobKind). IsOfKind s.objects x (stored_of (record j { jobq = k.jobq; pty = k.pty; place = k.place; held = k.held; due = k.due; phase = k.phase }))) (sym bch)
          (altered_there s.objects j.jobq k.jobq a.queue a.is_object (subst (λ (x : JobKind). IsOfKind s.objects x (stored_of j)) bch r.kind));
    })

altered_jobs : (s : State) (change : Job → Job) (place : ℕ) → IsAlteration s change place → KeepAll s change → IsSound s → IsInRange s → AreJobs s.objects (map change s.jobs)
altered_jobs s change place a keeps sound r =
    let most = sound.numbered.next_place.most in
    let next : s.next_place < 2 ^ 64 = omega arith in
    jobs_mapped s.objects change s.jobs
    (λ j i x. elim (a.each j) as (λ _. IsJobInRange s.objects (change j)) [
      | inl same ↦ subst (IsJobInRange s.objects) (sym same) x
      | inr b ↦ altered_job s j (change j) b (keeps j) ((sound.queues j i).waits b.waits) next x
    ])
    r.jobs

-- Submitted jobs

or_by : {V : Type 0} (P : V → Type 0) (wanted : Option V) (v : V) → IfSome wanted P → P v → P (unwrap_or wanted v)
or_by P None v w h = h
or_by P (Some n) v w h = w

request_or : (wanted inside : Option (List ℕ)) → IfSome wanted (IsTextOf 0 1000) → IsRequest inside → IsRequest (or_described wanted inside)
request_or None inside w h = h
request_or (Some t) inside w h = w.text

length_or : (wanted inside : Option (List ℕ)) → IfSome wanted (IsTextOf 0 1000) → request_in_range inside ≡ true → request_in_range (or_described wanted inside) ≡ true
length_or None inside w h = h
length_or (Some t) inside w h = let most = w.most in grind (arith, nat_tests)

submitted_range : (s : State) (user : List ℕ) (c : Sbmjob) (d : Jobd) (due : ℕ) → IsAcceptable s c d due → IsName user → IsSubmission c → IsSound s → IsInRange s → IsJobInRange s.objects (submitted_job s user c d due)
submitted_range s user c d due can name fit sound r =
    let m = described_in c.jobd s.objects.jobds d can.described in
    let described = r.objects.jobds m.0 m.1 in
    let text : IsText d.rtgdta = subst (λ (x : Jobd). IsText x.rtgdta) m.2 described.rtgdta in
    let request : IfSome d.rqsdta IsText = subst (λ (x : Jobd). IfSome x.rqsdta IsText) m.2 described.rqsdta in
    let jobq : IsQName d.jobq = subst (λ (x : Jobd). IsQName x.jobq) m.2 described.jobq in
    let priority : IsBetween 1 9 d.pty = subst (λ (x : Jobd). IsBetween 1 9 x.pty) m.2 described.jobpty in
    let ranges : jobd_in_range d ≡ true = subst (λ (x : Jobd). jobd_in_range x ≡ true) m.2 described.ranges in
    let parts = and_parts (within 1 80 (length d.rtgdta)) (request_in_range d.rqsdta) ranges in
    let long = data_length 1 80 (length d.rtgdta) parts.0 in
    let rtgdta = or_by (IsTextOf 1 80) c.rtgdta d.rtgdta fit.rtgdta (record { text = text; least = long.least; most = long.most }) in
    let pty = or_by (IsBetween 1 9) c.jobpty d.pty fit.jobpty priority in
    let q = or_by IsQName c.jobq d.jobq fit.jobq jobq in
    let tests = of_four (nat_le 1 s.next_number) (nat_lt s.next_number numbers_end) (nat_lt s.next_serial serials_end) (nat_lt s.next_place serials_end) can.numbers in
    let left : nat_lt s.next_number numbers_end ≡ true = tests.1 in
    let number : s.next_number < numbers_end = grind (arith, nat_tests) in
    let least = sound.numbered.next_number.least in
    let serial = sound.numbered.next_serial.most in
    let place = sound.numbered.next_place.most in
    record {
      stored = record {
        serial = omega arith;
        number_least = least;
        number_most = omega arith;
        user = name;
        name = or_by IsName c.job c.jobd.name fit.job fit.jobd.name;
        jobq = (q.lib, q.name);
        pty_least = pty.least;
        pty_most = pty.most;
        place = omega arith;
        rtgdta = rtgdta.text;
        rqsdta = request_or c.rqsdta d.rqsdta fit.rqsdta (request_text d.rqsdta request);
        due = due_within s c.scddate c.scdtime due can.scheduled;
        phase = tt;
      };
      lengths = record { rtgdta = record { least = rtgdta.least; most = rtgdta.most }; rqsdta = length_or c.rqsdta d.rqsdta fit.rqsdta parts.1 };
      kind = (queue_of c d, refl, can.queue);
    }

-- What a call comes to

comes : (s : State) (call : Call) → IsCall call → IsSound s → IsInRange s → HoldsAfterCalls (λ t. IsInRange t.state) s call
comes s call fit sound r = record {
  refuses = λ x. r;
  nothing = λ n. r;
  notes = r;
  hands = λ m j o i k e. phase_range s j.serial (Handed m) tt r;
  reports = λ serial j phase stopped i k m n ends. with_lists (with_phase s serial phase) stopped.stops s.evokes (phase_range s serial phase (cause_range phase (ends fit)) r);
  starts = λ q can. started_keeps IsInRange s q can supplies_range (autos_range s q can sound.numbered.next_number.least r);
  enters = λ user c d due can submits. record { objects = r.objects; held = r.held; jobs = jobs_last s.objects s.jobs (submitted_job s user c d due) r.jobs (submitted_range s user c d due can (submits fit).0 (submits fit).1 sound r); clock = r.clock };
  alters = λ reply change place p a keeps. with_jobs s (map change s.jobs) place (altered_jobs s change place a (keeps fit (λ j i. (r.jobs j i).stored.due)) sound r) r;
  holds = λ reply held p a told keeps. record { objects = r.objects; held = λ q i. (elim (keeps fit q i) as (λ _. IsQName q) [ inl was ↦ r.held q was | inr new ↦ new ]); jobs = r.jobs; clock = r.clock };
  ends = λ reply change started stopped evokes power p e told kept. wished_range s change started stopped.stops evokes.requests power e.jobs r;
  uses = λ reply change p u. wished_range s change s.started s.stopped s.evokes s.power u.ending.jobs r;
  waits = λ place evokes is. with_lists s s.stopped evokes.requests r;
  prestarts = λ q d e can. prestart_keeps IsInRange s q d e can supplies_range (with_lists s (without_stop q e.pgm s.stopped) s.evokes r);
  kills = λ m j i k. wished_range s (active_at j.serial with_kill) s.started s.stopped s.evokes s.power (wishing_kill j.serial) r;
  makes = λ o c told keeps. record { objects = keeps fit r.objects; held = r.held; jobs = jobs_still s.objects o s.jobs c.jobqs r.jobs; clock = r.clock };
}

pub apply_keeps : (s : State) (caller : ℕ) (call : Call) → IsCall call → IsSound s → IsInRange s → IsInRange (apply s caller call).state
apply_keeps s caller call h sound r = call_comes (λ t. IsInRange t.state) s caller call (comes s call h sound r)
