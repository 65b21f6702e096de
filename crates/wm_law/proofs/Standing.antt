-- Objects stay sound, and no more subsystems are started than may be.
use Rattle.std.proofs.Common.{◌≡◌, ℕ, ℤ, ◌≤◌, ◌++◌, ◌==◌, not, true, false, List, [], ◌∷◌, length, map, Option, Some, None, refl, sym, ap, subst, ◌∙◌, inl, inr, arith}
use Rattle.std.specs.Prelude.{nat_le}
use Rattle.std.specs.List.{find}
use Rattle.std.specs.Option.{IsSome}
use Rattle.std.specs.declared.cmp.Ordering.TheVariants.{Less}
use Rattle.std.proofs.lemmas.Bool.Decides.{nat_tests}
use Rattle.std.proofs.lemmas.List.{length-map, length_push}
use Rattle.std.proofs.lemmas.List.Elements.{All-cons, All-nil}
use Rattle.std.proofs.lemmas.List.Kept.{AllPairs-cons}
use Rattle.wm_base.specs.declared.qname.QName.{QName}
use Rattle.wm_base.proofs.Lists.{length-filter_few}
use Rattle.wm_desc.specs.declared.description.Jobd.{Jobd}
use Rattle.wm_desc.specs.declared.entry.QueueEntry.{QueueEntry}
use Rattle.wm_desc.specs.declared.entry.RouteEntry.{RouteEntry}
use Rattle.wm_desc.specs.Opening.{qbatch, qdftjobd}
use Rattle.wm_desc.specs.Refusals.{is_any}
use Rattle.wm_desc.specs.Table.{object_named, qname_cmp}
use Rattle.wm_law.specs.declared.call.Call.{Call}
use Rattle.wm_law.specs.declared.choice.Candidate.{Candidate}
use Rattle.wm_law.specs.declared.job.Job.{Job}
use Rattle.wm_law.specs.declared.state.Sbs.{Sbs}
use Rattle.wm_law.specs.declared.state.SbsPhase.TheVariants.{Active}
use Rattle.wm_law.specs.declared.state.State.{State}
use Rattle.wm_law.specs.Launch.{with_routed}
use Rattle.wm_law.specs.Laws.{IsIn}
use Rattle.wm_law.specs.Machine.{step}
use Rattle.wm_law.specs.Making.{jobd_of}
use Rattle.wm_law.specs.Objects.{AreSound, HasTables, IsDescription, IsProgram, IsTable}
use Rattle.wm_law.specs.Opening.{crtjobd_qbatch, crtjobd_qdftjobd, opening}
use Rattle.wm_law.specs.Settling.{is_gone}
use Rattle.wm_law.specs.Sound.{IsWithinStarted}
use Rattle.wm_law.specs.Subsystems.{max_started}
use Rattle.wm_law.proofs.Moves.{HoldsOfStates, IsKeptByParts, step_keeps, autos_made}
use Rattle.wm_law.proofs.Opened.{batch_sbsd, opened, opening_is, opening_objects}
use Rattle.wm_law.proofs.Opened.{only_sbsd}

-- the objects of a state are sound
abbrev HasSoundObjects : State → Type 0
HasSoundObjects s = AreSound s.objects

launched_sound : (s : State) (c : Candidate) (o : Option Job) → HasSoundObjects s → HasSoundObjects (with_routed s c o)
launched_sound s c None h = h
launched_sound s c (Some j) h = h

sound_calls : (s : State) → HasSoundObjects s → HoldsOfStates HasSoundObjects s
sound_calls s h = record {
  stays = h;
  starts = λ q e. autos_made HasSoundObjects s q e (λ t x d m k. k) h;
  supplies = record { makes = λ q d e t can k. k; assigns = λ t q pgm job evokes can k. k };
  enters = λ user c d due a. h;
  alters = λ change place a. h;
  holds = λ held a. h;
  lists = λ stopped evokes. h;
  moves = λ serial j phase stopped i e r n. h;
  ends = λ change started stopped evokes power e. h;
  makes = λ o c. c.sound h;
}

sound_parts : IsKeptByParts HasSoundObjects
sound_parts = record {
  clock = λ s moment h. h;
  calls = sound_calls;
  leaves = λ s h. h;
  launches = record { by_step = λ s c e h. launched_sound s c (find (λ (j : Job). j.serial == c.serial) s.jobs) h };
}

pub step_keeps_objects : (s : State) (caller : ℕ) (call : Call) (moment : ℕ) → AreSound s.objects → AreSound (step s caller call moment).state.objects
step_keeps_objects s caller call moment h = step_keeps HasSoundObjects sound_parts s caller call moment h

-- a table of one object
single : {V : Type 0} (object : QName × V) → IsTable (object ∷ [])
single object = record { sorted = λ i j d less within. absurd (omega arith); most = omega arith }

abbrev IsBefore : QName × Jobd → QName × Jobd → Type 0
IsBefore a b = qname_cmp a.0 b.0 ≡ Less

opening_jobds : IsTable opening_objects.jobds
opening_jobds =
    let second : List (QName × Jobd) = (qdftjobd, jobd_of crtjobd_qdftjobd) ∷ [] in
    record {
      sorted = AllPairs-cons IsBefore (qbatch, jobd_of crtjobd_qbatch) second (All-cons (IsBefore (qbatch, jobd_of crtjobd_qbatch)) (qdftjobd, jobd_of crtjobd_qdftjobd) [] refl (All-nil (IsBefore (qbatch, jobd_of crtjobd_qbatch)))) (single (qdftjobd, jobd_of crtjobd_qdftjobd)).sorted;
      most = omega arith;
    }

opening_tables : HasTables opening_objects
opening_tables = record { classes = single _; jobqs = single _; programs = single _; jobds = opening_jobds; sbsds = single _ }

only_queue : (e : QueueEntry) → IsIn e batch_sbsd.queues → IsSome (object_named e.jobq opening_objects.jobqs)
only_queue e (inl same) = subst (λ (x : QueueEntry). IsSome (object_named x.jobq opening_objects.jobqs)) (sym same) refl
only_queue e (inr none) = absurd none

only_program : (e : RouteEntry) → IsIn e batch_sbsd.routes → IsProgram opening_objects e.pgm
only_program e (inl same) = subst (λ (x : RouteEntry). IsProgram opening_objects x.pgm) (sym same) (inl refl)
only_program e (inr none) = absurd none

only_route : (e f : RouteEntry) → IsIn e batch_sbsd.routes → IsIn f batch_sbsd.routes → is_any e.cmp ≡ true → f.seq ≤ e.seq
only_route e f (inl a) (inl b) k =
    let same : f.seq ≡ e.seq = ap (λ (n : RouteEntry). n.seq) (b ∙ sym a) in
    omega arith
only_route e f (inl a) (inr none) k = absurd none
only_route e f (inr none) j k = absurd none

opening_description : IsDescription opening_objects batch_sbsd
opening_description = record {
  queues = record { sorted = λ i j d less within. absurd (omega arith); once = ((λ i. i), tt); queues = only_queue };
  routes = record { programs = only_program; any_last = only_route };
  autos = record { sorted = λ i j d less within. absurd (omega arith); jobds = λ e i. absurd i };
  pres = record { sorted = λ i j d less within. absurd (omega arith); programs = λ e i. absurd i; classes = λ e i. absurd i; related = λ e i. absurd i };
  sizes = record { queues = omega arith; routes = omega arith; autos = omega arith; pres = omega arith };
}

opened_sound : (offset : ℤ) → HasSoundObjects (opened offset)
opened_sound offset = record { tables = opening_tables; described = λ sbs d k. subst (IsDescription opening_objects) (sym (only_sbsd sbs d k)) opening_description }

pub opening_objects_are_sound : (offset : ℤ) → AreSound (opening offset).objects
opening_objects_are_sound offset = subst HasSoundObjects (sym (opening_is offset)) (opened_sound offset)

-- where there is room for one more
one_more : (bs : List Sbs) (b : Sbs) → nat_le max_started (length bs) ≡ false → length (bs ++ b ∷ []) ≤ max_started
one_more bs b h =
    let more = length_push bs b in
    let short : nat_le 32 (length bs) ≡ false = h in
    grind (arith, nat_tests)

launched_within : (s : State) (c : Candidate) (o : Option Job) → IsWithinStarted s → IsWithinStarted (with_routed s c o)
launched_within s c None h = h
launched_within s c (Some j) h = h

length_same : (bs cs : List Sbs) → map (λ (b : Sbs). b.sbsd) bs ≡ map (λ (b : Sbs). b.sbsd) cs → length bs ≡ length cs
length_same bs cs e = sym (length-map bs (λ (b : Sbs). b.sbsd)) ∙ ap (λ (qs : List QName). length qs) e ∙ length-map cs (λ (b : Sbs). b.sbsd)

within_calls : (s : State) → IsWithinStarted s → HoldsOfStates IsWithinStarted s
within_calls s h = record {
  stays = h;
  starts = λ q e. autos_made IsWithinStarted s q e (λ t x d m k. k) (one_more s.started (record { sbsd = q; phase = Active }) e.room);
  supplies = record { makes = λ q d e t can k. k; assigns = λ t q pgm job evokes can k. k };
  enters = λ user c d due a. h;
  alters = λ change place a. h;
  holds = λ held a. h;
  lists = λ stopped evokes. h;
  moves = λ serial j phase stopped i e r n. h;
  ends = λ change started stopped evokes power e. subst (λ (n : ℕ). n ≤ max_started) (sym (length_same started s.started e.subsystems.names)) h;
  makes = λ o c. h;
}

fewer_within : (s : State) (bs : List Sbs) → length bs ≤ length s.started → IsWithinStarted s → length bs ≤ max_started
fewer_within s bs fewer h = omega arith

within_parts : IsKeptByParts IsWithinStarted
within_parts = record {
  clock = λ s moment h. h;
  calls = within_calls;
  leaves = λ s h. fewer_within s _ (length-filter_few (λ (b : Sbs). not (is_gone s.jobs b)) s.started) h;
  launches = record { by_step = λ s c e h. launched_within s c (find (λ (j : Job). j.serial == c.serial) s.jobs) h };
}

pub step_keeps_within_started : (s : State) (caller : ℕ) (call : Call) (moment : ℕ) → IsWithinStarted s → IsWithinStarted (step s caller call moment).state
step_keeps_within_started s caller call moment h = step_keeps IsWithinStarted within_parts s caller call moment h

none_started : (offset : ℤ) → IsWithinStarted (opened offset)
none_started offset = let none : 0 ≤ 32 = omega arith in none

pub opening_is_within_started : (offset : ℤ) → IsWithinStarted (opening offset)
opening_is_within_started offset = subst IsWithinStarted (sym (opening_is offset)) (none_started offset)
