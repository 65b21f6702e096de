-- What commands on waiting jobs and on held queues do to a state.
use Rattle.std.proofs.Common.{◌≡◌, ◌⊎◌, ℕ, ◌<◌, ◌≤◌, ◌+◌, ◌&&◌, ◌==◌, Bool, true, false, cond, List, map, Option, Some, None, is_some, nat_lt, unwrap_or, refl, sym, ap, subst, ◌∙◌, inl, inr, arith}
use Rattle.std.specs.Option.{IfSome, IsSome, option_or}
use Rattle.std.proofs.lemmas.Bool.Decides.{nat_tests}
use Rattle.std.proofs.lemmas.Bool.{ltb-true, and_parts, eqb-true}
use Rattle.wm_base.specs.declared.job.EndCause.{EndCause}
use Rattle.wm_base.specs.declared.job.EndCause.TheVariants.{Cleared, EndedOnQueue}
use Rattle.wm_base.specs.declared.job.JobName.{JobName}
use Rattle.wm_base.specs.declared.qname.QName.{QName}
use Rattle.wm_base.specs.declared.refusal.Refusal.{Refusal}
use Rattle.wm_desc.specs.Sorted.{added, removed}
use Rattle.wm_desc.specs.Table.{object_named, qname_cmp, same_qname}
use Rattle.wm_law.specs.declared.call.Reply.{Reply}
use Rattle.wm_law.specs.declared.call.Reply.TheVariants.{Changed, Held, JobEnded, JobEnding, Made, No, Nothing, PowerDown, QueueCleared, QueueHeld, QueueReleased, Released, SbsEnding, PreEnding, Evoked, UseEnded, Noted, EvokeWaits}
use Rattle.wm_law.specs.declared.command.Chgjob.{Chgjob}
use Rattle.wm_law.specs.declared.job.Job.{Job}
use Rattle.wm_law.specs.declared.job.Phase.{Phase}
use Rattle.wm_law.specs.declared.job.Phase.TheVariants.{Waiting, Starting, Handed, Running, Ended}
use Rattle.wm_law.specs.declared.state.State.{State}
use Rattle.wm_law.specs.Changing.{finds_queue, moved_to, with_due}
use Rattle.wm_law.specs.Choice.{is_held}
use Rattle.wm_law.specs.Counts.{is_active, is_waiting}
use Rattle.wm_law.specs.History.{order_in}
use Rattle.wm_law.specs.Holding.{with_held}
use Rattle.wm_law.specs.Jobs.{waiting_at}
use Rattle.wm_law.specs.Laws.{IsIn}
use Rattle.wm_law.specs.Order.{is_routing_cause, is_routed_phase}
use Rattle.wm_law.specs.Queues.{cleared_from, is_on_queue, own_name, waits_on}
use Rattle.wm_law.specs.Reports.{in_phase}
use Rattle.wm_law.specs.Submitting.{serials_end}
use Rattle.wm_law.specs.Fit.{IsBetween, IsJobChange, IsQName}
use Rattle.wm_law.specs.Ranges.{IsCause}
use Rattle.wm_law.specs.Wishes.{greatest_moment}
use Rattle.wm_law.proofs.Members.{of_mapped}

-- a reply that orders nothing, refuses nothing, makes no object, and says something
pub record IsPlain (reply : Reply) : Type 0 where
  pub orders_none : order_in reply ≡ None
  pub refuses_none : (x : Refusal) → reply ≡ No x → ⊥
  pub says : reply ≡ Nothing → ⊥
  pub waits_not : (place : ℕ) → reply ≡ EvokeWaits place → ⊥
  pub makes_none : reply ≡ Made → ⊥

pub plain_held : (job : JobName) → IsPlain (Held job)
plain_held job = record { orders_none = refl; refuses_none = λ x e. absurd (cc); says = λ e. absurd (cc); waits_not = λ place e. absurd (cc); makes_none = λ e. absurd (cc) }

pub plain_released : (job : JobName) → IsPlain (Released job)
plain_released job = record { orders_none = refl; refuses_none = λ x e. absurd (cc); says = λ e. absurd (cc); waits_not = λ place e. absurd (cc); makes_none = λ e. absurd (cc) }

pub plain_changed : (job : JobName) → IsPlain (Changed job)
plain_changed job = record { orders_none = refl; refuses_none = λ x e. absurd (cc); says = λ e. absurd (cc); waits_not = λ place e. absurd (cc); makes_none = λ e. absurd (cc) }

pub plain_queue_held : IsPlain QueueHeld
plain_queue_held = record { orders_none = refl; refuses_none = λ x e. absurd (cc); says = λ e. absurd (cc); waits_not = λ place e. absurd (cc); makes_none = λ e. absurd (cc) }

pub plain_queue_released : IsPlain QueueReleased
plain_queue_released = record { orders_none = refl; refuses_none = λ x e. absurd (cc); says = λ e. absurd (cc); waits_not = λ place e. absurd (cc); makes_none = λ e. absurd (cc) }

pub plain_cleared : (count : ℕ) → IsPlain (QueueCleared count)
plain_cleared count = record { orders_none = refl; refuses_none = λ x e. absurd (cc); says = λ e. absurd (cc); waits_not = λ place e. absurd (cc); makes_none = λ e. absurd (cc) }

pub plain_job_ending : (job : JobName) → IsPlain (JobEnding job)
plain_job_ending job = record { orders_none = refl; refuses_none = λ x e. absurd (cc); says = λ e. absurd (cc); waits_not = λ place e. absurd (cc); makes_none = λ e. absurd (cc) }

pub plain_job_ended : (job : JobName) → IsPlain (JobEnded job)
plain_job_ended job = record { orders_none = refl; refuses_none = λ x e. absurd (cc); says = λ e. absurd (cc); waits_not = λ place e. absurd (cc); makes_none = λ e. absurd (cc) }

pub plain_sbs_ending : (sbs : QName) → IsPlain (SbsEnding sbs)
plain_sbs_ending sbs = record { orders_none = refl; refuses_none = λ x e. absurd (cc); says = λ e. absurd (cc); waits_not = λ place e. absurd (cc); makes_none = λ e. absurd (cc) }

pub plain_power_down : IsPlain PowerDown
plain_power_down = record { orders_none = refl; refuses_none = λ x e. absurd (cc); says = λ e. absurd (cc); waits_not = λ place e. absurd (cc); makes_none = λ e. absurd (cc) }

pub plain_pre_ending : IsPlain PreEnding
plain_pre_ending = record { orders_none = refl; refuses_none = λ x e. absurd (cc); says = λ e. absurd (cc); waits_not = λ place e. absurd (cc); makes_none = λ e. absurd (cc) }

pub plain_evoked : (job : JobName) → IsPlain (Evoked job)
plain_evoked job = record { orders_none = refl; refuses_none = λ x e. absurd (cc); says = λ e. absurd (cc); waits_not = λ place e. absurd (cc); makes_none = λ e. absurd (cc) }

pub plain_use_ended : (job : JobName) → IsPlain (UseEnded job)
plain_use_ended job = record { orders_none = refl; refuses_none = λ x e. absurd (cc); says = λ e. absurd (cc); waits_not = λ place e. absurd (cc); makes_none = λ e. absurd (cc) }

pub plain_noted : IsPlain Noted
plain_noted = record { orders_none = refl; refuses_none = λ x e. absurd (cc); says = λ e. absurd (cc); waits_not = λ place e. absurd (cc); makes_none = λ e. absurd (cc) }

-- the phase is that of an end by no launch
abbrev pub IsEndOnQueue : Phase → Type 0
IsEndOnQueue p = (c : EndCause) × (p ≡ Ended c) × (is_routing_cause c ≡ false) × IsCause c

-- a job that waited is the same job, which waits on or has ended by no launch; a new queue of it is an object
pub record IsAltered (s : State) (j k : Job) : Type 0 where
  pub waits : is_waiting j.phase ≡ true
  pub serial : k.serial ≡ j.serial
  pub job : k.job ≡ j.job
  pub kind : k.kind ≡ j.kind
  pub how : k.how ≡ j.how
  pub wish : k.wish ≡ j.wish
  pub uses : k.uses ≡ j.uses
  pub evoke : k.evoke ≡ j.evoke
  pub phase : (is_waiting k.phase ≡ true) ⊎ IsEndOnQueue k.phase
  pub queue : IsSome j.jobq → IsSome k.jobq
  pub is_object : (q : QName) → k.jobq ≡ Some q → (j.jobq ≡ Some q) ⊎ IsSome (object_named q s.objects.jobqs)

-- a job keeps all that a waiting job can't change, and what is changed keeps its range
pub record KeepsRanges (s : State) (j k : Job) : Type 0 where
  pub same : k ≡ record j { jobq = k.jobq; pty = k.pty; place = k.place; held = k.held; due = k.due; phase = k.phase }
  pub jobq : (q : QName) → k.jobq ≡ Some q → (j.jobq ≡ Some q) ⊎ IsQName q
  pub pty : IsBetween 1 9 j.pty → IsBetween 1 9 k.pty
  pub place : (k.place ≡ j.place) ⊎ (k.place ≡ s.next_place)
  pub due : j.due ≤ greatest_moment → k.due ≤ greatest_moment

-- no place changes, and none is taken
pub record PlacesStay (s : State) (change : Job → Job) (place : ℕ) : Type 0 where
  pub same : (j : Job) → (change j).place ≡ j.place
  pub next : place ≡ s.next_place

-- the next place is taken by the Waiting job of a serial, and no other job changes
pub record PlaceIsTaken (s : State) (change : Job → Job) (place : ℕ) : Type 0 where
  pub serial : ℕ
  pub taken : (j : Job) → is_waiting j.phase ≡ true → j.serial ≡ serial → (change j).place ≡ s.next_place
  pub other : (j : Job) → (j.serial ≡ serial → ⊥) → change j ≡ j
  pub left : s.next_place < serials_end
  pub next : place ≡ s.next_place + 1

-- each job is as it was, or is altered
pub record IsAlteration (s : State) (change : Job → Job) (place : ℕ) : Type 0 where
  pub each : (j : Job) → (change j ≡ j) ⊎ IsAltered s j (change j)
  pub places : PlacesStay s change place ⊎ PlaceIsTaken s change place

-- the jobs are changed, and there is a next place
abbrev pub altered : State → (Job → Job) → ℕ → State
altered s change place = record s { jobs = map change s.jobs; next_place = place }

-- a queue that is an object and isn't held becomes held
pub record HoldsOne (s : State) (held : List QName) : Type 0 where
  pub queue : QName
  pub is_object : IsSome (object_named queue s.objects.jobqs)
  pub new : is_held s queue ≡ false
  pub is_with : held ≡ added own_name qname_cmp queue s.held

-- a queue isn't held any more
pub record ReleasesOne (s : State) (held : List QName) : Type 0 where
  pub queue : QName
  pub is_without : held ≡ removed own_name same_qname queue s.held

abbrev pub IsHolding : State → List QName → Type 0
IsHolding s held = HoldsOne s held ⊎ ReleasesOne s held

-- a change where the job waits and has a serial
module _ (s : State) (serial : ℕ) (change : Job → Job) where
  at_by : (j : Job) (b : Bool) → (is_waiting j.phase && j.serial == serial) ≡ b → ((is_waiting j.phase ≡ true) → IsAltered s j (change j)) → (cond b (change j) j ≡ j) ⊎ IsAltered s j (cond b (change j) j)
  at_by j true e h = inr (h (and_parts (is_waiting j.phase) (j.serial == serial) e).0)
  at_by j false e h = inl refl

  pub altered_at : ((j : Job) → is_waiting j.phase ≡ true → IsAltered s j (change j)) → (j : Job) → (waiting_at serial change j ≡ j) ⊎ IsAltered s j (waiting_at serial change j)
  altered_at h j = at_by j (is_waiting j.phase && j.serial == serial) refl (h j)

-- what a change of each job comes to
abbrev pub KeepAll : State → (Job → Job) → Type 0
KeepAll s change = (j : Job) → KeepsRanges s j (change j)

ranges_by : (s : State) (j k : Job) (b : Bool) → KeepsRanges s j k → KeepsRanges s j (cond b k j)
ranges_by s j k true h = h
ranges_by s j k false h = record { same = refl; jobq = λ q e. inl e; pty = λ h. h; place = inl refl; due = λ h. h }

pub holding_keeps : (s : State) (serial : ℕ) (held : Bool) → KeepAll s (waiting_at serial (with_held held))
holding_keeps s serial held j = ranges_by s j (with_held held j) (is_waiting j.phase && j.serial == serial) (record { same = refl; jobq = λ q e. inl e; pty = λ h. h; place = inl refl; due = λ h. h })

pub due_keeps : (s : State) (serial due : ℕ) → due ≤ greatest_moment → KeepAll s (waiting_at serial (with_due due))
due_keeps s serial due late j = ranges_by s j (with_due due j) (is_waiting j.phase && j.serial == serial) (record { same = refl; jobq = λ q e. inl e; pty = λ h. h; place = inl refl; due = λ h. late })

pub ending_keeps : (s : State) (serial : ℕ) (phase : Phase) → KeepAll s (waiting_at serial (in_phase phase))
ending_keeps s serial phase j = ranges_by s j (in_phase phase j) (is_waiting j.phase && j.serial == serial) (record { same = refl; jobq = λ q e. inl e; pty = λ h. h; place = inl refl; due = λ h. h })

pub clearing_keeps : (s : State) (queue : QName) → KeepAll s (cleared_from queue)
clearing_keeps s queue j = ranges_by s j (in_phase (Ended Cleared) j) (waits_on queue j) (record { same = refl; jobq = λ q e. inl e; pty = λ h. h; place = inl refl; due = λ h. h })

pty_or : (wanted : Option ℕ) (pty : ℕ) → IfSome wanted (IsBetween 1 9) → IsBetween 1 9 pty → IsBetween 1 9 (unwrap_or wanted pty)
pty_or None pty w h = h
pty_or (Some n) pty w h = w

place_at : (change : Job → Job) (j : Job) (b : Bool) → (change j).place ≡ j.place → (cond b (change j) j).place ≡ j.place
place_at change j true h = h
place_at change j false h = refl

pub holding_alters : (s : State) (serial : ℕ) (held : Bool) → IsAlteration s (waiting_at serial (with_held held)) s.next_place
holding_alters s serial held = record {
  each = altered_at s serial (with_held held) (λ j w. record { waits = w; serial = refl; job = refl; kind = refl; how = refl; wish = refl; uses = refl; evoke = refl; phase = inl w; queue = λ h. h; is_object = λ q e. inl e });
  places = inl (record { same = λ j. place_at (with_held held) j (is_waiting j.phase && j.serial == serial) refl; next = refl });
}

pub due_alters : (s : State) (serial due : ℕ) → IsAlteration s (waiting_at serial (with_due due)) s.next_place
due_alters s serial due = record {
  each = altered_at s serial (with_due due) (λ j w. record { waits = w; serial = refl; job = refl; kind = refl; how = refl; wish = refl; uses = refl; evoke = refl; phase = inl w; queue = λ h. h; is_object = λ q e. inl e });
  places = inl (record { same = λ j. place_at (with_due due) j (is_waiting j.phase && j.serial == serial) refl; next = refl });
}

-- ENDJOB on a job that waits
pub ending_alters : (s : State) (serial : ℕ) → IsAlteration s (waiting_at serial (in_phase (Ended EndedOnQueue))) s.next_place
ending_alters s serial = record {
  each = altered_at s serial (in_phase (Ended EndedOnQueue)) (λ j w. record { waits = w; serial = refl; job = refl; kind = refl; how = refl; wish = refl; uses = refl; evoke = refl; phase = inr (EndedOnQueue, refl, refl, tt); queue = λ h. h; is_object = λ q e. inl e });
  places = inl (record { same = λ j. place_at (in_phase (Ended EndedOnQueue)) j (is_waiting j.phase && j.serial == serial) refl; next = refl });
}

some_or : (wanted present : Option QName) → IsSome present → IsSome (option_or wanted present)
some_or None present h = h
some_or (Some q) present h = refl

of_some : (a b : QName) → Some a ≡ Some b → a ≡ b
of_some a b e = cc

object_or : (s : State) (wanted present : Option QName) (q : QName) → finds_queue s wanted ≡ true → option_or wanted present ≡ Some q → (present ≡ Some q) ⊎ IsSome (object_named q s.objects.jobqs)
object_or s None present q h e = inl e
object_or s (Some w) present q h e = inr (ap (λ (n : QName). is_some (object_named n s.objects.jobqs)) (sym (of_some w q e)) ∙ h)

queue_or : (wanted present : Option QName) (q : QName) → IfSome wanted IsQName → option_or wanted present ≡ Some q → (present ≡ Some q) ⊎ IsQName q
queue_or None present q h e = inl e
queue_or (Some w) present q h e = inr (subst IsQName (of_some w q e) h)

pub moving_keeps : (s : State) (c : Chgjob) (serial due : ℕ) → due ≤ greatest_moment → IsJobChange c → KeepAll s (waiting_at serial (moved_to c s.next_place due))
moving_keeps s c serial due late fit j =
    ranges_by s j (moved_to c s.next_place due j) (is_waiting j.phase && j.serial == serial)
    (record { same = refl; jobq = λ q e. queue_or c.jobq j.jobq q fit.jobq e; pty = pty_or c.jobpty j.pty fit.jobpty; place = inr refl; due = λ h. late })

other_at : (change : Job → Job) (serial : ℕ) (j : Job) (b : Bool) → (is_waiting j.phase && j.serial == serial) ≡ b → (j.serial ≡ serial → ⊥) → cond b (change j) j ≡ j
other_at change serial j true e other = absurd (other (eqb-true j.serial serial (and_parts (is_waiting j.phase) (j.serial == serial) e).1))
other_at change serial j false e other = refl

taken_at : (change : Job → Job) (serial place : ℕ) (j : Job) → ((k : Job) → (change k).place ≡ place) → is_waiting j.phase ≡ true → j.serial ≡ serial → (waiting_at serial change j).place ≡ place
taken_at change serial place j h w e =
    let here : (is_waiting j.phase && j.serial == serial) ≡ true = grind (arith, nat_tests) in
    ap (λ (b : Bool). (cond b (change j) j).place) here ∙ h j

pub moving_alters : (s : State) (c : Chgjob) (serial due : ℕ) → nat_lt s.next_place serials_end ≡ true → finds_queue s c.jobq ≡ true → IsAlteration s (waiting_at serial (moved_to c s.next_place due)) (s.next_place + 1)
moving_alters s c serial due left q = record {
  each = altered_at s serial (moved_to c s.next_place due) (λ j w. record { waits = w; serial = refl; job = refl; kind = refl; how = refl; wish = refl; uses = refl; evoke = refl; phase = inl w; queue = some_or c.jobq j.jobq; is_object = λ n e. object_or s c.jobq j.jobq n q e });
  places = inr (record {
    serial = serial;
    taken = λ j w e. taken_at (moved_to c s.next_place due) serial s.next_place j (λ k. refl) w e;
    other = λ j other. other_at (moved_to c s.next_place due) serial j (is_waiting j.phase && j.serial == serial) refl other;
    left = ltb-true s.next_place serials_end left;
    next = refl;
  });
}

cleared_by : (s : State) (queue : QName) (j : Job) (b : Bool) → waits_on queue j ≡ b → (cond b (in_phase (Ended Cleared) j) j ≡ j) ⊎ IsAltered s j (cond b (in_phase (Ended Cleared) j) j)
cleared_by s queue j true e = inr (record { waits = (and_parts (is_waiting j.phase) (is_on_queue queue j.jobq) e).0; serial = refl; job = refl; kind = refl; how = refl; wish = refl; uses = refl; evoke = refl; phase = inr (Cleared, refl, refl, tt); queue = λ h. h; is_object = λ q e. inl e })
cleared_by s queue j false e = inl refl

pub clearing_alters : (s : State) (queue : QName) → IsAlteration s (cleared_from queue) s.next_place
clearing_alters s queue = record {
  each = λ j. cleared_by s queue j (waits_on queue j) refl;
  places = inl (record { same = λ j. place_at (in_phase (Ended Cleared)) j (waits_on queue j) refl; next = refl });
}

-- a job among the changed ones is as one was, or is an altered one
pub of_altered : (s : State) (change : Job → Job) (place : ℕ) → IsAlteration s change place → (k : Job) → IsIn k (map change s.jobs) → (j : Job) × IsIn j s.jobs × ((k ≡ j) ⊎ IsAltered s j k)
of_altered s change place a k i =
    let o = of_mapped change s.jobs k i in (
      o.0,
      o.1,
      elim (a.each o.0) as (λ _. (k ≡ o.0) ⊎ IsAltered s o.0 k) [ inl same ↦ inl (o.2 ∙ same) | inr b ↦ inr (subst (IsAltered s o.0) (sym o.2) b) ],
    )

-- what holds of each job, and of each altered one, holds of each of the changed jobs
pub each_altered : (P : Job → Type 0) (s : State) (change : Job → Job) (place : ℕ) → IsAlteration s change place → ((j : Job) → IsIn j s.jobs → P j) → ((j k : Job) → IsIn j s.jobs → IsAltered s j k → P k) → (k : Job) → IsIn k (map change s.jobs) → P k
each_altered P s change place a same new k i =
    let o = of_altered s change place a k i in
    elim (o.2) as (λ _. P k) [ inl e ↦ subst P (sym e) (same o.0 o.1) | inr b ↦ new o.0 k o.1 b ]

-- no launch leaves a job waiting
pub launch_waits : (p : Phase) → is_waiting p ≡ true → is_routed_phase p ≡ false
launch_waits Waiting h = refl
launch_waits Starting h = absurd (cc)
launch_waits (Handed m) h = absurd (cc)
launch_waits (Running m) h = absurd (cc)
launch_waits (Ended c) h = absurd (cc)

idle_by : (p : Phase) → (is_waiting p ≡ true) ⊎ IsEndOnQueue p → is_active p ≡ false
idle_by Waiting (inl w) = refl
idle_by Starting (inl w) = absurd (cc)
idle_by (Handed m) (inl w) = absurd (cc)
idle_by (Running m) (inl w) = absurd (cc)
idle_by (Ended c) (inl w) = refl
idle_by p (inr e) = ap is_active e.1

-- an altered job isn't active
pub idle : (s : State) (j k : Job) → IsAltered s j k → is_active k.phase ≡ false
idle s j k a = idle_by k.phase a.phase

-- nor is it Starting
pub unstarted : (s : State) (j k : Job) → IsAltered s j k → k.phase ≡ Starting → ⊥
unstarted s j k a e =
    let no = idle s j k a in
    let yes : is_active k.phase ≡ true = ap is_active e in
    absurd (cc)

-- and no launch leaves a job so
pub unlaunched : (s : State) (j k : Job) → IsAltered s j k → is_routed_phase k.phase ≡ false
unlaunched s j k a = elim (a.phase) as (λ _. is_routed_phase k.phase ≡ false) [ inl w ↦ launch_waits k.phase w | inr e ↦ ap is_routed_phase e.1 ∙ e.2 ]

-- a changed job has its serial and its name, and waits only where it waited
pub same_serial : (s : State) (j k : Job) → (k ≡ j) ⊎ IsAltered s j k → k.serial ≡ j.serial
same_serial s j k (inl e) = ap (λ (x : Job). x.serial) e
same_serial s j k (inr a) = a.serial

pub same_job : (s : State) (j k : Job) → (k ≡ j) ⊎ IsAltered s j k → k.job ≡ j.job
same_job s j k (inl e) = ap (λ (x : Job). x.job) e
same_job s j k (inr a) = a.job

pub waited : (s : State) (j k : Job) → (k ≡ j) ⊎ IsAltered s j k → is_waiting k.phase ≡ true → is_waiting j.phase ≡ true
waited s j k (inl e) w = ap (λ (x : Job). is_waiting x.phase) (sym e) ∙ w
waited s j k (inr a) w = a.waits
