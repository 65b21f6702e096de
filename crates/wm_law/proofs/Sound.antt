-- Each state that a history reaches from a sound one is sound; no start on the way passes a limit, and the jobs are launched in their order.
use Rattle.std.proofs.Common.{◌≡◌, ℕ, ℤ, Bool, true, false, List, [], ◌∷◌, refl, sym, ap, subst, ◌∙◌}
use Rattle.wm_law.specs.declared.call.Entry.{Entry}
use Rattle.wm_law.specs.declared.job.JobKind.{JobKind}
use Rattle.wm_law.specs.declared.job.JobKind.TheVariants.{Bch, Asj}
use Rattle.wm_law.specs.declared.state.State.{State}
use Rattle.wm_law.specs.Counts.{is_waiting}
use Rattle.wm_law.specs.History.{after, stepped}
use Rattle.wm_law.specs.Limits.{is_autostart}
use Rattle.wm_law.specs.Machine.{with_clock}
use Rattle.wm_law.specs.Opening.{opening}
use Rattle.wm_law.specs.Sound.{AutostartJobsNeverWait, HasJobsInOrder, ActiveHaveCome, IsSound, LimitsAreKept, NoneIsDue, OpeningIsSound, OrderIsKept, StatesAreSound, StepKeepsLimits, StepKeepsOrder, StepKeepsSound, StepLeavesNoneDue}
use Rattle.wm_law.proofs.Due.{leaves_none_due}
use Rattle.wm_law.proofs.Fitting.{order_kept, step_order}
use Rattle.wm_law.proofs.Limits.{limits_kept, step_limits}
use Rattle.wm_law.proofs.Numbers.{clock_keeps, opening_is_numbered, step_keeps_numbers}
use Rattle.wm_law.proofs.Orders.{clock_keeps_orders, opening_has_orders, step_keeps_orders}
use Rattle.wm_law.proofs.Opened.{opened, opening_is}
use Rattle.wm_law.proofs.Placed.{step_keeps_places}
use Rattle.wm_law.proofs.Queued.{opening_has_queues, opening_holds_queues, step_keeps_held, step_keeps_queues}
use Rattle.wm_law.proofs.Serials.{step_keeps_jobs_in_order}
use Rattle.wm_law.proofs.Standing.{opening_is_within_started, opening_objects_are_sound, step_keeps_objects, step_keeps_within_started}
use Rattle.wm_law.proofs.Started.{opening_has_distinct_names, step_keeps_names_distinct}
use Rattle.wm_law.proofs.Wished.{opening_has_moments, opening_has_wishes, step_keeps_moments, step_keeps_wishes}
use Rattle.wm_law.proofs.Subsystems.{opening_has_descriptions, opening_is_quiet, step_keeps_descriptions, step_keeps_quiet}

opening_has_jobs_in_order : (offset : ℤ) → HasJobsInOrder (opening offset)
opening_has_jobs_in_order offset = subst HasJobsInOrder (sym (opening_is offset)) tt

none_placed : (offset : ℤ) → ActiveHaveCome (opened offset)
none_placed offset j i a = absurd i

opening_has_places : (offset : ℤ) → ActiveHaveCome (opening offset)
opening_has_places offset = subst ActiveHaveCome (sym (opening_is offset)) (none_placed offset)

pub opening_is_sound : OpeningIsSound
opening_is_sound offset = record {
  numbered = opening_is_numbered offset;
  jobs = opening_has_jobs_in_order offset;
  places = opening_has_places offset;
  orders = opening_has_orders offset;
  names = opening_has_distinct_names offset;
  descriptions = opening_has_descriptions offset;
  quiet = opening_is_quiet offset;
  objects = opening_objects_are_sound offset;
  queues = opening_has_queues offset;
  held = opening_holds_queues offset;
  within_started = opening_is_within_started offset;
  wishes = opening_has_wishes offset;
  moments = opening_has_moments offset;
}

-- the clock has no part in what is sound
pub clock_sound : (s : State) (moment : ℕ) → IsSound s → IsSound (with_clock s moment)
clock_sound s moment h = record {
  numbered = clock_keeps s moment h.numbered;
  jobs = h.jobs;
  places = h.places;
  orders = clock_keeps_orders s moment h.orders;
  names = h.names;
  descriptions = h.descriptions;
  quiet = h.quiet;
  objects = h.objects;
  queues = h.queues;
  held = h.held;
  within_started = h.within_started;
  wishes = h.wishes;
  moments = h.moments;
}

pub step_keeps_sound : StepKeepsSound
step_keeps_sound s caller call moment h = record {
  numbered = step_keeps_numbers s caller call moment h.numbered;
  jobs = step_keeps_jobs_in_order s caller call moment h.numbered h.jobs;
  places = step_keeps_places s caller call moment h.numbered h.queues h.places;
  orders = step_keeps_orders s caller call moment h.numbered h.objects h.orders;
  names = step_keeps_names_distinct s caller call moment h.names;
  descriptions = step_keeps_descriptions s caller call moment h.descriptions;
  quiet = step_keeps_quiet s caller call moment h.quiet;
  objects = step_keeps_objects s caller call moment h.objects;
  queues = step_keeps_queues s caller call moment h.queues;
  held = step_keeps_held s caller call moment h.held;
  within_started = step_keeps_within_started s caller call moment h.within_started;
  wishes = step_keeps_wishes s caller call moment h.wishes;
  moments = step_keeps_moments s caller call moment h.moments;
}

after_is_sound : (s : State) (h : List Entry) → IsSound s → IsSound (after s h)
after_is_sound s [] h = h
after_is_sound s (e ∷ es) h = after_is_sound (stepped s e).state es (step_keeps_sound s e.caller e.call e.moment h)

pub step_leaves_none_due : StepLeavesNoneDue
step_leaves_none_due s caller call moment h = leaves_none_due s caller call moment h.numbered h.wishes h.names

pub none_is_due : NoneIsDue
none_is_due s [] h none = none
none_is_due s (e ∷ es) h none = none_is_due (stepped s e).state es (step_keeps_sound s e.caller e.call e.moment h) (step_leaves_none_due s e.caller e.call e.moment h)

pub states_are_sound : StatesAreSound
states_are_sound s h sound = after_is_sound s h sound

not_waiting : (b : Bool) (k : JobKind) → b ≡ true → (b ≡ true → k ≡ Bch) → k ≡ Asj → ⊥
not_waiting b k e h a =
    let kinds : Asj ≡ Bch = sym a ∙ h e in
    let no : true ≡ false = ap is_autostart kinds in
    absurd (cc)

never_waits : (b : Bool) (k : JobKind) → (b ≡ true → k ≡ Bch) → k ≡ Asj → b ≡ false
never_waits true k h a = absurd (not_waiting true k refl h a)
never_waits false k h a = refl

pub autostart_jobs_never_wait : AutostartJobsNeverWait
autostart_jobs_never_wait s h j sound i a = never_waits (is_waiting j.phase) j.kind ((states_are_sound s h sound).queues j i).waits a

pub step_keeps_limits : StepKeepsLimits
step_keeps_limits s caller call moment h = step_limits s caller call moment (record { numbered = h.numbered; objects = h.objects; orders = h.orders })

pub limits_are_kept : LimitsAreKept
limits_are_kept s h sound = limits_kept s h (record { numbered = sound.numbered; objects = sound.objects; orders = sound.orders })

pub step_keeps_order : StepKeepsOrder
step_keeps_order s caller call moment h = step_order s caller call moment h.numbered h.queues

pub order_is_kept : OrderIsKept
order_is_kept s h sound = order_kept s h sound.numbered sound.queues
