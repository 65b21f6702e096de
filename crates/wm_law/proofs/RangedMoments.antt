-- The moment that a schedule names is one that there is.
use Rattle.std.proofs.Common.{◌≡◌, ◌||◌, ℕ, ◌≤◌, ℤ, pos, negsuc, Bool, true, false, cond, nat_lt, unsigned_abs, Result, Ok, Err, Option, Some, None, refl, subst, arith}
use Rattle.std.specs.Prelude.{int_lt}
use Rattle.std.proofs.lemmas.Bool.Decides.{nat_tests}
use Rattle.std.proofs.lemmas.Bool.{or_parts}
use Rattle.wm_base.specs.declared.refusal.Refusal.{Refusal}
use Rattle.wm_when.specs.Due.{answer_on, day_at, day_from, day_of_date, local_time, moment_at, second_at, second_from}
use Rattle.wm_when.specs.declared.fault.DueFault.TheVariants.{Past, OutOfRange}
use Rattle.wm_when.specs.declared.schedule.DateSpec.{DateSpec}
use Rattle.wm_when.specs.declared.schedule.DateSpec.TheVariants.{Current}
use Rattle.wm_when.specs.declared.schedule.TimeSpec.{TimeSpec}
use Rattle.wm_when.specs.declared.schedule.TimeSpec.TheVariants.{Current as Now}
use Rattle.wm_law.specs.Schedules.{or_refused, rescheduled, scheduled}
use Rattle.wm_law.specs.declared.state.State.{State}

within : (m : ℤ) → int_lt m (pos 0) ≡ false → int_lt (pos 253402214399) m ≡ false → unsigned_abs m ≤ 253402214399
within (pos n) low high = grind (arith, nat_tests)
within (negsuc n) low high = absurd (cc)

answered : (early late beyond past : Bool) (n due : ℕ) → or_refused (cond (early || late || beyond) (Err OutOfRange) (cond past (Err Past) (Ok n))) ≡ Ok due → ((early || late || beyond) ≡ false) × (n ≡ due)
answered early late beyond past n due e = by (early || late || beyond) past e
  where
    by : (t p : Bool) → or_refused (cond t (Err OutOfRange) (cond p (Err Past) (Ok n))) ≡ Ok due → (t ≡ false) × (n ≡ due)
    by true p f = absurd (cc)
    by false true f = absurd (cc)
    by false false f = (refl, (cc))

on_day : (day moment : ℤ) (now due : ℕ) → or_refused (answer_on day moment now) ≡ Ok due → due ≤ 253402214399
on_day day moment now due e =
    let a = answered (int_lt moment (pos 0)) (int_lt (pos 253402214399) moment) (int_lt (day_of_date 99991231) day) (int_lt moment (pos now)) (unsigned_abs moment) due e in
    let both = or_parts (int_lt moment (pos 0) || int_lt (pos 253402214399) moment) (int_lt (day_of_date 99991231) day) a.0 in
    let parts = or_parts (int_lt moment (pos 0)) (int_lt (pos 253402214399) moment) both.0 in
    subst (λ (n : ℕ). n ≤ 253402214399) a.1 (within moment parts.0 parts.1)

pub due_within : (s : State) (date : DateSpec) (time : TimeSpec) (due : ℕ) → scheduled s date time ≡ Ok due → due ≤ 253402214399
due_within s date time due e =
    let now = local_time s.clock s.offset_min in
    let second = second_from time (second_at now) in
    let day = day_from date (day_at now) (nat_lt second (second_at now)) in
    on_day day (moment_at day second s.offset_min) s.clock due e

same_ok : (r : Result ℕ Refusal) (a b : ℕ) → r ≡ Ok a → r ≡ Ok b → a ≡ b
same_ok r a b e f = cc

-- and so is one that stays
pub again_within : (s : State) (was : ℕ) (date : Option DateSpec) (time : Option TimeSpec) (due : ℕ) → was ≤ 253402214399 → rescheduled s was date time ≡ Ok due → due ≤ 253402214399
again_within s was None None due h e = subst (λ (n : ℕ). n ≤ 253402214399) (same_ok (Ok was) was due refl e) h
again_within s was None (Some time) due h e = due_within s Current time due e
again_within s was (Some date) None due h e = due_within s date Now due e
again_within s was (Some date) (Some time) due h e = due_within s date time due e
