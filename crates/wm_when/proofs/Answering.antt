-- What `answer_on` comes to for moments in range and out of it.
use Rattle.std.proofs.Common.{◌≡◌, ℕ, arith, ℤ, pos, ◌<ℤ◌, ◌≤ℤ◌, unsigned_abs, Ok, Err}
use Rattle.std.proofs.lemmas.Int.{ints}
use Rattle.wm_when.specs.declared.fault.DueFault.TheVariants.{Past, OutOfRange}
use Rattle.wm_when.specs.Due.{answer_on}
use Rattle.wm_when.proofs.Months.{last_day_is}

pub answer_on-below : (day moment : ℤ) (now : ℕ) → moment <ℤ pos 0 → answer_on day moment now ≡ Err OutOfRange
answer_on-below day moment now h = grind (arith, ints)

pub answer_on-above : (day moment : ℤ) (now : ℕ) → pos 253402214399 <ℤ moment → answer_on day moment now ≡ Err OutOfRange
answer_on-above day moment now h = grind (arith, ints)

pub answer_on-past : (day moment : ℤ) (now : ℕ) → day ≤ℤ pos 2932896 → pos 0 ≤ℤ moment → moment ≤ℤ pos 253402214399 → moment <ℤ pos now → answer_on day moment now ≡ Err Past
answer_on-past day moment now last low high h = grind (arith, ints, last_day_is)

pub answer_on-due : (day moment : ℤ) (now : ℕ) → day ≤ℤ pos 2932896 → pos 0 ≤ℤ moment → moment ≤ℤ pos 253402214399 → pos now ≤ℤ moment → answer_on day moment now ≡ Ok (unsigned_abs moment)
answer_on-due day moment now last low high h = grind (arith, ints, last_day_is)
