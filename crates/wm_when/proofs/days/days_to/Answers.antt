use Rattle.std.proofs.Common.{arith, ◌≡◌, ◌∙◌, ◌+◌, ◌-◌, ◌%◌, ◌≤◌, ℕ, pos, ap, refl, ℤ}
use Rattle.std.proofs.lemmas.Bool.Decides.{nat_tests}
use Rattle.jiff_core.specs.Calendar.{weekday_number}
use Rattle.jiff_core.specs.Weekday.{monday_zero}
use Rattle.jiff_core.specs.Date.{epoch_day}
use Rattle.jiff_core.proofs.SignedLemmas.{signed_arith, signed_casts}
use Rattle.wm_when.specs.Due.{days_to, weekday_of}
use Rattle.wm_when.proofs.days.days_to.Goals as goal

-- the two say the same of a day, but for where they begin
weekday_of-jiff : (day : ℤ) → weekday_of day ≡ weekday_number day + 1
unfolding weekday_number
weekday_of-jiff day = refl

pub returns : goal.returns
returns c =
    let wanted = rw c.unwrap-wanted.ensures at c.from_monday_one_offset.ensures.value in
    let day : epoch_day c.date_of.result ≡ c.args.day = omega (arith, signed_arith) in
    let today : monday_zero c.weekday.result ≡ weekday_number c.args.day = c.weekday.ensures ∙ ap weekday_number day in
    let least : 1 ≤ c.args.weekday = grind (arith, nat_tests, c.requires.weekday) in
    let most : c.args.weekday ≤ 7 = grind (arith, nat_tests, c.requires.weekday) in
    let shown : monday_zero c.unwrap-wanted.result + 7 - monday_zero c.weekday.result ≡ c.args.weekday + 7 - weekday_of c.args.day = omega (arith, signed_casts, weekday_of-jiff c.args.day) in
    let is : c.until.result ≡ pos (days_to c.args.weekday c.args.day) = c.until.ensures ∙ ap (λ (n : ℕ). pos (n % 7)) shown in
    omega (arith, signed_casts)
