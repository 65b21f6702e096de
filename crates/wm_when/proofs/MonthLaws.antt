-- The laws of days and months.
use Rattle.std.proofs.Common.{◌≡◌, ℕ, zero, suc, ◌+◌, arith, ℤ, ◌≤ℤ◌, ◌<ℤ◌, int_le, true, false}
use Rattle.std.proofs.lemmas.Int.{by_lt_z, ints}
use Rattle.jiff_core.proofs.SignedLemmas.{signed_arith}
use Rattle.wm_when.specs.Due.{month_start, last_begun, month_of}
use Rattle.wm_when.specs.Laws.{DayIsInItsMonth, DatesBegin, DatesEnd}
use Rattle.wm_when.proofs.Months.{last_begun-suc, month_start-first, month_start-after, month_start-december, last_day_is}

-- the last month that has begun contains the day, where that is before the month behind the last that is looked at
last_begun_contains : (n : ℕ) (day : ℤ) → month_start 0 ≤ℤ day → day <ℤ month_start (suc n) → (month_start (last_begun n day) ≤ℤ day) × (day <ℤ month_start (suc (last_begun n day)))
last_begun_contains zero day low high = unfold last_begun in (low, high)
last_begun_contains (suc n) day low high =
    by_lt_z day (month_start (suc n))
    (λ ahead. let test : int_le (month_start (suc n)) day ≡ false = grind (arith, ints) in rw (last_begun-suc, test) (last_begun_contains n day low ahead))
    (λ begun. let test : int_le (month_start (suc n)) day ≡ true = grind (arith, ints) in rw (last_begun-suc, test) (begun, high))

pub day_is_in_its_month : DayIsInItsMonth
day_is_in_its_month day is =
    let next : month_of day + 1 ≡ suc (month_of day) = omega arith in
    rw next (last_begun_contains 96360 day (omega (arith, signed_arith, month_start-december)) (omega (arith, signed_arith, month_start-after)))

pub dates_begin : DatesBegin
dates_begin = omega (arith, signed_arith, month_start-first)

pub dates_end : DatesEnd
dates_end = last_day_is
