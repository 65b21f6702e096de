-- What the definition of months comes to.
use Rattle.std.specs.Prelude.{◌≡◌, ◌+◌, ℤ, pos, ◌≤ℤ◌, ◌<ℤ◌}
use Rattle.wm_when.specs.Due.{month_start, month_of, day_of_date}
use Rattle.wm_when.specs.DueRanges.{IsToday}

-- the month of a day has begun by it, and the next one hasn't
abbrev pub DayIsInItsMonth : Type 0
DayIsInItsMonth =
    (day : ℤ) → IsToday day → (month_start (month_of day) ≤ℤ day) × (day <ℤ month_start (month_of day + 1))

-- the first date is day 0
abbrev pub DatesBegin : Type 0
DatesBegin = day_of_date 19700101 ≡ pos 0

-- and this is the last one
abbrev pub DatesEnd : Type 0
DatesEnd = day_of_date 99991231 ≡ pos 2932896
