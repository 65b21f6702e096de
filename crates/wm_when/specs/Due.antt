-- From which moment on a job may start. A day is its number from 1970-01-01, which is 0, and a month is its number from December 1969, which is 0 too.
use Rattle.std.specs.Prelude.{ℕ, zero, suc, ◌+◌, ◌-◌, ◌*◌, ◌/◌, ◌%◌, ◌==◌, ◌&&◌, ◌||◌, not, Bool, ℤ, pos, neg_ℤ, ◌+ℤ◌, ◌-ℤ◌, ◌*ℤ◌, ◌≤ℤ◌, int_lt, int_le, unsigned_abs, nat_lt, Result, Ok, Err, if◌then◌else◌}
use Rattle.std.specs.Int.{int_div_euclid, int_rem_euclid}
use Rattle.std.specs.Ordering.{int_eq}
use Rattle.wm_when.specs.Schedule.{days_in_month}
use Rattle.wm_when.specs.declared.fault.DueFault.{DueFault}
use Rattle.wm_when.specs.declared.fault.DueFault.TheVariants.{Past, OutOfRange}
use Rattle.wm_when.specs.declared.schedule.SchedSpec.{SchedSpec}
use Rattle.wm_when.specs.declared.schedule.DateSpec.{DateSpec}
use Rattle.wm_when.specs.declared.schedule.DateSpec.TheVariants.{Current, MonthStart, MonthEnd, Weekday, Day}
use Rattle.wm_when.specs.declared.schedule.TimeSpec.{TimeSpec}
use Rattle.wm_when.specs.declared.schedule.TimeSpec.TheVariants.{Current as Now, At}

-- local time is less than a day ahead of UTC or behind it, in minutes
abbrev pub IsOffset : ℤ → Type 0
IsOffset minutes = (neg_ℤ (pos 1439) ≤ℤ minutes) × (minutes ≤ℤ pos 1439)

-- how many days a month has
abbrev pub month_length : ℕ → ℕ
month_length n = days_in_month (1969 + (n + 11) / 12) ((n + 11) % 12 + 1)

-- the first day of a month: the months before it lie between
unfoldable pub month_start : ℕ → ℤ
month_start zero = neg_ℤ (pos 31)
month_start (suc n) = month_start n +ℤ pos (month_length n)

-- its last day
abbrev pub month_end : ℕ → ℤ
month_end n = month_start (n + 1) -ℤ pos 1

-- the last of the months up to the nth that has begun by a day
unfoldable pub last_begun : ℕ → ℤ → ℕ
last_begun zero day = 0
last_begun (suc n) day = if int_le (month_start (suc n)) day then suc n else last_begun n day

-- the month in which a day lies. The last one is December 9999
abbrev pub month_of : ℤ → ℕ
month_of day = last_begun 96360 day

-- the day of a date that is written as `yyyymmdd`
abbrev pub day_of_date : ℕ → ℤ
day_of_date date = month_start (12 * (date / 10000 - 1970) + date / 100 % 100) +ℤ pos (date % 100) -ℤ pos 1

-- Monday is 1 and Sunday 7. 1970-01-01 was a Thursday
abbrev pub weekday_of : ℤ → ℕ
weekday_of day = unsigned_abs (int_rem_euclid (day +ℤ pos 3) (pos 7)) + 1

-- how many days it is to the next such weekday, and 0 on that day
abbrev pub days_to : ℕ → ℤ → ℕ
days_to weekday day = (weekday + 7 - weekday_of day) % 7

-- today if it begins a month and the time isn't past, else the first day of the next month
abbrev pub month_start_from : ℤ → Bool → ℤ
month_start_from today past =
    if int_eq (month_start (month_of today)) today && not past then today else month_start (month_of today + 1)

-- the last day of this month, or of the next one if it is today and the time is past
abbrev pub month_end_from : ℤ → Bool → ℤ
month_end_from today past =
    if int_eq (month_end (month_of today)) today && past then month_end (month_of today + 1)
    else month_end (month_of today)

-- the first such weekday from today on, or seven days later if it is today and the time is past
abbrev pub weekday_from : ℕ → ℤ → Bool → ℤ
weekday_from weekday today past =
    if days_to weekday today == 0 && past then today +ℤ pos 7 else today +ℤ pos (days_to weekday today)

-- the day that a word names, where today is a day and the time may be past on it
abbrev pub day_from : DateSpec → ℤ → Bool → ℤ
day_from Current today past = today
day_from MonthStart today past = month_start_from today past
day_from MonthEnd today past = month_end_from today past
day_from (Weekday weekday) today past = weekday_from weekday today past
day_from (Day date) today past = day_of_date date

-- the second of the day that a word names, where the present one is given
abbrev pub second_from : TimeSpec → ℕ → ℕ
second_from Now second = second
second_from (At second) present = second

-- local time in seconds
abbrev pub local_time : ℕ → ℤ → ℤ
local_time now offset = pos now +ℤ pos 60 *ℤ offset

-- the day of a local time
abbrev pub day_at : ℤ → ℤ
day_at time = int_div_euclid time (pos 86400)

-- the second of that day
abbrev pub second_at : ℤ → ℕ
second_at time = unsigned_abs (int_rem_euclid time (pos 86400))

-- the moment of a second of a day
abbrev pub moment_at : ℤ → ℕ → ℤ → ℤ
moment_at day second offset = pos 86400 *ℤ day +ℤ pos second -ℤ pos 60 *ℤ offset

-- the answer for a moment of a day, neither of which there need be: that it is out of range is said first
abbrev pub answer_on : ℤ → ℤ → ℕ → Result ℕ DueFault
answer_on day moment now =
    if int_lt moment (pos 0) || int_lt (pos 253402214399) moment || int_lt (day_of_date 99991231) day then Err OutOfRange
    else (if int_lt moment (pos now) then Err Past else Ok (unsigned_abs moment))

-- the same for a second of a day
abbrev pub due_on : ℤ → ℕ → ℕ → ℤ → Result ℕ DueFault
due_on day second now offset = answer_on day (moment_at day second offset) now

-- the moment from which on a job may start, for the words of a schedule, where local time is so far ahead
abbrev pub due_of : SchedSpec → ℕ → ℤ → Result ℕ DueFault
due_of spec now offset =
    let time = local_time now offset in
    let second = second_from spec.time (second_at time) in
    let past = nat_lt second (second_at time) in
    due_on (day_from spec.date (day_at time) past) second now offset
