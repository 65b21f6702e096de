-- The values that a schedule may have.
use Rattle.std.specs.Prelude.{ℕ, Bool, true, not, ◌/◌, ◌%◌, ◌==◌, ◌&&◌, ◌||◌, nat_le, nat_lt, if◌then◌else◌}
use Rattle.wm_when.specs.declared.schedule.DateSpec.{DateSpec}
use Rattle.wm_when.specs.declared.schedule.DateSpec.TheVariants.{Current, MonthStart, MonthEnd, Weekday, Day}
use Rattle.wm_when.specs.declared.schedule.TimeSpec.{TimeSpec}
use Rattle.wm_when.specs.declared.schedule.TimeSpec.TheVariants.{Current as Now, At}

-- each fourth year, but of the hundredth ones only each fourth
abbrev pub is_leap_year : ℕ → Bool
is_leap_year year = (year % 4 == 0 && not (year % 100 == 0)) || year % 400 == 0

-- April, June, September and November have 30 days
abbrev pub days_in_month : ℕ → ℕ → ℕ
days_in_month year month =
    if month == 2 then (if is_leap_year year then 29 else 28)
    else (if month == 4 || month == 6 || month == 9 || month == 11 then 30 else 31)

-- a number from low to high
abbrev pub within : ℕ → ℕ → ℕ → Bool
within low high n = nat_le low n && nat_le n high

-- a day of the years 1970 to 9999
abbrev pub is_day_of : ℕ → ℕ → ℕ → Bool
is_day_of year month day = within 1970 9999 year && within 1 12 month && within 1 (days_in_month year month) day

-- such a day, written as `yyyymmdd`
abbrev pub is_date : ℕ → Bool
is_date day = is_day_of (day / 10000) (day / 100 % 100) (day % 100)

-- Monday is 1 and Sunday 7
abbrev pub date_in_range : DateSpec → Bool
date_in_range Current = true
date_in_range MonthStart = true
date_in_range MonthEnd = true
date_in_range (Weekday day) = within 1 7 day
date_in_range (Day day) = is_date day

-- a second of the day
abbrev pub time_in_range : TimeSpec → Bool
time_in_range Now = true
time_in_range (At second) = nat_lt second 86400
