-- The months of `specs/Due.antt` are those of the dates of `jiff`.
use Rattle.std.proofs.Common.{◌≡◌, ℕ, zero, suc, ◌+◌, ◌-◌, ◌*◌, ◌/◌, ◌%◌, ◌≤◌, ◌⊎◌, inl, inr, refl, sym, ap, arith, ℤ, pos, neg_ℤ, ◌+ℤ◌, ◌-ℤ◌, ◌<ℤ◌, ◌≤ℤ◌, unsigned_abs, int_le, true, false, if◌then◌else◌}
use Rattle.std.proofs.lemmas.Bool.{cases_lt, cases_order}
use Rattle.std.proofs.lemmas.Bool.Decides.{nat_tests}
use Rattle.std.proofs.lemmas.Int.{by_lt_z, ints}
use Rattle.jiff_core.specs.Calendar.{is_leap_year as jiff_leap, days_in_month as jiff_length, day_count, days_from_civil}
use Rattle.jiff_core.specs.Date.{epoch_day, month_length as jiff_month, IsYmd}
use Rattle.jiff_core.specs.declared.civil.date.Date.{Date}
use Rattle.jiff_core.proofs.SignedLemmas.{signed_arith, one_part}
use Rattle.jiff_core.proofs.CalendarLemmas.{days_from_civil-day_count, day_count-next_month, day_count-next_year, day_count-last_of_year, day_count-day, day_count-lt_year, day_count-lt_month, day_count-epoch, days_in_month_bounds}
use Rattle.jiff_core.proofs.MarchLemmas.{day_count-late}
use Rattle.jiff_core.proofs.DateLemmas.{civil}
use Rattle.wm_when.specs.Schedule.{is_leap_year, days_in_month, is_day_of}
use Rattle.wm_when.specs.Due.{month_length, month_start, month_end, last_begun, month_of, day_of_date}
use borrow.Author.Differences.{up, down}

-- the two calendars have the same leap years
pub leap-jiff : (y : ℕ) → jiff_leap (pos y) ≡ is_leap_year y
leap-jiff y = grind (arith, nat_tests)

-- and the same months
pub length-jiff : (y m : ℕ) → jiff_length (pos y) m ≡ days_in_month y m
length-jiff y m = rw (leap-jiff y) refl

pub month_length_bounds : (n : ℕ) → (28 ≤ month_length n) × (month_length n ≤ 31)
month_length_bounds n = grind arith

pub month_start-suc : (n : ℕ) → month_start (suc n) ≡ month_start n +ℤ pos (month_length n)
unfolding month_start
month_start-suc n = refl

-- December 1969 begins 31 days before day 0
day_count-december : day_count (pos 1969) 12 1 + 31 ≡ day_count (pos 1970) 1 1
day_count-december =
    omega (arith, day_count-epoch, day_count-late (pos 1969) 11969 12 1 refl (omega arith) (omega arith) (omega arith))

-- the next month of the same year
next-in_year : (y m : ℕ) → 1 ≤ m → day_count (pos y) (m + 1) 1 ≡ day_count (pos y) m 1 + days_in_month y m
next-in_year y m h = rw (← length-jiff y m) (day_count-next_month (pos y) m h)

-- January follows December
next-year : (y next : ℕ) → next ≡ y + 1 → day_count (pos next) 1 1 ≡ day_count (pos y) 12 1 + 31
next-year y next e =
    omega (arith, day_count-next_year (pos y) (pos next) (omega (arith, signed_arith)) (omega (arith, signed_arith)), day_count-last_of_year (pos y), day_count-day (pos y) 12 31 1 (omega arith) (omega arith))

-- a month's first day in the count of days of `jiff`
abbrev pub count_at : ℕ → ℕ
count_at n = day_count (pos (1969 + (n + 11) / 12)) ((n + 11) % 12 + 1) 1

count_at-suc : (n : ℕ) → count_at (suc n) ≡ count_at n + month_length n
count_at-suc n =
    elim (cases_order ((n + 11) % 12 + 1) 12) [
      | inl december ↦
          let month : (suc n + 11) % 12 ≡ 0 = omega arith in
          rw (month, december) (next-year (1969 + (n + 11) / 12) (1969 + (suc n + 11) / 12) (omega arith))
      | inr (inl earlier) ↦
          let year : (suc n + 11) / 12 ≡ (n + 11) / 12 = omega arith in
          let month : (suc n + 11) % 12 ≡ (n + 11) % 12 + 1 = omega arith in
          rw (year, month) (next-in_year (1969 + (n + 11) / 12) ((n + 11) % 12 + 1) (omega arith))
      | inr (inr later) ↦ absurd (omega arith)
    ]

pub month_start-count : (n : ℕ) → up (month_start n) + 4371953 ≡ down (month_start n) + count_at n
month_start-count zero =
    unfold month_start in omega (arith, signed_arith, day_count-december, day_count-epoch)
month_start-count (suc n) =
    omega (arith, signed_arith, month_start-suc n, month_start-count n, count_at-suc n)

-- months begin one after another
month_start-add : (n k : ℕ) → month_start n ≤ℤ month_start (k + n)
month_start-add n zero = let same : 0 + n ≡ n = omega arith in rw same (omega (arith, signed_arith))
month_start-add n (suc k) =
    let next : suc k + n ≡ suc (k + n) = omega arith in
    rw next (omega (arith, signed_arith, month_start-add n k, month_start-suc (k + n)))

pub month_start_mono : (n later : ℕ) → n ≤ later → month_start n ≤ℤ month_start later
month_start_mono n later h =
    let same : later - n + n ≡ later = omega arith in
    rw same at (month_start-add n (later - n))

pub last_begun-suc : (n : ℕ) (day : ℤ) → last_begun (suc n) day ≡ (if int_le (month_start (suc n)) day then suc n else last_begun n day)
unfolding last_begun
last_begun-suc n day = refl

-- the last month that has begun by a day is the one in which it lies
pub last_begun_is : (n k : ℕ) (day : ℤ) → k ≤ n → month_start k ≤ℤ day → day <ℤ month_start (suc k) → last_begun n day ≡ k
last_begun_is zero k day within low high = unfold last_begun in omega arith
last_begun_is (suc n) k day within low high =
    elim (cases_order k (suc n)) [
      | inl same ↦
          let from = rw same at low in
          let begun : int_le (month_start (suc n)) day ≡ true = grind (arith, ints) in
          rw (last_begun-suc, begun) (sym same)
      | inr (inl earlier) ↦
          let after = month_start_mono (suc k) (suc n) earlier in
          let ahead : int_le (month_start (suc n)) day ≡ false = grind (arith, ints) in
          rw (last_begun-suc, ahead) (last_begun_is n k day (omega arith) low high)
      | inr (inr later) ↦ absurd (omega arith)
    ]

-- a date from 1969-12-31 on is of December 1969, or of a later year
from_december : (d : Date) → neg_ℤ (pos 1) ≤ℤ epoch_day d → (pos 1970 ≤ℤ d.year) ⊎ ((d.year ≡ pos 1969) × (d.month ≡ 12))
from_december d h =
    by_lt_z d.year (pos 1969)
    (λ lt. absurd (omega (arith, signed_arith, days_from_civil-day_count, day_count-lt_year _ _ _ (pos 1969) 12 1 (civil d) (omega arith) lt, day_count-december, day_count-epoch)))
    (λ from. by_lt_z (pos 1969) d.year (λ lt. inl (omega (arith, signed_arith)))
    (λ to. let year : d.year ≡ pos 1969 = omega (arith, signed_arith) in
    elim (cases_order d.month 12) [
      | inl month ↦ inr (year, month)
      | inr (inl lt) ↦ absurd (omega (arith, signed_arith, days_from_civil-day_count, day_count-lt_month d.year d.month d.day 12 1 (civil d) (omega arith) lt, ap (λ (y : ℤ). day_count y 12 1) year, day_count-december, day_count-epoch))
      | inr (inr gt) ↦ absurd (omega (arith, d.month_in.1))
    ]))

-- the number of a date's month
abbrev pub month_number : Date → ℕ
month_number d = 12 * unsigned_abs d.year + d.month - 23640

pub record IsMonthOf (d : Date) (n : ℕ) : Type 0 where
  pub year : d.year ≡ pos (1969 + (n + 11) / 12)
  pub month : d.month ≡ (n + 11) % 12 + 1
  pub last : n ≤ 96360

month_number_is : (d : Date) → neg_ℤ (pos 1) ≤ℤ epoch_day d → IsMonthOf d (month_number d)
month_number_is d h =
    elim (from_december d h) [
      | inl later ↦
          let y = unsigned_abs d.year in
          let year : d.year ≡ pos y = omega (arith, signed_arith, one_part d.year) in
          record {
            year = omega (arith, signed_arith, d.month_in, d.year_in);
            month = omega (arith, signed_arith, d.month_in, d.year_in);
            last = omega (arith, signed_arith, d.month_in, d.year_in);
          }
      | inr december ↦ record {
        year = rw (december.0, december.1) refl;
        month = rw (december.0, december.1) refl;
        last = rw (december.0, december.1) (omega arith);
      }
    ]

-- the month of a date has its first day, and its length
pub record HasMonth (d : Date) (n : ℕ) : Type 0 where
  pub begins : month_start n ≡ days_from_civil d.year d.month 1
  pub lasts : month_length n ≡ jiff_length d.year d.month
  pub contains : month_of (epoch_day d) ≡ n
  pub last : n ≤ 96360

has_month_by : (d : Date) (n : ℕ) → IsMonthOf d n → HasMonth d n
has_month_by d n is =
    let same : count_at n ≡ day_count d.year d.month 1 = rw (is.year, is.month) refl in
    let lasts : month_length n ≡ jiff_length d.year d.month = rw (is.year, is.month) (sym (length-jiff (1969 + (n + 11) / 12) ((n + 11) % 12 + 1))) in
    let begins : month_start n ≡ days_from_civil d.year d.month 1 = omega (arith, signed_arith, month_start-count n, days_from_civil-day_count d.year d.month 1) in
    let day = day_count-day d.year d.month d.day 1 d.day_in.0 (omega arith) in
    let low : month_start n ≤ℤ epoch_day d = omega (arith, signed_arith, days_from_civil-day_count, d.day_in.0) in
    let high : epoch_day d <ℤ month_start (suc n) = omega (arith, signed_arith, days_from_civil-day_count, month_start-suc n, d.day_in.1) in
    record { begins = begins; lasts = lasts; contains = last_begun_is 96360 n (epoch_day d) is.last low high; last = is.last }

pub has_month : (d : Date) → neg_ℤ (pos 1) ≤ℤ epoch_day d → HasMonth d (month_number d)
has_month d h = has_month_by d (month_number d) (month_number_is d h)

-- the first day of a date's month
pub first_of_month_is : (d first : Date) (day : ℤ) → epoch_day d ≡ day → neg_ℤ (pos 1) ≤ℤ day → IsYmd d.year (pos d.month) (pos 1) first → epoch_day first ≡ month_start (month_of day)
first_of_month_is d first day e h is =
    let m = has_month d (rw e h) in
    let month : first.month ≡ d.month = omega (arith, signed_arith, is.1) in
    let one : first.day ≡ 1 = omega (arith, signed_arith, is.2) in
    rw (← e, is.0, month, one, m.contains) (sym m.begins)

-- and the last one
pub last_of_month_is : (d last : Date) (day : ℤ) → epoch_day d ≡ day → neg_ℤ (pos 1) ≤ℤ day → IsYmd d.year (pos d.month) (pos (jiff_month d)) last → epoch_day last ≡ month_end (month_of day)
last_of_month_is d last day e h is =
    let m = has_month d (rw e h) in
    let n = month_number d in
    let month : last.month ≡ d.month = omega (arith, signed_arith, is.1) in
    let long : last.day ≡ jiff_month d = omega (arith, signed_arith, is.2) in
    let next : n + 1 ≡ suc n = omega arith in
    rw (← e, is.0, month, long, m.contains, next) (omega (arith, signed_arith, days_from_civil-day_count, day_count-day d.year d.month (jiff_month d) 1 (omega (arith, days_in_month_bounds d.year d.month)) (omega arith), m.begins, m.lasts, month_start-suc n))

-- December 9999 begins on this day
month_start-last : month_start 96360 ≡ pos 2932866
month_start-last =
    omega (arith, signed_arith, month_start-count 96360, day_count-late (pos 9999) 19999 12 1 refl (omega arith) (omega arith) (omega arith))

pub month_start-after : month_start 96361 ≡ pos 2932897
month_start-after = omega (arith, signed_arith, month_start-last, month_start-suc 96360)

pub last_day_is : day_of_date 99991231 ≡ pos 2932896
last_day_is = omega (arith, signed_arith, month_start-last)

-- a month's first day lies in it
month_of-start : (n : ℕ) → n ≤ 96360 → month_of (month_start n) ≡ n
month_of-start n h =
    last_begun_is 96360 n (month_start n) h (omega (arith, signed_arith)) (omega (arith, signed_arith, month_start-suc n, month_length_bounds n))

-- the day after a last day lies in the next month
pub next_month_is : (last : ℤ) (n : ℕ) → last ≡ month_end n → last <ℤ pos 2932896 → month_of (last +ℤ pos 1) ≡ n + 1
next_month_is last n e h =
    let first : last +ℤ pos 1 ≡ month_start (n + 1) = omega (arith, signed_arith) in
    let within : n + 1 ≤ 96360 = elim (cases_lt 96360 (n + 1)) [
      | inl later ↦ absurd (omega (arith, signed_arith, month_start_mono 96361 (n + 1) (omega arith), month_start-after))
      | inr le ↦ le
    ] in
    rw first (month_of-start (n + 1) within)

-- and where that is January 10000
pub january_is : (last : ℤ) → last ≡ pos 2932896 → month_end (month_of last + 1) ≡ last +ℤ pos 31
january_is last e =
    let december : month_of (pos 2932896) ≡ 96360 = last_begun_is 96360 96360 (pos 2932896) (omega arith) (omega (arith, signed_arith, month_start-last)) (omega (arith, signed_arith, month_start-after)) in
    rw (e, december) (omega (arith, signed_arith, month_start-after, month_start-suc 96361))

-- a date isn't after the last day of its month
pub last_of_month-after : (d last : Date) → IsYmd d.year (pos d.month) (pos (jiff_month d)) last → epoch_day d ≤ℤ epoch_day last
last_of_month-after d last is =
    let month : last.month ≡ d.month = omega (arith, signed_arith, is.1) in
    let long : last.day ≡ jiff_month d = omega (arith, signed_arith, is.2) in
    rw (is.0, month, long) (omega (arith, signed_arith, days_from_civil-day_count, day_count-day d.year d.month (jiff_month d) d.day (omega (arith, days_in_month_bounds d.year d.month)) d.day_in.0, d.day_in.1))

pub record IsDayOf (year month day : ℕ) : Type 0 where
  pub from : 1970 ≤ year
  pub to : year ≤ 9999
  pub first : 1 ≤ month
  pub last : month ≤ 12
  pub begins : 1 ≤ day
  pub ends : day ≤ days_in_month year month

-- what the test of a day tells
pub is_day_of-true : (year month day : ℕ) → is_day_of year month day ≡ true → IsDayOf year month day
is_day_of-true year month day h = record {
  from = grind (arith, nat_tests);
  to = grind (arith, nat_tests);
  first = grind (arith, nat_tests);
  last = grind (arith, nat_tests);
  begins = grind (arith, nat_tests);
  ends = grind (arith, nat_tests);
}

-- the day of a year, a month and a day of the month
pub day_of_parts : (year month day : ℕ) (d : Date) → IsDayOf year month day → IsYmd (pos year) (pos month) (pos day) d → epoch_day d ≡ month_start (12 * (year - 1970) + month) +ℤ pos day -ℤ pos 1
day_of_parts year month day d of is =
    let n = 12 * (year - 1970) + month in
    let y : 1969 + (n + 11) / 12 ≡ year = omega (arith, of.from, of.first, of.last) in
    let m : (n + 11) % 12 + 1 ≡ month = omega (arith, of.from, of.first, of.last) in
    let begins = rw (y, m) at (month_start-count n) in
    let dm : d.month ≡ month = omega (arith, signed_arith, is.1) in
    let dd : d.day ≡ day = omega (arith, signed_arith, is.2) in
    rw (is.0, dm, dd) (omega (arith, signed_arith, days_from_civil-day_count, begins, day_count-day (pos year) month day 1 of.begins (omega arith)))

pub month_start-december : month_start 0 ≡ neg_ℤ (pos 31)
unfolding month_start
month_start-december = refl

pub month_start-first : month_start 1 ≡ pos 0
month_start-first = omega (arith, signed_arith, month_start-count 1, day_count-epoch)

-- a month from January 1970 on begins on day 0 or later
pub month_start-later : (n : ℕ) → 1 ≤ n → pos 0 ≤ℤ month_start n
month_start-later n h = omega (arith, signed_arith, month_start-first, month_start_mono 1 n h)
