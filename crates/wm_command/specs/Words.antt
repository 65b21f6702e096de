-- What texts say: numbers, names, dates and times.
use Rattle.std.specs.Prelude.{ℕ, Bool, true, false, not, Option, Some, None, List, length, take, drop, ◌+◌, ◌-◌, ◌*◌, ◌/◌, ◌%◌, ◌==◌, ◌&&◌, nat_lt, nat_eq, if◌then◌else◌, codes, [], ◌∷◌, find, take_while, fold, IsTrue}
use Rattle.std.specs.Cmp.Lexicographic.{pointwise}
use Rattle.wm_base.specs.Name.{IsName, name_of}
use Rattle.wm_base.specs.Number.{is_digit}
use Rattle.wm_when.specs.Schedule.{within, is_date}
use Rattle.wm_when.specs.declared.schedule.DateSpec.{DateSpec}
use Rattle.wm_when.specs.declared.schedule.DateSpec.TheVariants as date
use Rattle.wm_when.specs.declared.schedule.TimeSpec.{TimeSpec}
use Rattle.wm_when.specs.declared.schedule.TimeSpec.TheVariants as time
use Rattle.wm_law.specs.declared.command.JobRef.{JobRef}
use Rattle.wm_law.specs.declared.command.JobRef.TheVariants.{Simple, ByUser, Full}
use Rattle.wm_law.specs.declared.command.EndOption.{EndOption}
use Rattle.wm_law.specs.declared.command.EndOption.TheVariants.{Cntrld, Immed}

-- Numbers

-- one more digit behind a number of at most eight
abbrev pub push_digit : Option ℕ → ℕ → Option ℕ
push_digit None byte = None
push_digit (Some n) byte = if is_digit byte && nat_lt n 100000000 then Some (n * 10 + (byte - 48)) else None

-- the number that digits write
unfoldable pub digits : List ℕ → Option ℕ
digits text = fold push_digit (Some 0) text

abbrev pub kept_within : ℕ → ℕ → Option ℕ → Option ℕ
kept_within low high None = None
kept_within low high (Some n) = if within low high n then Some n else None

-- a number of so many digits at least and at most, from low to high
unfoldable pub number_of : ℕ → ℕ → ℕ → ℕ → List ℕ → Option ℕ
number_of fewest most low high text = if within fewest most (length text) then kept_within low high (digits text) else None

-- Names

abbrev pub is_no_slash : ℕ → Bool
is_no_slash byte = not (byte == 47)

-- what stands before the first slash, or all of it
abbrev pub before_slash : List ℕ → List ℕ
before_slash text = take (length (take_while is_no_slash text)) text

-- what stands behind the first slash, where there is one
abbrev pub behind_slash : List ℕ → Option (List ℕ)
behind_slash text =
    if nat_lt (length (take_while is_no_slash text)) (length text)
    then Some (drop (length (take_while is_no_slash text) + 1) text)
    else None

-- Jobs

abbrev pub simple_of : Option (List ℕ) → Option JobRef
simple_of None = None
simple_of (Some name) = Some (Simple name)

abbrev pub by_user_of : Option (List ℕ) → Option (List ℕ) → Option JobRef
by_user_of None name = None
by_user_of (Some user) None = None
by_user_of (Some user) (Some name) = Some (ByUser user name)

abbrev pub full_of : Option ℕ → Option (List ℕ) → Option (List ℕ) → Option JobRef
full_of None user name = None
full_of (Some number) None name = None
full_of (Some number) (Some user) None = None
full_of (Some number) (Some user) (Some name) = Some (Full (record { number = number; user = user; name = name }))

abbrev pub job_behind : List ℕ → List ℕ → Option (List ℕ) → Option JobRef
job_behind first second None = by_user_of (name_of first) (name_of second)
job_behind first second (Some third) = full_of (number_of 1 6 1 999999 first) (name_of second) (name_of third)

abbrev pub job_with : List ℕ → Option (List ℕ) → Option JobRef
job_with first None = simple_of (name_of first)
job_with first (Some rest) = job_behind first (before_slash rest) (behind_slash rest)

-- `NAME`, `USER/NAME` or `NUMBER/USER/NAME`
unfoldable pub job_of : List ℕ → Option JobRef
job_of text = job_with (before_slash text) (behind_slash text)

-- its names and its number have their forms
abbrev pub FitsJob : JobRef → Type 0
FitsJob (Simple name) = IsName name
FitsJob (ByUser user name) = IsName user × IsName name
FitsJob (Full job) = IsTrue (within 1 999999 job.number) × IsName job.user × IsName job.name

-- Words, each with what it says

abbrev pub same : List ℕ → List ℕ → Bool
same text word = pointwise nat_eq text word

abbrev pub flag_text : Bool → List ℕ
flag_text true = codes "*YES"
flag_text false = codes "*NO"

-- a word, but not in apostrophes
abbrev pub flag_of : Bool → List ℕ → Option Bool
flag_of is_word text = find (λ flag. is_word && same text (flag_text flag)) (true ∷ false ∷ [])

abbrev pub ending_text : EndOption → List ℕ
ending_text Cntrld = codes "*CNTRLD"
ending_text Immed = codes "*IMMED"

-- a word, but not in apostrophes
abbrev pub ending_of : Bool → List ℕ → Option EndOption
ending_of is_word text = find (λ ending. is_word && same text (ending_text ending)) (Cntrld ∷ Immed ∷ [])

-- Monday is 1
abbrev pub weekday_text : ℕ → List ℕ
weekday_text n =
    if n == 1 then codes "*MON"
    else if n == 2 then codes "*TUE"
    else if n == 3 then codes "*WED"
    else if n == 4 then codes "*THU"
    else if n == 5 then codes "*FRI"
    else if n == 6 then codes "*SAT"
    else codes "*SUN"

-- a day has none
abbrev pub date_word : DateSpec → List ℕ
date_word date.Current = codes "*CURRENT"
date_word date.MonthStart = codes "*MONTHSTR"
date_word date.MonthEnd = codes "*MONTHEND"
date_word (date.Weekday n) = weekday_text n
date_word (date.Day n) = []

abbrev pub dates_with_words : List DateSpec
dates_with_words =
    date.Current ∷ date.MonthStart ∷ date.MonthEnd ∷ date.Weekday 1 ∷ date.Weekday 2 ∷ date.Weekday 3 ∷ date.Weekday 4
    ∷ date.Weekday 5 ∷ date.Weekday 6 ∷ date.Weekday 7 ∷ []

abbrev pub date_word_of : List ℕ → Option DateSpec
date_word_of text = find (λ spec. same text (date_word spec)) dates_with_words

-- Dates and times

abbrev pub day_of : Option ℕ → Option DateSpec
day_of None = None
day_of (Some n) = if is_date n then Some (date.Day n) else None

abbrev pub date_with : Bool → List ℕ → Option DateSpec → Option DateSpec
date_with is_word text (Some spec) = if is_word then Some spec else None
date_with is_word text None = day_of (number_of 8 8 0 99999999 text)

-- a special word, but not in apostrophes, or `yyyymmdd`
unfoldable pub date_of : Bool → List ℕ → Option DateSpec
date_of is_word text = date_with is_word text (date_word_of text)

-- `hhmmss` as the second of the day
abbrev pub second_of : Option ℕ → Option TimeSpec
second_of None = None
second_of (Some n) =
    if nat_lt (n / 10000) 24 && nat_lt (n / 100 % 100) 60 && nat_lt (n % 100) 60
    then Some (time.At (n / 10000 * 3600 + n / 100 % 100 * 60 + n % 100))
    else None

-- *CURRENT, but not in apostrophes, or `hhmmss`
unfoldable pub time_of : Bool → List ℕ → Option TimeSpec
time_of is_word text =
    if is_word && same text (codes "*CURRENT") then Some time.Current
    else second_of (number_of 6 6 0 999999 text)
