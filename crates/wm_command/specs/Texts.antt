-- The texts of jobs, compare values, dates and times.
use Rattle.std.specs.Prelude.{ℕ, List, ◌++◌, ◌/◌, ◌%◌, codes}
use Rattle.std.specs.Fmt.{decimal}
use Rattle.wm_base.specs.Number.{zero_padded}
use Rattle.wm_base.specs.JobName.{job_name_text}
use Rattle.wm_clwords.specs.Quote.{quoted}
use Rattle.wm_desc.specs.declared.entry.Cmp.{Cmp}
use Rattle.wm_desc.specs.declared.entry.Cmp.TheVariants.{Any, Val}
use Rattle.wm_when.specs.declared.schedule.DateSpec.{DateSpec}
use Rattle.wm_when.specs.declared.schedule.DateSpec.TheVariants as date
use Rattle.wm_when.specs.declared.schedule.TimeSpec.{TimeSpec}
use Rattle.wm_when.specs.declared.schedule.TimeSpec.TheVariants as time
use Rattle.wm_law.specs.declared.command.JobRef.{JobRef}
use Rattle.wm_law.specs.declared.command.JobRef.TheVariants.{Simple, ByUser, Full}
use Rattle.wm_command.specs.Words.{date_word}

abbrev pub job_text : JobRef → List ℕ
job_text (Simple name) = name
job_text (ByUser user name) = user ++ codes "/" ++ name
job_text (Full job) = job_name_text job

abbrev pub cmp_text : Cmp → List ℕ
cmp_text Any = codes "*ANY"
cmp_text (Val text start) = quoted text ++ codes " " ++ decimal start

abbrev pub date_text : DateSpec → List ℕ
date_text (date.Day n) = zero_padded 8 n
date_text spec = date_word spec

-- `hhmmss`
abbrev pub second_text : ℕ → List ℕ
second_text n = zero_padded 2 (n / 3600) ++ zero_padded 2 (n / 60 % 60) ++ zero_padded 2 (n % 60)

abbrev pub time_text : TimeSpec → List ℕ
time_text time.Current = codes "*CURRENT"
time_text (time.At n) = second_text n
