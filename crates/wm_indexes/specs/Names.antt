-- What a contract sees of the names of jobs, and of which jobs they are the names.
use Rattle.std.specs.Prelude.{◌≡◌, ℕ, ◌+◌, ◌^◌, ◌<◌, Bool, true, false, List, [], ◌∷◌, ◌++◌, length, count_by, All, Result, Ok, Err}
use Rattle.wm_base.specs.declared.refusal.Refusal.{Refusal}
use Rattle.wm_law.specs.declared.command.JobRef.{JobRef}
use Rattle.wm_law.specs.declared.command.JobRef.TheVariants.{Simple, ByUser, Full}
use Rattle.wm_law.specs.declared.job.Job.{Job}
use Rattle.wm_law.specs.Named.{is_ended, is_named}
use Rattle.wm_indexes.specs.declared.keys.FullName.{FullName}
use Rattle.wm_indexes.specs.declared.keys.SimpleName.{SimpleName}
use Rattle.wm_indexes.specs.declared.keys.UserName.{UserName}
use Rattle.wm_indexes.specs.declared.namesakes.Namesakes.{Namesakes}
use Rattle.wm_indexes.specs.contracts.keys.SimpleNamePartialEq.TheImpl as simple_name_by_eq
use Rattle.wm_indexes.specs.contracts.keys.UserNamePartialEq.TheImpl as user_name_by_eq
use Rattle.wm_indexes.specs.FullNames.{serial_of, is_of, is_row}
use Rattle.wm_indexes.specs.Namesakes.{namesakes_at, namesakes_among}

-- whether two simple names are one, as `==` answers
abbrev pub same_simple : SimpleName → SimpleName → Bool
same_simple = (simple_name_by_eq.ghosts).eq

-- whether two names by user are one, as `==` answers
abbrev pub same_by_user : UserName → UserName → Bool
same_by_user = (user_name_by_eq.ghosts).eq

-- a row for each job that was added and isn't forgotten, and one for each simple name and each name by user that a job has
-- which hasn't ended
pub record Rows : Type 0 where
  pub full : List FullName
  pub by_user : List (UserName × Namesakes)
  pub simple : List (SimpleName × Namesakes)

-- the rows, and for how many more jobs there is room
pub record Names : Type 0 where
  pub rows : Rows
  pub spare : ℕ

-- how many jobs a reference names by the rows, and the sum of their serials
abbrev pub namesakes_of : JobRef → Rows → Namesakes
namesakes_of (Simple name) rows = namesakes_at same_simple (record { name = name }) rows.simple
namesakes_of (ByUser user name) rows = namesakes_at same_by_user (record { user = user; name = name }) rows.by_user
namesakes_of (Full job) rows = namesakes_among serial_of (is_of job) rows.full

-- how many of some jobs a reference names, and the sum of their serials
abbrev pub namesakes_in : JobRef → List Job → Namesakes
namesakes_in r jobs = namesakes_among (λ j. j.serial) (is_named r) jobs

-- the row of a job
abbrev pub row_of : Job → FullName
row_of j = record { job = j.job; serial = j.serial }

-- whether a job has the full name and the serial of a row
abbrev pub has_row : FullName → Job → Bool
has_row row j = is_row row (row_of j)

-- the names are those of these jobs, in whatever order: each reference has the number of those that it names and the sum of
-- their serials, each of which is below 2^64, and each full name with a serial has as many rows as jobs
pub record IsNames (jobs : List Job) (names : Names) : Type 0 where
  pub serials : All (λ j. j.serial < 2 ^ 64) jobs
  pub rows : (r : JobRef) → namesakes_of r names.rows ≡ namesakes_in r jobs
  pub each : (row : FullName) → count_by (is_row row) names.rows.full ≡ count_by (has_row row) jobs

-- they are the names of fewer than 4,294,967,295 jobs
pub record HasFew (names : Names) : Type 0 where
  pub jobs : List Job
  pub are : IsNames jobs names
  pub few : length jobs + 1 < 2 ^ 32

-- they are the names of some jobs with this one among them, which hasn't ended
pub record HasNamed (names : Names) (job : Job) : Type 0 where
  pub before : List Job
  pub behind : List Job
  pub are : IsNames (before ++ job ∷ behind) names
  pub lasts : is_ended job.phase ≡ false

-- they are the names of some jobs with this one last, which has ended
pub record HasLast (names : Names) (job : Job) : Type 0 where
  pub jobs : List Job
  pub are : IsNames (jobs ++ job ∷ []) names
  pub ended : is_ended job.phase ≡ true

-- the serial of a job, where there is one
abbrev pub serial_of_one : Result Job Refusal → Result ℕ Refusal
serial_of_one (Ok j) = Ok j.serial
serial_of_one (Err x) = Err x
