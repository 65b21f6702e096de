-- The jobs that one reference names, and how a job joins them and leaves them.
use Rattle.std.specs.Prelude.{◌≡◌, ℕ, zero, suc, ◌+◌, ◌-◌, ◌%◌, ◌^◌, ◌<◌, ◌≤◌, Bool, true, false, List, filter, count_by, sum_by, Result, Ok, Err, Some, unwrap_or}
use Rattle.std.specs.Map.{lookup}
use Rattle.wm_base.specs.declared.refusal.Refusal.{Refusal}
use Rattle.wm_base.specs.declared.refusal.Refusal.TheVariants.{Ambiguous, NoJob}
use Rattle.wm_indexes.specs.declared.namesakes.Namesakes.{Namesakes}

-- no job
abbrev pub nobody : Namesakes
nobody = record { count = 0; serials = 0 }

-- how many of some elements pass a test, and the sum of their serials, modulo 2^64
abbrev pub namesakes_among : {E : Type 0} → (E → ℕ) → (E → Bool) → List E → Namesakes
namesakes_among serial_of test xs = record { count = count_by test xs; serials = sum_by serial_of (filter test xs) % 2 ^ 64 }

-- with a job of a serial more, where it joins
abbrev pub joined : Bool → ℕ → Namesakes → Namesakes
joined true serial row = record { count = row.count + 1; serials = (row.serials + serial) % 2 ^ 64 }
joined false serial row = row

-- with a job of a serial less, where it leaves
abbrev pub parted : Bool → ℕ → Namesakes → Namesakes
parted true serial row = record { count = row.count - 1; serials = (row.serials + (2 ^ 64 - serial)) % 2 ^ 64 }
parted false serial row = row

-- the row of a key; a key without a row has no job
abbrev pub namesakes_at : {K : Type 0} → (K → K → Bool) → K → List (K × Namesakes) → Namesakes
namesakes_at eq key rows = unwrap_or (lookup (eq key) rows) nobody

-- each row has a job
abbrev pub HaveJobs : {K : Type 0} → (K → K → Bool) → List (K × Namesakes) → Type 0
HaveJobs {K} eq rows = (key : K) (row : Namesakes) → lookup (eq key) rows ≡ Some row → 1 ≤ row.count

-- one more job fits into each row
abbrev pub AreFew : {K : Type 0} → (K → K → Bool) → List (K × Namesakes) → Type 0
AreFew {K} eq rows = (key : K) → (namesakes_at eq key rows).count + 1 < 2 ^ 32

-- a job of the serial is among these; where it is alone, the sum is its serial
pub record IsAmong (serial : ℕ) (row : Namesakes) : Type 0 where
  pub some : 1 ≤ row.count
  pub alone : row.count ≡ 1 → row.serials ≡ serial

-- the serial of the only job, by the number and the sum
abbrev pub only_of : ℕ → ℕ → Result ℕ Refusal
only_of zero serials = Err NoJob
only_of (suc zero) serials = Ok serials
only_of (suc (suc n)) serials = Err (Ambiguous (suc (suc n)))

-- the serial of the only job
abbrev pub only : Namesakes → Result ℕ Refusal
only row = only_of row.count row.serials
