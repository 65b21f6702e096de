-- The rows of full names.
use Rattle.std.specs.Prelude.{◌≡◌, ℕ, Bool, true, List, AllPairs}
use Rattle.std.specs.Ordering.{is_lt, is_le}
use Rattle.std.specs.declared.cmp.Ordering.{Ordering}
use Rattle.wm_base.specs.declared.job.JobName.{JobName}
use Rattle.wm_base.specs.contracts.job.JobNameOrd.TheImpl as by_cmp
use Rattle.wm_base.specs.contracts.job.JobNamePartialEq.TheImpl as by_eq
use Rattle.wm_indexes.specs.declared.keys.FullName.{FullName}
use Rattle.wm_indexes.specs.contracts.keys.FullNamePartialEq.TheImpl as row_by_eq

-- how two full names stand to each other, as `cmp` answers
abbrev pub name_cmp : JobName → JobName → Ordering
name_cmp = (by_cmp.ghosts).cmp

-- whether two full names are one, as `==` answers
abbrev pub same_name : JobName → JobName → Bool
same_name = (by_eq.ghosts).eq

-- whether two rows are one, as `==` answers
abbrev pub same_row : FullName → FullName → Bool
same_row = (row_by_eq.ghosts).eq

-- the serial of a row
abbrev pub serial_of : FullName → ℕ
serial_of row = row.serial

-- whether a row is of a name
abbrev pub is_of : JobName → FullName → Bool
is_of job row = same_name row.job job

-- whether a row is of the name and the serial of this one
abbrev pub is_row : FullName → FullName → Bool
is_row row other = same_row other row

-- whether a row is of a name below this one
abbrev pub is_below : JobName → FullName → Bool
is_below job row = is_lt (name_cmp row.job job)

-- whether a row is of this name or of one below it
abbrev pub is_up_to : JobName → FullName → Bool
is_up_to job row = is_le (name_cmp row.job job)

-- in ascending order of the names, which may repeat
abbrev pub AreInOrder : List FullName → Type 0
AreInOrder rows = AllPairs (λ first second. is_up_to second.job first ≡ true) rows
