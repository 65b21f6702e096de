-- What lies in a `JobNames`.
use Rattle.std.specs.Prelude.{◌+◌, ◌^◌, ◌<◌, ◌≤◌, length, count_by, vec_capacity}
use Rattle.std.specs.HashMap.{spare}
use Rattle.wm_base.specs.declared.job.JobName.{JobName}
use Rattle.wm_indexes.specs.FullNames.{is_of, AreInOrder}
use Rattle.wm_indexes.specs.Namesakes.{HaveJobs}
use Rattle.wm_indexes.specs.Names.{Rows, Names, same_by_user, same_simple}
use Rattle.wm_indexes.specs.declared.names.JobNames.TheInside.{Inside}

abbrev pub rows_of : Inside → Rows
rows_of n = record { full = n.full.items; by_user = n.by_user.entries; simple = n.simple.entries }

abbrev pub names_of : Inside → Names
names_of n = record { rows = rows_of n; spare = n.room }

-- there is a place for each job for which there is room, in each of the three
pub record HasPlaces (n : Inside) : Type 0 where
  pub full : length n.full.items + n.room ≤ vec_capacity n.full
  pub by_user : n.room ≤ spare n.by_user
  pub simple : n.room ≤ spare n.simple

-- the rows of full names are in order, those of each name can be counted, and each of the other rows has a job
pub record IsNamesInside (n : Inside) : Type 0 where
  pub places : HasPlaces n
  pub in_order : AreInOrder n.full.items
  pub counted : (job : JobName) → count_by (is_of job) n.full.items < 2 ^ 32
  pub by_user : HaveJobs same_by_user n.by_user.entries
  pub simple : HaveJobs same_simple n.simple.entries
