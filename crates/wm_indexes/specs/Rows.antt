-- A map of jobs by serial, the rows of some of them by another key, and the room for both.
use Rattle.std.specs.Prelude.{ℕ, ◌-◌, ◌^◌, ◌<◌, ◌≤◌, Bool, List, length}
use Rattle.wm_ordered.specs.Index.{IsIndex, capacity_of}
use Rattle.wm_ordered.specs.Ordered.{Pairs}

-- what a contract sees of a map of jobs, where there may be so many
abbrev pub seen_of : {V : Type 0} → ℕ → Pairs ℕ V → Pairs ℕ V
seen_of most jobs = record { items = jobs.items; spare = most - length jobs.items }

-- there is room for the most jobs that there may be
pub record HaveRoom {V : Type 0} (most : ℕ) (jobs : Pairs ℕ V) : Type 0 where
  pub few : length jobs.items ≤ most
  pub fits : most < 2 ^ 32
  pub room : most ≤ capacity_of jobs

-- the rows are those of the jobs that have one, and there is room for those of so many
pub record HaveRows {V K T : Type 0} (key : ℕ × V → K) (told : ℕ × V → T) (has_one : ℕ × V → Bool) (most : ℕ) (jobs : List (ℕ × V)) (rows : Pairs K T) : Type 0 where
  pub index : IsIndex key told has_one jobs rows.items
  pub room : most ≤ capacity_of rows
