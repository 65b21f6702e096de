-- What lies in a `Tally`.
use Rattle.std.specs.Prelude.{◌≡◌, ◌-◌, ◌/◌, vec_len, vec_capacity}
use Rattle.wm_desc.specs.Sorted.{IsSortedOnce}
use Rattle.wm_pick.specs.Counted.{counted_cmp}
use Rattle.wm_pick.specs.Rows.{key_of, uncounted}
use Rattle.wm_pick.specs.Tally.{Counts}
use Rattle.wm_pick.specs.declared.tally.Tally.TheInside.{Inside}

-- the counts, and room for the four keys that a how names at the most
abbrev pub counts_of : Inside → Counts
counts_of t = record { counts = t.rows.items; spare = (vec_capacity t.rows - vec_len t.rows) / 4 }

-- the rows are in ascending order of their keys, each key once, and none has the number 0
pub record IsTallyInside (t : Inside) : Type 0 where
  pub sorted : IsSortedOnce key_of counted_cmp t.rows.items
  pub counted : uncounted t.rows.items ≡ 0
