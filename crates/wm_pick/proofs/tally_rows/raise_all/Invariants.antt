use Rattle.std.proofs.Common.{◌≡◌, ◌+◌, ◌≤◌, take, count_by, vec_len, vec_capacity}
use Rattle.wm_desc.specs.Sorted.{IsSortedOnce}
use Rattle.wm_pick.specs.Rows.{key_of, number_at, uncounted}
use Rattle.wm_pick.proofs.tally_rows.raise_all.Given as goal

-- the keys so far are added
abbrev pub invariant-loop-key : goal.invariant-loop-key
invariant-loop-key g l = record {
  sorted : IsSortedOnce key_of g.K.Ord.cmp l.rows.items;
  counted : uncounted l.rows.items ≡ 0;
  numbers : (k : g.row.K.Denot) → number_at g.K.PartialEq.eq k l.rows.items ≡ number_at g.K.PartialEq.eq k l.fn.rows.items + count_by (λ key. g.K.PartialEq.eq key k) (take l.key-index l.keys);
  len : vec_len l.rows ≤ vec_len l.fn.rows + l.key-index;
  capacity : vec_capacity l.rows ≡ vec_capacity l.fn.rows;
}
