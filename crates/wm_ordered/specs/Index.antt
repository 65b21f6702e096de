-- Rows of the entries that pass a test, by a key of theirs.
use Rattle.std.specs.Prelude.{◌≡◌, ℕ, ◌+◌, Bool, true, List, length}
use Rattle.std.specs.List.{Contains}
use Rattle.wm_ordered.specs.Ordered.{Pairs}

-- the rows are those of the entries that pass a test: a key of theirs, with what is told of them
pub record IsIndex {E K V : Type 0} (key : E → K) (told : E → V) (test : E → Bool) (items : List E) (rows : List (K × V)) : Type 0 where
  pub sound : (r : K × V) → Contains rows r → (e : E) × (r ≡ (key e, told e)) × (test e ≡ true) × Contains items e
  pub whole : (e : E) → Contains items e → test e ≡ true → Contains rows (key e, told e)

-- how many rows there are, or may be
abbrev pub capacity_of : {K V : Type 0} → Pairs K V → ℕ
capacity_of rows = length rows.items + rows.spare
