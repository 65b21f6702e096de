-- Numbers by key, as rows of a key and its number.
use Rattle.std.specs.Prelude.{ℕ, ◌==◌, Bool, cond, List, count_by, sum_by}

-- what rows are sorted by
abbrev pub key_of : {K : Type 0} → K × ℕ → K
key_of row = row.0

-- what a row adds to the number of a key
abbrev pub part_of : {K : Type 0} → (K → K → Bool) → K → K × ℕ → ℕ
part_of eq key row = cond (eq row.0 key) row.1 0

-- the number of a key, which is 0 where it has no row
abbrev pub number_at : {K : Type 0} → (K → K → Bool) → K → List (K × ℕ) → ℕ
number_at eq key rows = sum_by (part_of eq key) rows

-- how many rows have the number 0
abbrev pub uncounted : {K : Type 0} → List (K × ℕ) → ℕ
uncounted rows = count_by (λ row. row.1 == 0) rows
