-- The least of some moments.
use Rattle.std.specs.Prelude.{ℕ, min, Option, Some, None}

-- the lesser of two moments, where there is one
abbrev pub sooner : Option ℕ → ℕ → Option ℕ
sooner None moment = Some moment
sooner (Some least) moment = Some (min least moment)
