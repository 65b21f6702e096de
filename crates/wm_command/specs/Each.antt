-- Going through a list, which the first fault ends.
use Rattle.std.specs.Prelude.{Result, Ok, Err, List, [], ◌∷◌}

abbrev pub go_on : {S T E : Type 0} → Result S E → (S → Result T E) → Result T E
go_on (Ok s) next = next s
go_on (Err e) next = Err e

-- one item after another, from the first on
abbrev pub each : {S X E : Type 0} → (S → X → Result S E) → S → List X → Result S E
each step s [] = Ok s
each step s (x ∷ xs) = go_on (step s x) (λ t. each step t xs)
