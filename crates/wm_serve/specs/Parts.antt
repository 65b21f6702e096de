-- What was done at each place of a list.
use Rattle.std.specs.Prelude.{ℕ, List}
use Rattle.std.specs.Fork.{ChangesEach}
use denote.Ref.{MutBor}
use denote.Param.Members.{Shared}

-- each element is what a call of the function left of it
pub record ChangesAll {F T : Type 0} (g : Shared F (ℕ × (MutBor T × Unit {0})) (Unit {0} × (MutBor T × Unit {0}))) (f : F) (xs ys : List T) : Type 0 where
  pub each : ChangesEach g f xs ys
