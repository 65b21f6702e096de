-- What holds of an open floor and its passes.
use Rattle.std.specs.Prelude.{◌≡◌, ◌+◌, List, length, All}
use Rattle.wm_floor.specs.Floor.{Floored, IsPassOf, Seen}

module _ {K : Type 0} where
  -- all of these passes are the floor's
  abbrev pub AreOf : Floored K → List (Seen K) → Type 0
  AreOf f passes = All (IsPassOf f) passes

  -- pass 0, and those that were split off from it and not joined again
  pub record IsOpen (f : Floored K) (zero : Seen K) (others : List (Seen K)) : Type 0 where
    pub own : IsPassOf f zero
    pub zero_is : zero.number ≡ 0
    pub out : length zero.joined + length others ≡ zero.made
    pub others_own : AreOf f others
