-- Passes that are given to seats, and that seats give back.
use Rattle.std.specs.Prelude.{List, [], ◌∷◌, Option, Some, None, IfSome, if◌then◌else◌}
use Rattle.wm_floor.specs.Floor.{Floored, IsPassOf, Seen}
use Rattle.wm_serve.specs.Seats.{pass_of, takes_pass}
use Rattle.wm_serve.specs.declared.seat.Seat.{Seat}
use Rattle.wm_serve.specs.declared.seat.Seat.TheVariants.{Worker, Closer, Monitor}
use Rattle.wm_turn.specs.Passed.{child, joining, parent}

-- pass 0 with another joined to it, where there is one
abbrev pub joined : {K : Type 0} → Option (Seen K) → Seen K → Seen K
joined None zero = zero
joined (Some pass) zero = joining pass zero

module _ {K D P C : Type 0} where
  -- a seat with this in its room for a pass
  abbrev pub with_pass : Option (Seen K) → Seat K D P C → Seat K D P C
  with_pass pass (Worker w) = Worker (record w { pass = pass })
  with_pass pass (Closer c) = Closer c
  with_pass pass (Monitor m) = Monitor (record m { pass = pass })

  -- a seat with the next pass of pass 0
  abbrev pub given : Seen K → Seat K D P C → Seat K D P C
  given zero seat = with_pass (Some (child zero)) seat

  -- pass 0 once a seat has taken a pass
  abbrev pub entered : Seen K → Seat K D P C → Seen K
  entered zero seat = if takes_pass seat then parent zero else zero

  -- the seats once each has taken a pass, in order
  abbrev pub seated : Seen K → List (Seat K D P C) → List (Seat K D P C)
  seated zero [] = []
  seated zero (seat ∷ seats) = given zero seat ∷ seated (entered zero seat) seats

  -- pass 0 once a seat has given its pass back
  abbrev pub left : Seen K → Seat K D P C → Seen K
  left zero seat = joined (pass_of seat) zero

  -- the pass of a seat is of the floor, where the seat has one
  abbrev pub HasPassOf : Floored K → Seat K D P C → Type 0
  HasPassOf f seat = IfSome (pass_of seat) (IsPassOf f)
