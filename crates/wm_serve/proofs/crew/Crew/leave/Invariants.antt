use Rattle.std.proofs.Common.{◌≡◌, All, None}
use Rattle.wm_serve.specs.Seats.{pass_of}
use Rattle.wm_serve.proofs.crew.Crew.leave.Given as goal

-- no seat that is left has a pass
abbrev pub invariant-loop-seat : goal.invariant-loop-seat
invariant-loop-seat g l = All (λ seat. pass_of seat ≡ None) l.seats.items

abbrev pub decreases-loop-seat : goal.decreases-loop-seat
decreases-loop-seat g l = goal.left-loop-seat g l
