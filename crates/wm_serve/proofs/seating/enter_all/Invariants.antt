use Rattle.std.proofs.Common.{◌≡◌, ◌++◌, All, drop, fold, take}
use Rattle.wm_floor.specs.Floor.{IsPassOf}
use Rattle.wm_serve.specs.Seating.{HasPassOf, entered, seated}
use Rattle.wm_serve.proofs.seating.enter_all.Given as goal

-- the seats so far have taken passes, the others are as they were
abbrev pub invariant-loop-seat : goal.invariant-loop-seat
invariant-loop-seat g l = record {
  own : IsPassOf l.floor l.zero;
  zero : l.zero ≡ fold entered l.fn.zero (take l.seat-index l.fn.seats);
  seats : l.seats ≡ seated l.fn.zero (take l.seat-index l.fn.seats) ++ drop l.seat-index l.fn.seats;
  its : All (HasPassOf l.floor) (seated l.fn.zero (take l.seat-index l.fn.seats));
}
