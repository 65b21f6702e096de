use Rattle.std.proofs.Common.{◌∙◌, ◌<◌, ap, arith, length, take}
use Rattle.std.proofs.lemmas.List.{length-take}
use Rattle.std.proofs.lemmas.List.Elements.{All-same}
use Rattle.wm_floor.specs.Floor.{Seen}
use Rattle.wm_serve.specs.Seating.{HasPassOf, seated}
use Rattle.wm_serve.specs.Seats.{pass_of}
use Rattle.wm_serve.proofs.Seatings.{changed_all, entered_more, its_more, made_most, next_seat, number_then, seated_more}
use Rattle.wm_serve.proofs.seating.enter_all.Goals as goal

pub enter-requires-clause-zero : goal.enter-requires-clause-zero
enter-requires-clause-zero g c = ap (λ (p : Seen _). p.number) c.loop-seat.invariant.zero ∙ number_then c.args.zero.now (take c.loop-seat.seat-index c.args.seats.now) ∙ c.requires.zero

pub enter-requires-clause-most : goal.enter-requires-clause-most
enter-requires-clause-most g c =
    let xs = take c.loop-seat.seat-index c.args.seats.now in
    let made = ap (λ (p : Seen _). p.made) c.loop-seat.invariant.zero in
    omega (arith, made, made_most c.args.zero.now xs, length-take c.loop-seat.seat-index c.args.seats.now, c.requires.most)

pub enter-requires-clause-empty : goal.enter-requires-clause-empty
enter-requires-clause-empty g c =
    let lt : c.loop-seat.seat-index < length c.args.seats.now = omega arith in
    ap pass_of (next_seat c.args.zero.now c.args.seats.now c.loop-seat.seats c.loop-seat.seat-index c.seat-item.result lt c.loop-seat.invariant.seats) ∙ c.requires.empty c.loop-seat.seat-index c.seat-item.result lt

pub loop-seat-preserved : goal.loop-seat-preserved
loop-seat-preserved g c =
    let so_far = c.loop-seat.invariant in
    let one = c.enter.ensures in
    let lt : c.loop-seat.seat-index < length c.args.seats.now = omega arith in
    record {
      own = one.own;
      zero = entered_more c.args.zero.now c.loop-seat.zero c.enter.new.zero c.args.seats.now c.loop-seat.seats c.loop-seat.seat-index c.seat-item.result lt so_far.zero so_far.seats one.zero;
      seats = seated_more c.args.zero.now c.loop-seat.zero c.args.seats.now c.loop-seat.seats c.loop-seat.seat-index c.seat-item.result c.enter.new.seat lt so_far.zero so_far.seats one.seat;
      its = its_more c.args.floor.now c.args.zero.now c.loop-seat.zero c.args.seats.now c.loop-seat.seats c.loop-seat.seat-index c.seat-item.result c.enter.new.seat lt so_far.zero so_far.seats one.seat so_far.its one.its;
    }

pub returns-clause-its : goal.returns-clause-its
returns-clause-its g c =
    let done = seated c.args.zero.now (take c.loop-seat.seat-index c.args.seats.now) in
    All-same (HasPassOf c.args.floor.now) c.loop-seat.seats done (changed_all done c.args.seats.now c.loop-seat.seats c.loop-seat.seat-index (omega arith) c.loop-seat.invariant.seats) c.loop-seat.invariant.its
