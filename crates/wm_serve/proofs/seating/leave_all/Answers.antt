use Rattle.std.proofs.Common.{◌∙◌, ◌<◌, None, ap, arith, get_or, length, set, subst, sym, take}
use Rattle.std.proofs.lemmas.List.{get_or_default}
use Rattle.std.proofs.lemmas.List.Edits.{map_over_more}
use Rattle.wm_floor.specs.Floor.{Seen}
use Rattle.wm_turn.proofs.Histories.{starts_again}
use Rattle.wm_serve.specs.Seating.{HasPassOf, with_pass}
use Rattle.wm_serve.specs.Done.{HasTold}
use Rattle.wm_serve.proofs.Leaving.{left_more, next_left, number_left}
use Rattle.wm_serve.proofs.Done.{told_more}
use Rattle.wm_serve.proofs.seating.leave_all.Goals as goal

pub leave-requires-clause-zero : goal.leave-requires-clause-zero
leave-requires-clause-zero g c = ap (λ (p : Seen _). p.number) c.loop-seat.invariant.zero ∙ number_left c.args.zero.now (take c.loop-seat.seat-index c.args.seats.now) ∙ c.requires.zero

pub leave-requires-clause-its : goal.leave-requires-clause-its
leave-requires-clause-its g c =
    let lt : c.loop-seat.seat-index < length c.args.seats.now = omega arith in
    subst (HasPassOf c.args.floor.now) (sym (next_left c.args.seats.now c.loop-seat.seats c.loop-seat.seat-index c.seat-item.result lt c.loop-seat.invariant.seats)) (c.requires.its c.loop-seat.seat-index c.seat-item.result lt)

pub loop-seat-preserved : goal.loop-seat-preserved
loop-seat-preserved g c =
    let so_far = c.loop-seat.invariant in
    let one = c.leave.ensures in
    let xs = c.args.seats.now in
    let ys = c.loop-seat.seats in
    let i = c.loop-seat.seat-index in
    let d = c.seat-item.result in
    let lt : i < length xs = omega arith in
    let here : i < length ys = omega arith in
    record {
      own = one.own;
      zero = left_more c.args.zero.now c.loop-seat.zero c.leave.new.zero xs ys i d lt so_far.zero (next_left xs ys i d lt so_far.seats) one.zero;
      seats = ap (set ys i) one.seat ∙ map_over_more (with_pass None) xs ys i (get_or ys i d) lt so_far.seats (get_or_default ys i d (get_or ys i d) here);
      seen = starts_again c.leave.new.zero.seen c.loop-seat.zero.seen c.args.zero.now.seen one.seen so_far.seen;
      told = told_more c.loop-seat.zero c.leave.new.zero xs i d lt one.seen so_far.told (subst (HasTold c.leave.new.zero) (next_left xs ys i d lt so_far.seats) one.told);
    }
