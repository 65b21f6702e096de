use Rattle.std.proofs.Common.{◌∙◌, sym, subst, arith}
use Rattle.wm_ordered.specs.Keys.{nothing_of}
use Rattle.wm_indexes.specs.Rows.{HaveRows}
use Rattle.wm_indexes.specs.Seats.{AreNumbers, is_idle_job, same_seat, seat_cmp, seat_of}
use Rattle.wm_indexes.proofs.RowLemmas.{more-spare, removed-none, room-removed, rows-taken, same-nodes}
use Rattle.wm_indexes.proofs.SeatLemmas.{seat_key}
use Rattle.wm_indexes.proofs.prestart.PrestartJobs.remove.Goals as goal

pub invariant_of-self : goal.invariant_of-self
invariant_of-self c =
    let most = c.self.inside.most in
    let jobs = c.self.inside.jobs in
    let same = sym (c.remove.ensures.items ∙ removed-none c.args.serial jobs.items (sym c.in_default.ensures.value)) in
    record {
      jobs = room-removed most jobs c.remove.new.self c.self.invariant.jobs c.args.serial c.remove.ensures.items c.len.ensures.sorted c.remove.result c.remove.ensures.value c.remove.ensures.spare;
      seats = subst (λ l. HaveRows seat_of nothing_of is_idle_job most l c.self.inside.seats) same c.self.invariant.seats;
      numbers = subst (λ l. AreNumbers l c.self.inside.numbers.items) same c.self.invariant.numbers;
      room = c.self.invariant.room;
    }

pub returns-in_default-clause-spare : goal.returns-in_default-clause-spare
returns-in_default-clause-spare c = more-spare c.self.inside.most c.self.inside.jobs c.remove.new.self c.self.invariant.jobs c.args.serial c.remove.ensures.items _ c.self.view_is

pub returns-in_default-clause-nodes : goal.returns-in_default-clause-nodes
returns-in_default-clause-nodes c = same-nodes c.self.inside.most c.self.inside.jobs c.remove.new.self c.self.invariant.jobs c.args.serial c.remove.ensures.items _ c.self.view_is

pub invariant_of-self-2 : goal.invariant_of-self-2
invariant_of-self-2 c =
    let s = c.args.serial in
    let most = c.self.inside.most in
    let jobs = c.self.inside.jobs in
    let sorted = c.len.ensures.sorted in
    let is = sym c.in-Some.ensures.value in
    let gone = sym c.remove.ensures.items in
    record {
      jobs = room-removed most jobs c.remove.new.self c.self.invariant.jobs s c.remove.ensures.items sorted c.remove.result c.remove.ensures.value c.remove.ensures.spare;
      seats = subst (λ l. HaveRows seat_of nothing_of is_idle_job most l c.take_row.new.rows) gone (rows-taken seat_of nothing_of is_idle_job seat_cmp same_seat seat_key most jobs.items c.self.inside.seats c.self.invariant.seats s c.in-Some.was sorted is c.is_idle.result c.seat_of-seat.result c.is_idle.ensures c.seat_of-seat.ensures c.take_row.new.rows c.take_row.ensures.items c.take_row.ensures.capacity);
      numbers = subst (λ l. AreNumbers l c.part.new.numbers.items) gone (c.part.ensures.numbers jobs.items s c.self.invariant.numbers sorted is);
      room = omega (arith, c.part.ensures.capacity, c.self.invariant.room);
    }

pub returns-clause-spare : goal.returns-clause-spare
returns-clause-spare c = more-spare c.self.inside.most c.self.inside.jobs c.remove.new.self c.self.invariant.jobs c.args.serial c.remove.ensures.items _ c.self.view_is

pub returns-clause-nodes : goal.returns-clause-nodes
returns-clause-nodes c = same-nodes c.self.inside.most c.self.inside.jobs c.remove.new.self c.self.invariant.jobs c.args.serial c.remove.ensures.items _ c.self.view_is
