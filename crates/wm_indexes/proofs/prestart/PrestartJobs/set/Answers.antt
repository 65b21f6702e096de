use Rattle.std.proofs.Common.{◌+◌, ◌≤◌, length, nat_eq, refl, ◌∙◌, sym, subst, arith}
use Rattle.std.specs.Ordering.{nat_cmp}
use Rattle.std.proofs.lemmas.List.Sums.{count_by-le-length}
use Rattle.wm_desc.specs.Sorted.{place_of, removed}
use Rattle.wm_ordered.specs.Keys.{nothing_of}
use Rattle.wm_ordered.specs.Ordered.{key_of}
use Rattle.wm_ordered.proofs.Keyed.{lacks-removed, with_value-lacks}
use Rattle.wm_indexes.specs.Ready.{is_available_in}
use Rattle.wm_indexes.specs.Rows.{HaveRows}
use Rattle.wm_indexes.specs.Seats.{AreNumbers, is_idle_job, same_seat, seat_cmp, seat_of}
use Rattle.wm_indexes.proofs.NumberLemmas.{numbers-length}
use Rattle.wm_indexes.proofs.RowLemmas.{one-less, room-set, rows-lack, rows-put, rows-spare, rows-taken, set-again}
use Rattle.wm_indexes.proofs.SeatLemmas.{seat_key}
use Rattle.wm_indexes.proofs.prestart.PrestartJobs.set.Goals as goal

pub invariant_of-self : goal.invariant_of-self
invariant_of-self c =
    let most = c.self.inside.most in
    let jobs = c.self.inside.jobs in
    let same = sym (c.set.ensures.items ∙ with_value-lacks nat_eq c.args.serial c.args.job jobs.items (sym c.in_default.ensures.was)) in
    record {
      jobs = room-set most jobs c.set.new.self c.self.invariant.jobs c.args.serial c.args.job c.set.ensures.items c.set.ensures.spare;
      seats = subst (λ l. HaveRows seat_of nothing_of is_idle_job most l c.self.inside.seats) same c.self.invariant.seats;
      numbers = subst (λ l. AreNumbers l c.self.inside.numbers.items) same c.self.invariant.numbers;
      room = c.self.invariant.room;
    }

pub put_row-requires-clause-spare : goal.put_row-requires-clause-spare
put_row-requires-clause-spare c =
    let s = c.args.serial in
    let most = c.self.inside.most in
    let jobs = c.self.inside.jobs in
    let is = sym c.in-Some.ensures.was in
    let rest = removed key_of nat_eq s jobs.items in
    let fewer : length rest + 1 ≤ most = omega (arith, one-less s c.in-Some.was jobs.items c.len.ensures.sorted is, c.self.invariant.jobs.few) in
    rows-spare seat_of nothing_of is_idle_job seat_cmp same_seat seat_key most rest c.take_row.new.rows (rows-taken seat_of nothing_of is_idle_job seat_cmp same_seat seat_key most jobs.items c.self.inside.seats c.self.invariant.seats s c.in-Some.was c.len.ensures.sorted is c.is_idle.result c.seat_of-before.result c.is_idle.ensures c.seat_of-before.ensures c.take_row.new.rows c.take_row.ensures.items c.take_row.ensures.capacity) c.len-2.ensures.sorted fewer

pub put_row-requires-clause-new : goal.put_row-requires-clause-new
put_row-requires-clause-new c =
    let s = c.args.serial in
    let most = c.self.inside.most in
    let jobs = c.self.inside.jobs in
    let is = sym c.in-Some.ensures.was in
    let rest = removed key_of nat_eq s jobs.items in
    rw c.seat_of-seat.ensures (rows-lack seat_of nothing_of is_idle_job seat_cmp same_seat seat_key most rest c.take_row.new.rows (rows-taken seat_of nothing_of is_idle_job seat_cmp same_seat seat_key most jobs.items c.self.inside.seats c.self.invariant.seats s c.in-Some.was c.len.ensures.sorted is c.is_idle.result c.seat_of-before.result c.is_idle.ensures c.seat_of-before.ensures c.take_row.new.rows c.take_row.ensures.items c.take_row.ensures.capacity) (s, c.args.job) (lacks-removed nat_eq s jobs.items))

pub join-requires-clause-spare : goal.join-requires-clause-spare
join-requires-clause-spare c =
    let s = c.args.serial in
    let items = c.self.inside.jobs.items in
    let is = sym c.in-Some.ensures.was in
    let left = c.part.ensures.numbers items s c.self.invariant.numbers c.len.ensures.sorted is in
    let few = numbers-length (removed key_of nat_eq s items) c.part.new.numbers.items left c.len-3.ensures.sorted in
    omega (arith, few, one-less s c.in-Some.was items c.len.ensures.sorted is, c.part.ensures.capacity, c.self.invariant.jobs.few, c.self.invariant.room)

pub join-requires-clause-fits : goal.join-requires-clause-fits
join-requires-clause-fits c =
    let s = c.args.serial in
    let items = c.self.inside.jobs.items in
    let is = sym c.in-Some.ensures.was in
    let left = c.part.ensures.numbers items s c.self.invariant.numbers c.len.ensures.sorted is in
    let few = count_by-le-length (is_available_in c.args.job.entry) (removed key_of nat_eq s items) in
    omega (arith, left.numbers c.args.job.entry, few, one-less s c.in-Some.was items c.len.ensures.sorted is, c.self.invariant.jobs.few, c.self.invariant.jobs.fits)

pub invariant_of-self-2 : goal.invariant_of-self-2
invariant_of-self-2 c =
    let s = c.args.serial in
    let most = c.self.inside.most in
    let jobs = c.self.inside.jobs in
    let is = sym c.in-Some.ensures.was in
    let rest = removed key_of nat_eq s jobs.items in
    let new = sym (c.set.ensures.items ∙ set-again s c.in-Some.was jobs.items c.len.ensures.sorted is c.args.job) in
    record {
      jobs = room-set most jobs c.set.new.self c.self.invariant.jobs s c.args.job c.set.ensures.items c.set.ensures.spare;
      seats = subst (λ l. HaveRows seat_of nothing_of is_idle_job most l c.put_row.new.rows) new (rows-put seat_of nothing_of is_idle_job seat_cmp same_seat seat_key most rest c.take_row.new.rows (rows-taken seat_of nothing_of is_idle_job seat_cmp same_seat seat_key most jobs.items c.self.inside.seats c.self.invariant.seats s c.in-Some.was c.len.ensures.sorted is c.is_idle.result c.seat_of-before.result c.is_idle.ensures c.seat_of-before.ensures c.take_row.new.rows c.take_row.ensures.items c.take_row.ensures.capacity) (s, c.args.job) c.is_idle-2.result c.seat_of-seat.result tt c.is_idle-2.ensures c.seat_of-seat.ensures refl c.put_row.new.rows c.put_row.ensures.items c.put_row.ensures.capacity);
      numbers = subst (λ l. AreNumbers l c.join.new.numbers.items) new (c.join.ensures.numbers rest s (place_of key_of nat_cmp s rest) (c.part.ensures.numbers jobs.items s c.self.invariant.numbers c.len.ensures.sorted is));
      room = omega (arith, c.join.ensures.capacity, c.part.ensures.capacity, c.self.invariant.room);
    }
