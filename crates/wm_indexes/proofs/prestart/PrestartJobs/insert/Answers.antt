use Rattle.std.proofs.Common.{◌≡◌, ℕ, false, nat_eq, refl, ap, sym, subst, arith}
use Rattle.std.specs.Ordering.{nat_cmp}
use Rattle.std.proofs.lemmas.List.Sums.{count_by-le-length}
use Rattle.wm_desc.specs.Sorted.{has_key, place_of}
use Rattle.wm_ordered.specs.Keys.{nothing_of}
use Rattle.wm_ordered.specs.Ordered.{Pairs, key_of}
use Rattle.wm_indexes.specs.declared.prestart_job.PrestartJob.{PrestartJob}
use Rattle.wm_indexes.specs.Ready.{is_available_in}
use Rattle.wm_indexes.specs.Rows.{HaveRows}
use Rattle.wm_indexes.specs.Seats.{AreNumbers, is_idle_job, same_seat, seat_cmp, seat_of}
use Rattle.wm_indexes.proofs.NumberLemmas.{numbers-length}
use Rattle.wm_indexes.proofs.RowLemmas.{room-added, rows-lack, rows-put, rows-spare}
use Rattle.wm_indexes.proofs.SeatLemmas.{seat_key}
use Rattle.wm_indexes.proofs.prestart.PrestartJobs.insert.Goals as goal

pub put_row-requires-clause-spare : goal.put_row-requires-clause-spare
put_row-requires-clause-spare c =
    let spare = ap (λ (v : Pairs ℕ PrestartJob). v.spare) c.self.view_is in
    rows-spare seat_of nothing_of is_idle_job seat_cmp same_seat seat_key c.self.inside.most c.self.inside.jobs.items c.self.inside.seats c.self.invariant.seats c.len.ensures.sorted (omega (arith, c.requires.spare, spare))

pub put_row-requires-clause-new : goal.put_row-requires-clause-new
put_row-requires-clause-new c =
    let new = subst (λ (v : Pairs ℕ PrestartJob). has_key key_of nat_eq c.args.serial v.items ≡ false) (sym c.self.view_is) c.requires.new in
    rw c.seat_of-seat.ensures (rows-lack seat_of nothing_of is_idle_job seat_cmp same_seat seat_key c.self.inside.most c.self.inside.jobs.items c.self.inside.seats c.self.invariant.seats (c.args.serial, c.args.job) new)

pub join-requires-clause-spare : goal.join-requires-clause-spare
join-requires-clause-spare c =
    let spare = ap (λ (v : Pairs ℕ PrestartJob). v.spare) c.self.view_is in
    omega (arith, c.requires.spare, spare, numbers-length c.self.inside.jobs.items c.self.inside.numbers.items c.self.invariant.numbers c.len-2.ensures.sorted, c.self.invariant.room)

pub join-requires-clause-fits : goal.join-requires-clause-fits
join-requires-clause-fits c =
    let spare = ap (λ (v : Pairs ℕ PrestartJob). v.spare) c.self.view_is in
    let few = count_by-le-length (is_available_in c.args.job.entry) c.self.inside.jobs.items in
    omega (arith, c.requires.spare, spare, c.self.invariant.numbers.numbers c.args.job.entry, few, c.self.invariant.jobs.fits)

pub invariant_of-self : goal.invariant_of-self
invariant_of-self c =
    let s = c.args.serial in
    let most = c.self.inside.most in
    let jobs = c.self.inside.jobs in
    let come = sym c.insert.ensures.items in
    let spare = ap (λ (v : Pairs ℕ PrestartJob). v.spare) c.self.view_is in
    record {
      jobs = room-added most jobs c.insert.new.self c.self.invariant.jobs s c.args.job (omega (arith, c.requires.spare, spare)) c.insert.ensures.items c.insert.ensures.spare;
      seats = subst (λ l. HaveRows seat_of nothing_of is_idle_job most l c.put_row.new.rows) come (rows-put seat_of nothing_of is_idle_job seat_cmp same_seat seat_key most jobs.items c.self.inside.seats c.self.invariant.seats (s, c.args.job) c.is_idle.result c.seat_of-seat.result tt c.is_idle.ensures c.seat_of-seat.ensures refl c.put_row.new.rows c.put_row.ensures.items c.put_row.ensures.capacity);
      numbers = subst (λ l. AreNumbers l c.join.new.numbers.items) come (c.join.ensures.numbers jobs.items s (place_of key_of nat_cmp s jobs.items) c.self.invariant.numbers);
      room = omega (arith, c.join.ensures.capacity, c.self.invariant.room);
    }
