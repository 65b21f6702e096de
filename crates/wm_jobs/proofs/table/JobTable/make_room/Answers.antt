use Rattle.std.proofs.Common.{◌≡◌, arith, refl, ap, length, take}
use Rattle.wm_jobs.specs.TableInside.{pending_of}
use Rattle.wm_jobs.proofs.AtEnd.{few-waiters, reserved-inside}
use Rattle.wm_jobs.proofs.Pending.{undoable-roomier}
use Rattle.wm_jobs.proofs.Stood.{undoable-same}
use Rattle.wm_jobs.proofs.table.JobTable.make_room.Goals as goal

pub overflow_cast-launches : goal.overflow_cast-launches
overflow_cast-launches c =
    let few = few-waiters c.self.inside c.self.invariant.kept in
    let room = c.self.invariant.kept.room.few in
    let len = c.len-2.ensures.len in
    omega arith

pub overflow_add-launches : goal.overflow_add-launches
overflow_add-launches c =
    let few = few-waiters c.self.inside c.self.invariant.kept in
    let len = c.len-2.ensures.len in
    omega arith

pub overflow_add-undos : goal.overflow_add-undos
overflow_add-undos c =
    let few = few-waiters c.self.inside c.self.invariant.kept in
    let len = c.len-2.ensures.len in
    omega arith

pub overflow_add-more-3 : goal.overflow_add-more-3
overflow_add-more-3 c =
    let few = few-waiters c.self.inside c.self.invariant.kept in
    let len = c.len-2.ensures.len in
    omega arith

pub overflow_add-more-2 : goal.overflow_add-more-2
overflow_add-more-2 c =
    let few = few-waiters c.self.inside c.self.invariant.kept in
    let len = c.len-2.ensures.len in
    omega arith

pub overflow_add-launches-2 : goal.overflow_add-launches-2
overflow_add-launches-2 c =
    let few = few-waiters c.self.inside c.self.invariant.kept in
    let len = c.len-2.ensures.len in
    omega arith

pub overflow_add-launches-3 : goal.overflow_add-launches-3
overflow_add-launches-3 c =
    let few = few-waiters c.self.inside c.self.invariant.kept in
    let len = c.len-2.ensures.len in
    omega arith

pub invariant_of-self-in_err-reserve_all : goal.invariant_of-self-in_err-reserve_all
invariant_of-self-in_err-reserve_all c =
    let t = c.self.inside in
    let o = c.self.invariant.kept.room in
    let had = c.self.invariant.undos in
    let waits : length c.reserve_all.new.waiting.items ≡ length t.waiting.items = ap length c.reserve_all.ensures.items in
    let n : length c.reserve.new.self.items ≡ length t.jobs.items = ap length c.reserve.ensures.items in
    let touched : length c.reserve-2.new.self.items ≡ length t.touched.items = ap length c.reserve-2.ensures.items in
    let more-waits = c.reserve_all.ensures.waiting_spare in
    let more-counts = c.reserve_all.ensures.tally_spare in
    let more-starts = c.reserve_all.ensures.starting_spare in
    let more-lists = c.reserve_all.ensures.active_spare in
    let more-names = c.reserve_all.ensures.names_spare in
    let orders : length c.reserve_all.new.starting.items ≡ length t.starting.items = ap length c.reserve_all.ensures.orders in
    record {
      kept = reserved-inside t c.self.invariant.kept _ c.reserve.ensures.items c.reserve_all.ensures.items c.reserve_all.ensures.counts c.reserve_all.ensures.orders c.reserve_all.ensures.active c.reserve_all.ensures.prestart refl refl refl (record { to_stand = omega (arith, o.to_stand); few = omega (arith, o.few); to_wait = omega (arith, o.to_wait); to_count = omega (arith, o.to_count); to_start = omega (arith, o.to_start) }) (c.reserve_all.ensures.names t.jobs.items) (omega (arith, c.self.invariant.kept.named.to_name));
      undos = record { to_wait = omega (arith, had.to_wait, touched); to_count = omega (arith, had.to_count); to_list = omega (arith, had.to_list, waits, more-lists); to_seat = omega (arith, had.to_seat, waits, c.reserve_all.ensures.prestart_spare); to_name = omega (arith, had.to_name) };
      undoable = undoable-same t.mark t.touched.items c.reserve-2.new.self.items t.jobs.items c.reserve.new.self.items t.next_serial t.next_place (pending_of t.starting t.room) t.waiting.clock t.next_serial t.next_place _ c.reserve_all.new.waiting.clock c.self.invariant.undoable c.reserve-2.ensures.items (ap (take t.mark.jobs) c.reserve.ensures.items) (omega arith) (omega arith) (omega (arith, orders)) (omega (arith, c.reserve_all.ensures.clock));
      marked = record { there = omega (arith, n, c.self.invariant.marked.there); to_touch = omega (arith, touched, waits, c.reserve-2.ensures.capacity, c.self.invariant.marked.to_touch) };
    }

pub invariant_of-self-2 : goal.invariant_of-self-2
invariant_of-self-2 c =
    let t = c.self.inside in
    let o = c.self.invariant.kept.room in
    let taken = c.in_ok-reserve_all.ensures.ok in
    let waits : length c.reserve_all.new.waiting.items ≡ length t.waiting.items = ap length c.reserve_all.ensures.items in
    let n : length c.reserve.new.self.items ≡ length t.jobs.items = ap length c.reserve.ensures.items in
    let touched : length c.reserve-2.new.self.items ≡ length t.touched.items = ap length c.reserve-2.ensures.items in
    let few = few-waiters t c.self.invariant.kept in
    let orders : length c.reserve_all.new.starting.items ≡ length t.starting.items = ap length c.reserve_all.ensures.orders in
    let len = c.len-2.ensures.len in
    record {
      kept = reserved-inside t c.self.invariant.kept _ c.reserve.ensures.items c.reserve_all.ensures.items c.reserve_all.ensures.counts c.reserve_all.ensures.orders c.reserve_all.ensures.active c.reserve_all.ensures.prestart refl refl refl (record { to_stand = omega (arith, c.in_ok-reserve.ensures.ok); few = omega arith; to_wait = omega (arith, taken.to_wait); to_count = omega (arith, taken.to_count, waits); to_start = omega (arith, taken.to_start, waits) }) (c.reserve_all.ensures.names t.jobs.items) (omega (arith, taken.to_name));
      undos = record { to_wait = omega (arith, taken.to_wait, touched); to_count = omega (arith, taken.to_count, waits); to_list = omega (arith, taken.to_list, waits); to_seat = omega (arith, taken.to_seat, waits); to_name = omega (arith, taken.to_name) };
      undoable = undoable-roomier t c.self.invariant c.reserve-2.new.self.items c.reserve.new.self.items c.reserve_all.new.waiting.clock _ c.reserve-2.ensures.items c.reserve.ensures.items c.reserve_all.ensures.clock (omega (arith, orders, taken.to_start));
      marked = record { there = omega (arith, n, c.self.invariant.marked.there); to_touch = omega (arith, touched, waits, c.in_ok-reserve-2.ensures.ok) };
    }
