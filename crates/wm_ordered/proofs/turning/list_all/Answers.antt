use Rattle.std.proofs.Common.{◌≡◌, suc, ◌+◌, List, take, take_all, length, refl, ap, sym, ◌∙◌, subst, arith}
use Rattle.std.specs.List.{insert, slice_get}
use Rattle.std.specs.Ordering.{nat_cmp}
use Rattle.std.proofs.lemmas.List.{length-take}
use Rattle.wm_ordered.proofs.Walked.{next-row}
use Rattle.wm_ordered.specs.declared.waiter.Waiter.{Waiter}
use Rattle.wm_ordered.specs.Index.{IsIndex}
use Rattle.wm_ordered.specs.Keys.{waiters_of, spot_of, rise_of, nothing_of}
use Rattle.wm_ordered.specs.Orders.{spot_cmp, rise_cmp, same_spot, same_rise}
use Rattle.wm_ordered.specs.Waiting.{serial_of, is_up, is_ahead}
use Rattle.wm_ordered.proofs.Agreement.{apart-spots, apart-rises}
use Rattle.wm_ordered.proofs.IndexLemmas.{index-length, index-lacks}
use Rattle.wm_ordered.proofs.Orders.{spot-itself, rise-itself}
use Rattle.wm_ordered.proofs.Rows.{sorted-waiters, length-waiters}
use Rattle.wm_ordered.proofs.Turned.{index-nobody, waiter-at, one-more, serial-new, place-new, none-beyond}
use Rattle.wm_ordered.proofs.turning.list_all.Goals as goal

pub loop-count-init : goal.loop-count-init
loop-count-init c =
    record {
      next = refl;
      turns = index-nobody spot_of serial_of (is_up c.args.clock) c.args.turns.now.items c.requires.turns;
      early = index-nobody rise_of nothing_of (is_ahead c.args.clock) c.args.early.now.items c.requires.early;
      capacity_turns = refl;
      capacity_early = refl;
    }

pub unreachable-requires : goal.unreachable-requires
unreachable-requires c =
    let n = none-beyond c.args.all.now.items c.loop-count._count (sym c.loop-count.invariant.next ∙ sym c.in_default.ensures) in
    omega (arith, n, c.len-count-end.ensures.len)

pub enlist-requires-clause-spare_turn : goal.enlist-requires-clause-spare_turn
enlist-requires-clause-spare_turn c =
    let first : List Waiter = take c.loop-count._count (waiters_of c.args.all.now.items) in
    let few = index-length spot_of serial_of (is_up c.args.clock) first c.loop-count.turns.items c.loop-count.invariant.turns spot_cmp spot-itself c.len.ensures.sorted in
    let n = length-take c.loop-count._count (waiters_of c.args.all.now.items) in
    omega (arith, few, n, c.loop-count.invariant.capacity_turns, c.requires.room_in_turns, c.len-count-end.ensures.len)

pub enlist-requires-clause-spare_early : goal.enlist-requires-clause-spare_early
enlist-requires-clause-spare_early c =
    let first : List Waiter = take c.loop-count._count (waiters_of c.args.all.now.items) in
    let few = index-length rise_of nothing_of (is_ahead c.args.clock) first c.loop-count.early.items c.loop-count.invariant.early rise_cmp rise-itself c.len-in-loop-count.ensures.sorted in
    let n = length-take c.loop-count._count (waiters_of c.args.all.now.items) in
    omega (arith, few, n, c.loop-count.invariant.capacity_early, c.requires.room_in_early, c.len-count-end.ensures.len)

pub enlist-requires-clause-new_turn : goal.enlist-requires-clause-new_turn
enlist-requires-clause-new_turn c =
    let k = c.loop-count._count in
    let w = c.in-Some.row.1 in
    let ws : List Waiter = waiters_of c.args.all.now.items in
    let sorted = sorted-waiters c.args.all.now.items c.requires.keyed nat_cmp c.len-count-end.ensures.sorted in
    let at = waiter-at c.args.all.now.items k c.in-Some.row.0 w (sym c.loop-count.invariant.next ∙ sym c.in-Some.ensures) in
    index-lacks spot_of serial_of (is_up c.args.clock) (take k ws) c.loop-count.turns.items c.loop-count.invariant.turns same_spot w (apart-spots w (take k ws) (place-new ws k w sorted at c.requires.places))

pub enlist-requires-clause-new_early : goal.enlist-requires-clause-new_early
enlist-requires-clause-new_early c =
    let k = c.loop-count._count in
    let w = c.in-Some.row.1 in
    let ws : List Waiter = waiters_of c.args.all.now.items in
    let sorted = sorted-waiters c.args.all.now.items c.requires.keyed nat_cmp c.len-count-end.ensures.sorted in
    let at = waiter-at c.args.all.now.items k c.in-Some.row.0 w (sym c.loop-count.invariant.next ∙ sym c.in-Some.ensures) in
    index-lacks rise_of nothing_of (is_ahead c.args.clock) (take k ws) c.loop-count.early.items c.loop-count.invariant.early same_rise w (apart-rises w (take k ws) (serial-new ws k w sorted at))

pub loop-count-preserved : goal.loop-count-preserved
loop-count-preserved c =
    let k = c.loop-count._count in
    let w = c.in-Some.row.1 in
    let all = c.args.all.now.items in
    let ws : List Waiter = waiters_of all in
    let row = sym c.loop-count.invariant.next ∙ sym c.in-Some.ensures in
    let more = one-more ws k w (waiter-at all k c.in-Some.row.0 w row) in
    let next : suc k ≡ k + 1 = omega arith in
    let first : insert (take k ws) k w ≡ take (k + 1) ws = more ∙ ap (λ n. take n ws) next in
    record {
      next = next-row all k c.in-Some.row c.len-count-end.ensures.sorted row ∙ ap (slice_get all) next;
      turns = subst (λ l. IsIndex spot_of serial_of (is_up c.args.clock) l c.enlist.new.turns.items) first (c.enlist.ensures.turns (take k ws) k c.loop-count.invariant.turns);
      early = subst (λ l. IsIndex rise_of nothing_of (is_ahead c.args.clock) l c.enlist.new.early.items) first (c.enlist.ensures.early (take k ws) k c.loop-count.invariant.early);
      capacity_turns = c.enlist.ensures.capacity_turns ∙ c.loop-count.invariant.capacity_turns;
      capacity_early = c.enlist.ensures.capacity_early ∙ c.loop-count.invariant.capacity_early;
    }

pub returns-clause-turns : goal.returns-clause-turns
returns-clause-turns c =
    let ws : List Waiter = waiters_of c.args.all.now.items in
    let n : c.loop-count._count ≡ length ws = omega (arith, length-waiters c.args.all.now.items, c.len-count-end.ensures.len) in
    subst (λ l. IsIndex spot_of serial_of (is_up c.args.clock) l c.loop-count.turns.items) (take_all c.loop-count._count ws (omega (arith, n))) c.loop-count.invariant.turns

pub returns-clause-early : goal.returns-clause-early
returns-clause-early c =
    let ws : List Waiter = waiters_of c.args.all.now.items in
    let n : c.loop-count._count ≡ length ws = omega (arith, length-waiters c.args.all.now.items, c.len-count-end.ensures.len) in
    subst (λ l. IsIndex rise_of nothing_of (is_ahead c.args.clock) l c.loop-count.early.items) (take_all c.loop-count._count ws (omega (arith, n))) c.loop-count.invariant.early
