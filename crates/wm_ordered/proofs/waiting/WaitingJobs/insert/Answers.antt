use Rattle.std.proofs.Common.{◌≡◌, ◌≤◌, ℕ, true, false, nat_eq, List, sym, ap, subst, ◌∙◌, arith}
use Rattle.std.specs.Ordering.{nat_cmp}
use Rattle.wm_desc.specs.Sorted.{has_key, added}
use Rattle.wm_ordered.specs.declared.waiter.Waiter.{Waiter}
use Rattle.wm_ordered.specs.Keys.{waiters_of, spot_of, rise_of, nothing_of}
use Rattle.wm_ordered.specs.Orders.{spot_cmp, rise_cmp, same_spot, same_rise}
use Rattle.wm_ordered.specs.Waiting.{Waiting, serial_of, has_place, is_up, is_ahead}
use Rattle.wm_ordered.proofs.Agreement.{agrees-insert, apart-spots, apart-rises}
use Rattle.wm_ordered.proofs.IndexLemmas.{index-length, index-lacks}
use Rattle.wm_ordered.proofs.Orders.{spot-itself, rise-itself}
use Rattle.wm_ordered.proofs.Rows.{length-waiters, has-waiter, waiters-added}
use Rattle.wm_ordered.proofs.waiting.WaitingJobs.insert.Goals as goal

pub enlist-requires-clause-spare_turn : goal.enlist-requires-clause-spare_turn
enlist-requires-clause-spare_turn c =
    let few = index-length spot_of serial_of (is_up c.self.inside.clock) (waiters_of c.self.inside.all.items) c.self.inside.turns.items c.self.invariant.turns spot_cmp spot-itself c.len.ensures.sorted in
    let n = length-waiters c.self.inside.all.items in
    let spare : c.self.inside.room ≡ c.args.self.now.spare = ap (λ (p : Waiting). p.spare) c.self.view_is in
    omega (arith, few, n, spare, c.requires.spare, c.self.invariant.room_in_turns)

pub enlist-requires-clause-spare_early : goal.enlist-requires-clause-spare_early
enlist-requires-clause-spare_early c =
    let few = index-length rise_of nothing_of (is_ahead c.self.inside.clock) (waiters_of c.self.inside.all.items) c.self.inside.early.items c.self.invariant.early rise_cmp rise-itself c.len-2.ensures.sorted in
    let n = length-waiters c.self.inside.all.items in
    let spare : c.self.inside.room ≡ c.args.self.now.spare = ap (λ (p : Waiting). p.spare) c.self.view_is in
    omega (arith, few, n, spare, c.requires.spare, c.self.invariant.room_in_early)

pub enlist-requires-clause-new_turn : goal.enlist-requires-clause-new_turn
enlist-requires-clause-new_turn c =
    let fresh : has_place c.args.waiter.place (waiters_of c.self.inside.all.items) ≡ false = subst (λ (p : Waiting). has_place c.args.waiter.place p.items ≡ false) (sym c.self.view_is) c.requires.place in
    index-lacks spot_of serial_of (is_up c.self.inside.clock) (waiters_of c.self.inside.all.items) c.self.inside.turns.items c.self.invariant.turns same_spot c.args.waiter (apart-spots c.args.waiter (waiters_of c.self.inside.all.items) fresh)

pub enlist-requires-clause-new_early : goal.enlist-requires-clause-new_early
enlist-requires-clause-new_early c =
    let fresh : has_key serial_of nat_eq c.args.waiter.serial (waiters_of c.self.inside.all.items) ≡ false = subst (λ (p : Waiting). has_key serial_of nat_eq c.args.waiter.serial p.items ≡ false) (sym c.self.view_is) c.requires.serial in
    index-lacks rise_of nothing_of (is_ahead c.self.inside.clock) (waiters_of c.self.inside.all.items) c.self.inside.early.items c.self.invariant.early same_rise c.args.waiter (apart-rises c.args.waiter (waiters_of c.self.inside.all.items) fresh)

pub put_line-requires-clause-spare : goal.put_line-requires-clause-spare
put_line-requires-clause-spare c =
    let few = index-length spot_of serial_of (λ w. true) (waiters_of c.self.inside.all.items) c.self.inside.lines.items c.self.invariant.lines spot_cmp spot-itself c.len-3.ensures.sorted in
    let n = length-waiters c.self.inside.all.items in
    let spare : c.self.inside.room ≡ c.args.self.now.spare = ap (λ (p : Waiting). p.spare) c.self.view_is in
    omega (arith, few, n, spare, c.requires.spare, c.self.invariant.room_in_lines)

pub put_line-requires-clause-new : goal.put_line-requires-clause-new
put_line-requires-clause-new c =
    let fresh : has_place c.args.waiter.place (waiters_of c.self.inside.all.items) ≡ false = subst (λ (p : Waiting). has_place c.args.waiter.place p.items ≡ false) (sym c.self.view_is) c.requires.place in
    index-lacks spot_of serial_of (λ w. true) (waiters_of c.self.inside.all.items) c.self.inside.lines.items c.self.invariant.lines same_spot c.args.waiter (apart-spots c.args.waiter (waiters_of c.self.inside.all.items) fresh)

pub insert-requires-clause-new : goal.insert-requires-clause-new
insert-requires-clause-new c =
    let fresh : has_key serial_of nat_eq c.args.waiter.serial (waiters_of c.self.inside.all.items) ≡ false = subst (λ (p : Waiting). has_key serial_of nat_eq c.args.waiter.serial p.items ≡ false) (sym c.self.view_is) c.requires.serial in
    has-waiter c.self.inside.all.items c.self.invariant.keyed nat_eq c.args.waiter.serial ∙ fresh

pub invariant_of-self : goal.invariant_of-self
invariant_of-self c =
    let fresh : has_place c.args.waiter.place (waiters_of c.self.inside.all.items) ≡ false = subst (λ (p : Waiting). has_place c.args.waiter.place p.items ≡ false) (sym c.self.view_is) c.requires.place in
    let spare : c.self.inside.room ≡ c.args.self.now.spare = ap (λ (p : Waiting). p.spare) c.self.view_is in
    let some : 1 ≤ c.self.inside.room = omega (arith, spare, c.requires.spare) in
    agrees-insert c.self.inside.all c.self.inside.turns c.self.inside.early c.self.inside.lines c.self.inside.clock c.self.inside.room c.self.invariant c.args.waiter c.insert.new.self c.enlist.new.turns c.enlist.new.early c.put_line.new.lines some fresh (c.get.ensures.least, c.get.ensures.greatest)
    c.insert.ensures.items c.insert.ensures.spare c.enlist.ensures.turns c.enlist.ensures.early c.put_line.ensures.index c.enlist.ensures.capacity_turns c.enlist.ensures.capacity_early c.put_line.ensures.capacity

pub returns-clause-items : goal.returns-clause-items
returns-clause-items c =
    ap (λ (l : List (ℕ × Waiter)). waiters_of l) c.insert.ensures.items ∙ (waiters-added c.self.inside.all.items c.self.invariant.keyed nat_cmp c.args.waiter ∙ ap (λ (p : Waiting). added serial_of nat_cmp c.args.waiter p.items) c.self.view_is)
