use Rattle.std.proofs.Common.{◌≡◌, ◌<◌, not, false, nat_eq, List, length, sym, ◌∙◌, subst, arith}
use Rattle.std.specs.Ordering.{nat_cmp}
use Rattle.std.proofs.lemmas.Bool.{not_from_true}
use Rattle.wm_desc.specs.Sorted.{has_key}
use Rattle.wm_ordered.specs.Ordered.{key_of}
use Rattle.wm_ordered.proofs.Members.{first-there, filter-less}
use Rattle.wm_ordered.specs.declared.keys.Rise.{Rise}
use Rattle.wm_ordered.specs.declared.keys.Spot.{Spot}
use Rattle.wm_ordered.specs.Bringing.{IsUnderway}
use Rattle.wm_ordered.specs.Keys.{waiters_of}
use Rattle.wm_ordered.specs.Orders.{same_spot, same_rise}
use Rattle.wm_ordered.proofs.Brought.{all-above, first-found, first-lacks, new-turn, turn-fits, underway-held, underway-turn}
use Rattle.wm_ordered.proofs.Orders.{above_from_gt, le_from_gt, rise_laws}
use Rattle.wm_ordered.proofs.Rows.{sorted-waiters, value-waiter, length-waiters}
use Rattle.wm_ordered.proofs.bringing.bring_first.Goals as goal

pub returns-then-gt-clause-done : goal.returns-then-gt-clause-done
returns-then-gt-clause-done c = λ _.
    all-above c.args.now (waiters_of c.args.all.now.items) c.args.turns.now.items c.args.early.now.items c.requires.underway c.len-3.ensures.sorted c.in-Some.row (sym c.in-Some.ensures) (above_from_gt c.in-Some.row.0.due c.args.now c.if-gt.ensures)

pub unreachable-requires : goal.unreachable-requires
unreachable-requires c =
    let serials = sorted-waiters c.args.all.now.items c.requires.keyed nat_cmp c.len.ensures.sorted in
    first-lacks c.args.now (waiters_of c.args.all.now.items) c.args.turns.now.items c.args.early.now.items c.requires.underway c.len-3.ensures.sorted c.in-Some.row (sym c.in-Some.ensures) serials (sym (value-waiter c.args.all.now.items c.requires.keyed nat_eq c.in-Some.row.0.serial) ∙ sym c.in_default-get.ensures)

pub returns-then-waiter-clause-underway : goal.returns-then-waiter-clause-underway
returns-then-waiter-clause-underway c =
    let serials = sorted-waiters c.args.all.now.items c.requires.keyed nat_cmp c.len.ensures.sorted in
    let named = sym (value-waiter c.args.all.now.items c.requires.keyed nat_eq c.in-Some.row.0.serial) ∙ sym c.in-Some-get.ensures in
    let has = first-found c.args.now (waiters_of c.args.all.now.items) c.args.turns.now.items c.args.early.now.items c.requires.underway c.len-3.ensures.sorted c.in-Some.row (sym c.in-Some.ensures) serials c.in-Some-get.waiter named in
    subst (λ (l : List (Rise × Unit {0})). IsUnderway c.args.now (waiters_of c.args.all.now.items) c.args.turns.now.items l) (sym c.take_out.ensures.items)
    (underway-held c.args.now (waiters_of c.args.all.now.items) c.args.turns.now.items c.args.early.now.items c.requires.underway c.len-3.ensures.sorted c.in-Some.row (sym c.in-Some.ensures) serials c.in-Some-get.waiter has.0 has.1 (le_from_gt c.in-Some.row.0.due c.args.now c.if-gt.ensures) c.if-waiter.true)

pub returns-then-waiter-clause-less : goal.returns-then-waiter-clause-less
returns-then-waiter-clause-less c = λ _.
    subst (λ (l : List (Rise × Unit {0})). length l < length c.args.early.now.items) (sym c.take_out.ensures.items)
    (filter-less (λ (q : Rise × Unit {0}). not (same_rise q.0 c.in-Some.row.0)) c.args.early.now.items c.in-Some.row (first-there c.args.early.now.items c.in-Some.row (sym c.in-Some.ensures)) (not_from_true _ (rise_laws.refl c.in-Some.row.0)))

pub insert-requires-clause-spare : goal.insert-requires-clause-spare
insert-requires-clause-spare c =
    let serials = sorted-waiters c.args.all.now.items c.requires.keyed nat_cmp c.len.ensures.sorted in
    let named = sym (value-waiter c.args.all.now.items c.requires.keyed nat_eq c.in-Some.row.0.serial) ∙ sym c.in-Some-get.ensures in
    let has = first-found c.args.now (waiters_of c.args.all.now.items) c.args.turns.now.items c.args.early.now.items c.requires.underway c.len-3.ensures.sorted c.in-Some.row (sym c.in-Some.ensures) serials c.in-Some-get.waiter named in
    let fits = turn-fits c.args.now (waiters_of c.args.all.now.items) c.args.turns.now.items c.args.early.now.items c.requires.underway c.len-3.ensures.sorted c.in-Some.row (sym c.in-Some.ensures) serials c.in-Some-get.waiter has.0 has.1 c.requires.places c.len-2.ensures.sorted in
    omega (arith, fits, length-waiters c.args.all.now.items, c.requires.room)

pub insert-requires-clause-new : goal.insert-requires-clause-new
insert-requires-clause-new c =
    let serials = sorted-waiters c.args.all.now.items c.requires.keyed nat_cmp c.len.ensures.sorted in
    let named = sym (value-waiter c.args.all.now.items c.requires.keyed nat_eq c.in-Some.row.0.serial) ∙ sym c.in-Some-get.ensures in
    let has = first-found c.args.now (waiters_of c.args.all.now.items) c.args.turns.now.items c.args.early.now.items c.requires.underway c.len-3.ensures.sorted c.in-Some.row (sym c.in-Some.ensures) serials c.in-Some-get.waiter named in
    subst (λ (k : Spot). has_key key_of same_spot k c.args.turns.now.items ≡ false) (sym c.of.ensures) (new-turn c.args.now (waiters_of c.args.all.now.items) c.args.turns.now.items c.args.early.now.items c.requires.underway c.len-3.ensures.sorted c.in-Some.row (sym c.in-Some.ensures) serials c.in-Some-get.waiter has.0 has.1 c.requires.places)

pub returns-clause-underway : goal.returns-clause-underway
returns-clause-underway c =
    let serials = sorted-waiters c.args.all.now.items c.requires.keyed nat_cmp c.len.ensures.sorted in
    let named = sym (value-waiter c.args.all.now.items c.requires.keyed nat_eq c.in-Some.row.0.serial) ∙ sym c.in-Some-get.ensures in
    let has = first-found c.args.now (waiters_of c.args.all.now.items) c.args.turns.now.items c.args.early.now.items c.requires.underway c.len-3.ensures.sorted c.in-Some.row (sym c.in-Some.ensures) serials c.in-Some-get.waiter named in
    rw (c.insert.ensures.items, c.of.ensures, c.take_out.ensures.items) (underway-turn c.args.now (waiters_of c.args.all.now.items) c.args.turns.now.items c.args.early.now.items c.requires.underway c.len-3.ensures.sorted c.in-Some.row (sym c.in-Some.ensures) serials c.in-Some-get.waiter has.0 has.1 _ (le_from_gt c.in-Some.row.0.due c.args.now c.if-gt.ensures) c.if-waiter.false)

pub returns-clause-less : goal.returns-clause-less
returns-clause-less c = λ _.
    subst (λ (l : List (Rise × Unit {0})). length l < length c.args.early.now.items) (sym c.take_out.ensures.items)
    (filter-less (λ (q : Rise × Unit {0}). not (same_rise q.0 c.in-Some.row.0)) c.args.early.now.items c.in-Some.row (first-there c.args.early.now.items c.in-Some.row (sym c.in-Some.ensures)) (not_from_true _ (rise_laws.refl c.in-Some.row.0)))
