use Rattle.std.proofs.Common.{true, refl, sym, ◌∙◌, nat_eq}
use Rattle.std.specs.Ordering.{nat_cmp}
use Rattle.wm_desc.specs.Sorted.{place_of, removed}
use Rattle.wm_ordered.specs.Keys.{spot_of}
use Rattle.wm_ordered.specs.Index.{IsIndex}
use Rattle.wm_ordered.specs.Orders.{spot_cmp, same_spot}
use Rattle.wm_ordered.specs.Waiting.{serial_of}
use Rattle.wm_ordered.proofs.IndexLemmas.{index-lacks}
use Rattle.wm_ordered.proofs.Moves.{in_its_place, index-stays, spot-shrinks, left-spot, left-room, found-serial}
use Rattle.wm_ordered.proofs.Orders.{spot-itself, same_spot-is}
use Rattle.wm_ordered.proofs.moving.move_line.Goals as goal

pub returns-then-eq-clause-index : goal.returns-then-eq-clause-index
returns-then-eq-clause-index c = λ items replaces index.
    let same = same_spot-is c.of.result c.of-2.result (sym c.if-eq.ensures) in
    index-stays c.args.new.now c.args.old.now items replaces spot_of serial_of (λ w. true) c.args.lines.now.items index refl (λ _. sym c.of.ensures ∙ (same ∙ c.of-2.ensures)) (found-serial c.args.new.now c.args.old.now items replaces)

pub put_line-requires-clause-spare : goal.put_line-requires-clause-spare
put_line-requires-clause-spare c =
    let has = c.requires in
    let out : IsIndex spot_of serial_of (λ w. true) (removed serial_of nat_eq c.args.new.now.serial has.items) c.take_out.new.rows.items = rw (c.take_out.ensures.items, c.of-3.ensures) (spot-shrinks c.args.new.now.serial c.args.old.now has.items has.replaces.old_one serial_of (λ w. true) c.args.lines.now.items has.index) in
    left-room c.args.new.now c.args.old.now has.items has.replaces spot_of serial_of (λ w. true) spot_cmp spot-itself c.take_out.new.rows c.args.lines.now out c.len.ensures.sorted has.room c.take_out.ensures.capacity

pub put_line-requires-clause-new : goal.put_line-requires-clause-new
put_line-requires-clause-new c =
    let has = c.requires in
    let out : IsIndex spot_of serial_of (λ w. true) (removed serial_of nat_eq c.args.new.now.serial has.items) c.take_out.new.rows.items = rw (c.take_out.ensures.items, c.of-3.ensures) (spot-shrinks c.args.new.now.serial c.args.old.now has.items has.replaces.old_one serial_of (λ w. true) c.args.lines.now.items has.index) in
    index-lacks spot_of serial_of (λ w. true) (removed serial_of nat_eq c.args.new.now.serial has.items) c.take_out.new.rows.items out same_spot c.args.new.now (left-spot c.args.new.now c.args.old.now has.items has.replaces)

pub returns-clause-index : goal.returns-clause-index
returns-clause-index c = λ items replaces index.
    let left = removed serial_of nat_eq c.args.new.now.serial items in
    let out : IsIndex spot_of serial_of (λ w. true) left c.take_out.new.rows.items = rw (c.take_out.ensures.items, c.of-3.ensures) (spot-shrinks c.args.new.now.serial c.args.old.now items replaces.old_one serial_of (λ w. true) c.args.lines.now.items index) in
    in_its_place c.args.new.now c.args.old.now items replaces spot_of serial_of (λ w. true) c.put_line.new.lines.items (c.put_line.ensures.index left (place_of serial_of nat_cmp c.args.new.now.serial left) out)
