use Rattle.std.proofs.Common.{refl, nat_eq}
use Rattle.std.specs.Ordering.{nat_cmp}
use Rattle.wm_desc.specs.Sorted.{place_of, removed}
use Rattle.wm_ordered.specs.Keys.{spot_of, rise_of, nothing_of}
use Rattle.wm_ordered.specs.Orders.{spot_cmp, rise_cmp, same_spot, same_rise}
use Rattle.wm_ordered.specs.Waiting.{serial_of, is_up, is_ahead}
use Rattle.wm_ordered.proofs.IndexLemmas.{index-lacks}
use Rattle.wm_ordered.proofs.Moves.{in_its_place, index-stays, left-spot, left-rise, left-room, found-serial}
use Rattle.wm_ordered.proofs.Orders.{spot-itself, rise-itself, same-rise_of}
use Rattle.wm_ordered.proofs.moving.relist.Goals as goal

pub returns-then-is_listed_alike-clause-turns : goal.returns-then-is_listed_alike-clause-turns
returns-then-is_listed_alike-clause-turns c = λ items replaces index.
    let alike = c.if-is_listed_alike.ensures refl in
    index-stays c.args.new.now c.args.old.now items replaces spot_of serial_of (is_up c.args.clock) c.args.turns.now.items index alike.up alike.spot (found-serial c.args.new.now c.args.old.now items replaces)

pub returns-then-is_listed_alike-clause-early : goal.returns-then-is_listed_alike-clause-early
returns-then-is_listed_alike-clause-early c = λ items replaces index.
    let alike = c.if-is_listed_alike.ensures refl in
    index-stays c.args.new.now c.args.old.now items replaces rise_of nothing_of (is_ahead c.args.clock) c.args.early.now.items index alike.ahead (λ ahead. same-rise_of c.args.old.now c.args.new.now (alike.due ahead) (found-serial c.args.new.now c.args.old.now items replaces)) refl

pub enlist-requires-clause-spare_turn : goal.enlist-requires-clause-spare_turn
enlist-requires-clause-spare_turn c =
    let has = c.requires.turns in
    let index = c.delist.ensures.turns c.args.new.now.serial has.items has.replaces.old_one has.index in
    left-room c.args.new.now c.args.old.now has.items has.replaces spot_of serial_of (is_up c.args.clock) spot_cmp spot-itself c.delist.new.turns c.args.turns.now index c.len.ensures.sorted has.room c.delist.ensures.capacity_turns

pub enlist-requires-clause-spare_early : goal.enlist-requires-clause-spare_early
enlist-requires-clause-spare_early c =
    let has = c.requires.early in
    let index = c.delist.ensures.early c.args.new.now.serial has.items has.replaces.old_one has.index in
    left-room c.args.new.now c.args.old.now has.items has.replaces rise_of nothing_of (is_ahead c.args.clock) rise_cmp rise-itself c.delist.new.early c.args.early.now index c.len-2.ensures.sorted has.room c.delist.ensures.capacity_early

pub enlist-requires-clause-new_turn : goal.enlist-requires-clause-new_turn
enlist-requires-clause-new_turn c =
    let has = c.requires.turns in
    let index = c.delist.ensures.turns c.args.new.now.serial has.items has.replaces.old_one has.index in
    index-lacks spot_of serial_of (is_up c.args.clock) (removed serial_of nat_eq c.args.new.now.serial has.items) c.delist.new.turns.items index same_spot c.args.new.now (left-spot c.args.new.now c.args.old.now has.items has.replaces)

pub enlist-requires-clause-new_early : goal.enlist-requires-clause-new_early
enlist-requires-clause-new_early c =
    let has = c.requires.early in
    let index = c.delist.ensures.early c.args.new.now.serial has.items has.replaces.old_one has.index in
    index-lacks rise_of nothing_of (is_ahead c.args.clock) (removed serial_of nat_eq c.args.new.now.serial has.items) c.delist.new.early.items index same_rise c.args.new.now (left-rise c.args.new.now c.args.old.now has.items has.replaces)

pub returns-clause-turns : goal.returns-clause-turns
returns-clause-turns c = λ items replaces index.
    let left = removed serial_of nat_eq c.args.new.now.serial items in
    let out = c.delist.ensures.turns c.args.new.now.serial items replaces.old_one index in
    in_its_place c.args.new.now c.args.old.now items replaces spot_of serial_of (is_up c.args.clock) c.enlist.new.turns.items (c.enlist.ensures.turns left (place_of serial_of nat_cmp c.args.new.now.serial left) out)

pub returns-clause-early : goal.returns-clause-early
returns-clause-early c = λ items replaces index.
    let left = removed serial_of nat_eq c.args.new.now.serial items in
    let out = c.delist.ensures.early c.args.new.now.serial items replaces.old_one index in
    in_its_place c.args.new.now c.args.old.now items replaces rise_of nothing_of (is_ahead c.args.clock) c.enlist.new.early.items (c.enlist.ensures.early left (place_of serial_of nat_cmp c.args.new.now.serial left) out)
