use Rattle.std.proofs.Common.{◌+◌, ◌-◌, length, vec_len, vec_capacity, option_map, ap, sym, ◌∙◌, subst, arith}
use Rattle.wm_desc.specs.Sorted.{removed}
use Rattle.wm_ordered.specs.Ordered.{Pairs, key_of, value_at}
use Rattle.wm_ordered.specs.Tree.{IsOrdered, pairs_under}
use Rattle.wm_ordered.proofs.Whole.{tree_of, read, written-back, after-nothing, after-one, some-left}
use Rattle.wm_ordered.proofs.ordered.Ordered.remove.Goals as goal

pub invariant_of-self : goal.invariant_of-self
invariant_of-self g c =
    let inv = c.self.invariant in
    let back = written-back (vec_len c.self.inside.nodes) c.take_out-root.new.nodes c.deref_mut.result.now c.self.inside.nodes.items c.take_out-root.ensures.len c.deref_mut.ensures.value c.deref_mut.ensures.len in
    let long = c.take_out-root.ensures.len ∙ ap length c.deref_mut.ensures.value in
    let tree = tree_of inv _ c.deref_mut.ensures.value in
    let left = c.take_out-root.ensures.items inv.places inv.pairs tree in
    let value = c.take_out-root.ensures.value inv.places inv.pairs tree in
    let none = sym value ∙ ap (option_map (λ taken. taken.1)) c.in_default.is in
    subst (λ ns. IsOrdered g.K.Ord.cmp ns c.take_out-root.result.0 c.self.inside.len c.self.inside.free.items c.self.inside.room (vec_capacity c.self.inside.nodes) (vec_capacity c.self.inside.free)) (sym back) (after-nothing g.met.K.Ord.total g.K.PartialEq.eq g.met.K.Ord.matches_eq c.args.key.now inv c.take_out-root.new.nodes c.take_out-root.result.0 c.take_out-root.result.1 c.in_default.is none long left)

pub returns-in_default-clause-value : goal.returns-in_default-clause-value
returns-in_default-clause-value g c =
    let inv = c.self.invariant in
    let same = sym (read inv) ∙ ap (λ (p : Pairs g.row.K.Denot g.row.V.Denot). p.items) c.self.view_is in
    let tree = tree_of inv _ c.deref_mut.ensures.value in
    let left = c.take_out-root.ensures.items inv.places inv.pairs tree in
    let value = c.take_out-root.ensures.value inv.places inv.pairs tree in
    let none = sym value ∙ ap (option_map (λ taken. taken.1)) c.in_default.is in
    sym none ∙ ap (value_at g.K.PartialEq.eq c.args.key.now) same

pub returns-in_default-clause-items : goal.returns-in_default-clause-items
returns-in_default-clause-items g c =
    let inv = c.self.invariant in
    let same = sym (read inv) ∙ ap (λ (p : Pairs g.row.K.Denot g.row.V.Denot). p.items) c.self.view_is in
    let back = written-back (vec_len c.self.inside.nodes) c.take_out-root.new.nodes c.deref_mut.result.now c.self.inside.nodes.items c.take_out-root.ensures.len c.deref_mut.ensures.value c.deref_mut.ensures.len in
    let long = c.take_out-root.ensures.len ∙ ap length c.deref_mut.ensures.value in
    let tree = tree_of inv _ c.deref_mut.ensures.value in
    let left = c.take_out-root.ensures.items inv.places inv.pairs tree in
    let value = c.take_out-root.ensures.value inv.places inv.pairs tree in
    let none = sym value ∙ ap (option_map (λ taken. taken.1)) c.in_default.is in
    ap (λ ns. pairs_under c.self.inside.len ns c.take_out-root.result.0) back
    ∙ (read (after-nothing g.met.K.Ord.total g.K.PartialEq.eq g.met.K.Ord.matches_eq c.args.key.now inv c.take_out-root.new.nodes c.take_out-root.result.0 c.take_out-root.result.1 c.in_default.is none long left)
    ∙ ap (removed key_of g.K.PartialEq.eq c.args.key.now) same)

pub give_place-requires : goal.give_place-requires
give_place-requires g c =
    let inv = c.self.invariant in
    let back = written-back (vec_len c.self.inside.nodes) c.take_out-root.new.nodes c.deref_mut.result.now c.self.inside.nodes.items c.take_out-root.ensures.len c.deref_mut.ensures.value c.deref_mut.ensures.len in
    let long = c.take_out-root.ensures.len ∙ ap length c.deref_mut.ensures.value in
    let tree = tree_of inv _ c.deref_mut.ensures.value in
    let left = c.take_out-root.ensures.items inv.places inv.pairs tree in
    let value = c.take_out-root.ensures.value inv.places inv.pairs tree in
    let is = c.in-Some.is in
    let some = sym value ∙ ap (option_map (λ taken. taken.1)) is in
    let some_left = some-left g.met.K.Ord.total g.K.PartialEq.eq g.met.K.Ord.matches_eq c.args.key.now inv c.take_out-root.new.nodes c.take_out-root.result.0 c.take_out-root.result.1 c.in-Some.found.0 c.in-Some.found.1 is some long left in
    record { room = omega (arith, inv.few, inv.free_room, some_left) }

pub overflow_sub-self : goal.overflow_sub-self
overflow_sub-self g c =
    let inv = c.self.invariant in
    let back = written-back (vec_len c.self.inside.nodes) c.take_out-root.new.nodes c.deref_mut.result.now c.self.inside.nodes.items c.take_out-root.ensures.len c.deref_mut.ensures.value c.deref_mut.ensures.len in
    let long = c.take_out-root.ensures.len ∙ ap length c.deref_mut.ensures.value in
    let tree = tree_of inv _ c.deref_mut.ensures.value in
    let left = c.take_out-root.ensures.items inv.places inv.pairs tree in
    let value = c.take_out-root.ensures.value inv.places inv.pairs tree in
    let is = c.in-Some.is in
    let some = sym value ∙ ap (option_map (λ taken. taken.1)) is in
    some-left g.met.K.Ord.total g.K.PartialEq.eq g.met.K.Ord.matches_eq c.args.key.now inv c.take_out-root.new.nodes c.take_out-root.result.0 c.take_out-root.result.1 c.in-Some.found.0 c.in-Some.found.1 is some long left

pub invariant_of-self-2 : goal.invariant_of-self-2
invariant_of-self-2 g c =
    let inv = c.self.invariant in
    let back = written-back (vec_len c.self.inside.nodes) c.take_out-root.new.nodes c.deref_mut.result.now c.self.inside.nodes.items c.take_out-root.ensures.len c.deref_mut.ensures.value c.deref_mut.ensures.len in
    let long = c.take_out-root.ensures.len ∙ ap length c.deref_mut.ensures.value in
    let tree = tree_of inv _ c.deref_mut.ensures.value in
    let left = c.take_out-root.ensures.items inv.places inv.pairs tree in
    let value = c.take_out-root.ensures.value inv.places inv.pairs tree in
    let is = c.in-Some.is in
    let some = sym value ∙ ap (option_map (λ taken. taken.1)) is in
    subst (λ ns. IsOrdered g.K.Ord.cmp ns c.take_out-root.result.0 (c.self.inside.len - 1) c.give_place.new.free.items (c.self.inside.room + 1) (vec_capacity c.self.inside.nodes) (vec_capacity c.give_place.new.free)) (sym back) (after-one g.met.K.Ord.total g.K.PartialEq.eq g.met.K.Ord.matches_eq c.args.key.now inv c.take_out-root.new.nodes c.take_out-root.result.0 c.take_out-root.result.1 c.in-Some.found.0 c.in-Some.found.1 is some long left c.give_place.new.free.items _ c.give_place.ensures.times c.give_place.ensures.there c.give_place.ensures.len c.give_place.ensures.capacity)

pub returns-clause-value : goal.returns-clause-value
returns-clause-value g c =
    let inv = c.self.invariant in
    let same = sym (read inv) ∙ ap (λ (p : Pairs g.row.K.Denot g.row.V.Denot). p.items) c.self.view_is in
    let tree = tree_of inv _ c.deref_mut.ensures.value in
    let left = c.take_out-root.ensures.items inv.places inv.pairs tree in
    let value = c.take_out-root.ensures.value inv.places inv.pairs tree in
    let is = c.in-Some.is in
    let some = sym value ∙ ap (option_map (λ taken. taken.1)) is in
    sym some ∙ ap (value_at g.K.PartialEq.eq c.args.key.now) same

pub returns-clause-items : goal.returns-clause-items
returns-clause-items g c =
    let inv = c.self.invariant in
    let same = sym (read inv) ∙ ap (λ (p : Pairs g.row.K.Denot g.row.V.Denot). p.items) c.self.view_is in
    let back = written-back (vec_len c.self.inside.nodes) c.take_out-root.new.nodes c.deref_mut.result.now c.self.inside.nodes.items c.take_out-root.ensures.len c.deref_mut.ensures.value c.deref_mut.ensures.len in
    let long = c.take_out-root.ensures.len ∙ ap length c.deref_mut.ensures.value in
    let tree = tree_of inv _ c.deref_mut.ensures.value in
    let left = c.take_out-root.ensures.items inv.places inv.pairs tree in
    let value = c.take_out-root.ensures.value inv.places inv.pairs tree in
    let is = c.in-Some.is in
    let some = sym value ∙ ap (option_map (λ taken. taken.1)) is in
    ap (λ ns. pairs_under (c.self.inside.len - 1) ns c.take_out-root.result.0) back
    ∙ (read (after-one g.met.K.Ord.total g.K.PartialEq.eq g.met.K.Ord.matches_eq c.args.key.now inv c.take_out-root.new.nodes c.take_out-root.result.0 c.take_out-root.result.1 c.in-Some.found.0 c.in-Some.found.1 is some long left c.give_place.new.free.items _ c.give_place.ensures.times c.give_place.ensures.there c.give_place.ensures.len c.give_place.ensures.capacity)
    ∙ ap (removed key_of g.K.PartialEq.eq c.args.key.now) same)
