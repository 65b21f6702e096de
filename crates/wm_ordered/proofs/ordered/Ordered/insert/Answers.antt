use Rattle.std.proofs.Common.{◌≡◌, ◌≤◌, ◌+◌, ◌-◌, false, length, vec_len, vec_capacity, ap, sym, ◌∙◌, subst, arith}
use Rattle.wm_desc.specs.Sorted.{has_key, added}
use Rattle.wm_ordered.specs.Ordered.{Pairs, key_of}
use Rattle.wm_ordered.specs.Tree.{IsOrdered, pairs_under}
use Rattle.wm_ordered.proofs.Whole.{read, written-back, tree-between, free-place, after-put}
use Rattle.wm_ordered.proofs.ordered.Ordered.insert.Goals as goal

pub take_place-place-requires-clause-few : goal.take_place-place-requires-clause-few
take_place-place-requires-clause-few g c =
    let inv = c.self.invariant in
    λ none. omega (arith, none, inv.all, inv.fits, c.requires.spare, ap (λ (p : Pairs g.row.K.Denot g.row.V.Denot). p.spare) c.self.view_is)

pub invariant_of-self : goal.invariant_of-self
invariant_of-self g c =
    let inv = c.self.invariant in
    let same = sym (read inv) ∙ ap (λ (p : Pairs g.row.K.Denot g.row.V.Denot). p.items) c.self.view_is in
    let fresh = subst (λ xs. has_key key_of g.K.PartialEq.eq c.args.key xs ≡ false) (sym same) c.requires.new in
    let spare : 1 ≤ c.self.inside.room = omega (arith, c.requires.spare, ap (λ (p : Pairs g.row.K.Denot g.row.V.Denot). p.spare) c.self.view_is) in
    let back = written-back (vec_len c.take_place-place.new.nodes) c.put_in-self-inside.new.nodes c.deref_mut.result.now c.take_place-place.new.nodes.items c.put_in-self-inside.ensures.len c.deref_mut.ensures.value c.deref_mut.ensures.len in
    let long = c.put_in-self-inside.ensures.len ∙ ap length c.deref_mut.ensures.value in
    let took = c.take_place-place.ensures in
    let tree = tree-between inv c.take_place-place.new.nodes.items c.put_in-self-inside.new.nodes c.put_in-self-inside.result c.take_place-place.result c.take_place-place.new.free.items took.others took.apart c.deref_mut.result.now c.deref_mut.ensures.value in
    let free = free-place inv c.take_place-place.new.nodes.items c.put_in-self-inside.new.nodes c.put_in-self-inside.result c.take_place-place.result c.take_place-place.new.free.items took.others took.apart in
    let all = c.put_in-self-inside.ensures.items inv.places inv.pairs tree free in
    subst (λ ns. IsOrdered g.K.Ord.cmp ns c.put_in-self-inside.result (c.self.inside.len + 1) c.take_place-place.new.free.items (c.self.inside.room - 1) (vec_capacity c.take_place-place.new.nodes) (vec_capacity c.take_place-place.new.free)) (sym back) (after-put inv c.take_place-place.new.nodes.items c.put_in-self-inside.new.nodes c.put_in-self-inside.result c.take_place-place.result c.take_place-place.new.free.items took.others took.apart g.met.K.Ord.total g.K.PartialEq.eq g.met.K.Ord.matches_eq (c.args.key, c.args.value) _ _ fresh spare all long took.free took.all took.fewer took.capacity took.free_capacity)

pub returns-clause-items : goal.returns-clause-items
returns-clause-items g c =
    let inv = c.self.invariant in
    let same = sym (read inv) ∙ ap (λ (p : Pairs g.row.K.Denot g.row.V.Denot). p.items) c.self.view_is in
    let fresh = subst (λ xs. has_key key_of g.K.PartialEq.eq c.args.key xs ≡ false) (sym same) c.requires.new in
    let spare : 1 ≤ c.self.inside.room = omega (arith, c.requires.spare, ap (λ (p : Pairs g.row.K.Denot g.row.V.Denot). p.spare) c.self.view_is) in
    let back = written-back (vec_len c.take_place-place.new.nodes) c.put_in-self-inside.new.nodes c.deref_mut.result.now c.take_place-place.new.nodes.items c.put_in-self-inside.ensures.len c.deref_mut.ensures.value c.deref_mut.ensures.len in
    let long = c.put_in-self-inside.ensures.len ∙ ap length c.deref_mut.ensures.value in
    let took = c.take_place-place.ensures in
    let tree = tree-between inv c.take_place-place.new.nodes.items c.put_in-self-inside.new.nodes c.put_in-self-inside.result c.take_place-place.result c.take_place-place.new.free.items took.others took.apart c.deref_mut.result.now c.deref_mut.ensures.value in
    let free = free-place inv c.take_place-place.new.nodes.items c.put_in-self-inside.new.nodes c.put_in-self-inside.result c.take_place-place.result c.take_place-place.new.free.items took.others took.apart in
    let all = c.put_in-self-inside.ensures.items inv.places inv.pairs tree free in
    ap (λ ns. pairs_under (c.self.inside.len + 1) ns c.put_in-self-inside.result) back
    ∙ (read (after-put inv c.take_place-place.new.nodes.items c.put_in-self-inside.new.nodes c.put_in-self-inside.result c.take_place-place.result c.take_place-place.new.free.items took.others took.apart g.met.K.Ord.total g.K.PartialEq.eq g.met.K.Ord.matches_eq (c.args.key, c.args.value) _ _ fresh spare all long took.free took.all took.fewer took.capacity took.free_capacity)
    ∙ ap (added key_of g.K.Ord.cmp (c.args.key, c.args.value)) same)
