use Rattle.std.proofs.Common.{length, vec_len, vec_capacity, ap, sym, ◌∙◌, subst}
use Rattle.wm_ordered.specs.Ordered.{Pairs, value_at, with_value}
use Rattle.wm_ordered.specs.Tree.{IsOrdered, pairs_under}
use Rattle.wm_ordered.proofs.Whole.{tree_of, read, written-back, after-set}
use Rattle.wm_ordered.proofs.ordered.Ordered.set.Goals as goal

pub invariant_of-self : goal.invariant_of-self
invariant_of-self g c =
    let inv = c.self.invariant in
    let back = written-back (vec_len c.self.inside.nodes) c.set_value.new.nodes c.deref_mut.result.now c.self.inside.nodes.items c.set_value.ensures.len c.deref_mut.ensures.value c.deref_mut.ensures.len in
    let long = c.set_value.ensures.len ∙ ap length c.deref_mut.ensures.value in
    subst (λ ns. IsOrdered g.K.Ord.cmp ns c.self.inside.root c.self.inside.len c.self.inside.free.items c.self.inside.room (vec_capacity c.self.inside.nodes) (vec_capacity c.self.inside.free)) (sym back) (after-set inv g.K.PartialEq.eq c.args.key.now c.args.value c.set_value.new.nodes long (c.set_value.ensures.items inv.places inv.pairs (tree_of inv _ c.deref_mut.ensures.value)))

pub returns-clause-was : goal.returns-clause-was
returns-clause-was g c =
    let inv = c.self.invariant in
    let same = sym (read inv) ∙ ap (λ (p : Pairs g.row.K.Denot g.row.V.Denot). p.items) c.self.view_is in
    c.set_value.ensures.was inv.places inv.pairs (tree_of inv _ c.deref_mut.ensures.value) ∙ ap (value_at g.K.PartialEq.eq c.args.key.now) same

pub returns-clause-items : goal.returns-clause-items
returns-clause-items g c =
    let inv = c.self.invariant in
    let same = sym (read inv) ∙ ap (λ (p : Pairs g.row.K.Denot g.row.V.Denot). p.items) c.self.view_is in
    let back = written-back (vec_len c.self.inside.nodes) c.set_value.new.nodes c.deref_mut.result.now c.self.inside.nodes.items c.set_value.ensures.len c.deref_mut.ensures.value c.deref_mut.ensures.len in
    let long = c.set_value.ensures.len ∙ ap length c.deref_mut.ensures.value in
    ap (λ ns. pairs_under c.self.inside.len ns c.self.inside.root) back
    ∙ (read (after-set inv g.K.PartialEq.eq c.args.key.now c.args.value c.set_value.new.nodes long (c.set_value.ensures.items inv.places inv.pairs (tree_of inv _ c.deref_mut.ensures.value)))
    ∙ ap (with_value g.K.PartialEq.eq c.args.key.now c.args.value) same)
