use Rattle.std.proofs.Common.{ap, sym, ◌∙◌}
use Rattle.wm_ordered.specs.Ordered.{Pairs, first_from}
use Rattle.wm_ordered.proofs.Whole.{tree_of, read}
use Rattle.wm_ordered.proofs.ordered.Ordered.first_from.Goals as goal

pub returns : goal.returns
returns g c =
    let inv = c.self.invariant in
    let same = sym (read inv) ∙ ap (λ (p : Pairs g.row.K.Denot g.row.V.Denot). p.items) c.self.view_is in
    c.least_from.ensures inv.places inv.pairs (tree_of inv _ c.deref.ensures.value) ∙ ap (first_from g.K.Ord.cmp c.args.key.now) same
