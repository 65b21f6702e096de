use Rattle.std.proofs.Common.{length, ap, sym, ◌∙◌, subst}
use Rattle.wm_desc.specs.Sorted.{IsSortedOnce}
use Rattle.wm_ordered.specs.Ordered.{Pairs, key_of}
use Rattle.wm_ordered.proofs.Whole.{read}
use Rattle.wm_ordered.proofs.ordered.Ordered.len.Goals as goal

pub returns-clause-len : goal.returns-clause-len
returns-clause-len g c =
    let inv = c.self.invariant in
    let same = sym (read inv) ∙ ap (λ (p : Pairs g.row.K.Denot g.row.V.Denot). p.items) c.self.view_is in
    inv.counted ∙ ap length same

pub returns-clause-sorted : goal.returns-clause-sorted
returns-clause-sorted g c =
    let inv = c.self.invariant in
    let same = sym (read inv) ∙ ap (λ (p : Pairs g.row.K.Denot g.row.V.Denot). p.items) c.self.view_is in
    subst (λ xs. IsSortedOnce key_of g.K.Ord.cmp xs) same inv.sorted
