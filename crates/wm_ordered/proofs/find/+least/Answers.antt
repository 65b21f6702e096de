use Rattle.std.proofs.Common.{◌-◌, slice_get, ap, sym, ◌∙◌, arith}
use Rattle.wm_ordered.proofs.Branches.{at_root, left_tree}
use Rattle.wm_ordered.proofs.Tested.{slice_get-left_or}
use Rattle.wm_ordered.proofs.find.+least.Goals as goal

pub returns : goal.returns
returns g t c = λ places pairs tree.
    let total = g.met.K.Ord.total in
    let few = c.requires.few in
    let is = sym c.node_at.ensures ∙ c.in-Some.is in
    let o = at_root total few tree is in
    let below = left_tree total few tree is (c.args.depth - 1) (omega arith) in
    let first = c.least.ensures o.p o.l below in
    let whole = ap (λ xs. slice_get xs 0) o.whole ∙ slice_get-left_or o.l c.in-Some.node.pair o.r in
    cc
