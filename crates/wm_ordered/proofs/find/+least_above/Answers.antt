use Rattle.std.proofs.Common.{◌≡◌, ◌-◌, true, false, sym, ◌∙◌, arith}
use Rattle.std.specs.Ordering.{is_gt}
use Rattle.wm_ordered.proofs.Branches.{at_root, left_tree, right_tree}
use Rattle.wm_ordered.proofs.Found.{above-right, above-left}
use Rattle.wm_ordered.proofs.find.+least_above.Goals as goal

pub returns-then-is_gt : goal.returns-then-is_gt
returns-then-is_gt g t c = λ places pairs tree.
    let total = g.met.K.Ord.total in
    let few = c.requires.few in
    let is = sym c.node_at.ensures ∙ c.in-Some.is in
    let o = at_root total few tree is in
    let below = left_tree total few tree is (c.args.depth - 1) (omega arith) in
    let more : is_gt (g.K.Ord.cmp c.in-Some.node.pair.0 c.args.key.now) ≡ true = cc in
    let first = c.least_above.ensures o.p o.l below in
    let whole = above-left g.K.Ord.cmp total c.args.key.now pairs o.l c.in-Some.node.pair o.r o.whole tree.sorted more in
    cc

pub returns-else-is_gt : goal.returns-else-is_gt
returns-else-is_gt g t c = λ places pairs tree.
    let total = g.met.K.Ord.total in
    let few = c.requires.few in
    let is = sym c.node_at.ensures ∙ c.in-Some.is in
    let o = at_root total few tree is in
    let below = right_tree total few tree is (c.args.depth - 1) (omega arith) in
    let more : is_gt (g.K.Ord.cmp c.in-Some.node.pair.0 c.args.key.now) ≡ false = cc in
    c.least_above-else-is_gt.ensures o.q o.r below ∙ sym (above-right g.K.Ord.cmp total c.args.key.now pairs o.l c.in-Some.node.pair o.r o.whole tree.sorted more)
