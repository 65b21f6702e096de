use Rattle.std.proofs.Common.{◌≡◌, ◌-◌, true, false, sym, ◌∙◌, arith}
use Rattle.std.specs.Ordering.{is_lt}
use Rattle.wm_ordered.proofs.Branches.{at_root, left_tree, right_tree}
use Rattle.wm_ordered.proofs.Found.{from-right, from-left}
use Rattle.wm_ordered.proofs.find.+least_from.Goals as goal

pub returns-then-is_lt : goal.returns-then-is_lt
returns-then-is_lt g t c = λ places pairs tree.
    let total = g.met.K.Ord.total in
    let few = c.requires.few in
    let is = sym c.node_at.ensures ∙ c.in-Some.is in
    let o = at_root total few tree is in
    let below = right_tree total few tree is (c.args.depth - 1) (omega arith) in
    let less : is_lt (g.K.Ord.cmp c.in-Some.node.pair.0 c.args.key.now) ≡ true = cc in
    c.least_from.ensures o.q o.r below ∙ sym (from-right g.K.Ord.cmp total c.args.key.now pairs o.l c.in-Some.node.pair o.r o.whole tree.sorted less)

pub returns-else-is_lt : goal.returns-else-is_lt
returns-else-is_lt g t c = λ places pairs tree.
    let total = g.met.K.Ord.total in
    let few = c.requires.few in
    let is = sym c.node_at.ensures ∙ c.in-Some.is in
    let o = at_root total few tree is in
    let below = left_tree total few tree is (c.args.depth - 1) (omega arith) in
    let less : is_lt (g.K.Ord.cmp c.in-Some.node.pair.0 c.args.key.now) ≡ false = cc in
    let first = c.least_from-else-is_lt.ensures o.p o.l below in
    let whole = from-left g.K.Ord.cmp total c.args.key.now pairs o.l c.in-Some.node.pair o.r o.whole tree.sorted less in
    cc
