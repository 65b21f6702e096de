use Rattle.std.proofs.Common.{◌-◌, sym, ◌∙◌, arith}
use Rattle.wm_ordered.proofs.Branches.{at_root, left_tree, right_tree}
use Rattle.wm_ordered.proofs.Found.{value-right, value-here, value-left}
use Rattle.wm_ordered.proofs.find.+value_of.Goals as goal

pub returns-in-Less : goal.returns-in-Less
returns-in-Less g t c = λ places pairs tree.
    let total = g.met.K.Ord.total in
    let few = c.requires.few in
    let is = sym c.node_at.ensures ∙ c.in-Some.is in
    let o = at_root total few tree is in
    let below = right_tree total few tree is (c.args.depth - 1) (omega arith) in
    c.value_of.ensures o.q o.r below ∙ sym (value-right g.K.Ord.cmp total c.args.key.now pairs o.l c.in-Some.node.pair o.r o.whole tree.sorted g.K.PartialEq.eq g.met.K.Ord.matches_eq (sym c.in-Less.ensures))

pub returns-in-Equal : goal.returns-in-Equal
returns-in-Equal g t c = λ places pairs tree.
    let total = g.met.K.Ord.total in
    let few = c.requires.few in
    let is = sym c.node_at.ensures ∙ c.in-Some.is in
    let o = at_root total few tree is in
    sym (value-here g.K.Ord.cmp total c.args.key.now pairs o.l c.in-Some.node.pair o.r o.whole tree.sorted g.K.PartialEq.eq g.met.K.Ord.matches_eq (sym c.in-Equal.ensures))

pub returns-in-Greater : goal.returns-in-Greater
returns-in-Greater g t c = λ places pairs tree.
    let total = g.met.K.Ord.total in
    let few = c.requires.few in
    let is = sym c.node_at.ensures ∙ c.in-Some.is in
    let o = at_root total few tree is in
    let below = left_tree total few tree is (c.args.depth - 1) (omega arith) in
    c.value_of-in-Greater.ensures o.p o.l below ∙ sym (value-left g.K.Ord.cmp total c.args.key.now pairs o.l c.in-Some.node.pair o.r o.whole tree.sorted g.K.PartialEq.eq g.met.K.Ord.matches_eq (sym c.in-Greater.ensures))
