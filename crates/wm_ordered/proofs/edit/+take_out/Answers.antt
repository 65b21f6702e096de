use Rattle.std.proofs.Common.{◌+◌, ◌-◌, sym, ◌∙◌, arith}
use Rattle.wm_ordered.proofs.Branches.{at_root, left_tree, right_tree, not_left, not_right, left_elsewhere, right_elsewhere, without-left, without-right, long, reread, reread_without}
use Rattle.wm_ordered.proofs.Found.{value-right, value-here, value-left, removed-right, removed-here, removed-left}
use Rattle.wm_ordered.proofs.edit.+take_out.Goals as goal

pub returns-in-Less-clause-items : goal.returns-in-Less-clause-items
returns-in-Less-clause-items g t c = λ places pairs tree.
    let total = g.met.K.Ord.total in
    let few = c.requires.few in
    let is = sym c.node_at.ensures ∙ c.in-Some.is in
    let o = at_root total few tree is in
    let below = right_tree total few tree is (c.args.depth - 1) (omega arith) in
    let before = c.take_out-right.ensures.elsewhere o.q o.r below in
    let same = removed-right g.K.Ord.cmp total c.args.key.now pairs o.l c.in-Some.node.pair o.r o.whole tree.sorted g.K.PartialEq.eq g.met.K.Ord.matches_eq (sym c.in-Less.ensures) in
    reread_without (sym same) (without-right total few tree is _ _ c.link_right.ensures.others _ _ _ before (c.take_out-right.ensures.items o.q o.r below) (c.link_right.ensures.here c.in-Some.node (before c.args.root (not_right total few tree is) ∙ is)))

pub returns-in-Less-clause-value : goal.returns-in-Less-clause-value
returns-in-Less-clause-value g t c = λ places pairs tree.
    let total = g.met.K.Ord.total in
    let few = c.requires.few in
    let is = sym c.node_at.ensures ∙ c.in-Some.is in
    let o = at_root total few tree is in
    let below = right_tree total few tree is (c.args.depth - 1) (omega arith) in
    c.take_out-right.ensures.value o.q o.r below ∙ sym (value-right g.K.Ord.cmp total c.args.key.now pairs o.l c.in-Some.node.pair o.r o.whole tree.sorted g.K.PartialEq.eq g.met.K.Ord.matches_eq (sym c.in-Less.ensures))

pub returns-in-Less-clause-elsewhere : goal.returns-in-Less-clause-elsewhere
returns-in-Less-clause-elsewhere g t c = λ places pairs tree.
    let total = g.met.K.Ord.total in
    let few = c.requires.few in
    let is = sym c.node_at.ensures ∙ c.in-Some.is in
    let o = at_root total few tree is in
    let below = right_tree total few tree is (c.args.depth - 1) (omega arith) in
    right_elsewhere total few tree is _ _ c.link_right.ensures.others (c.take_out-right.ensures.elsewhere o.q o.r below)

pub returns-in-Equal-clause-items : goal.returns-in-Equal-clause-items
returns-in-Equal-clause-items g t c = λ places pairs tree.
    let total = g.met.K.Ord.total in
    let few = c.requires.few in
    let is = sym c.node_at.ensures ∙ c.in-Some.is in
    let o = at_root total few tree is in
    record {
      rest = λ i. o.p i + o.q i;
      stands = reread (sym (removed-here g.K.Ord.cmp total c.args.key.now pairs o.l c.in-Some.node.pair o.r o.whole tree.sorted g.K.PartialEq.eq g.met.K.Ord.matches_eq (sym c.in-Equal.ensures))) (c.merge.ensures.whole o.p o.q o.l o.r o.left_stands o.right_stands (λ i. omega (arith, o.all i, tree.own i)) (omega (arith, long total few tree is, tree.few)));
      all = λ i. omega (arith, o.all i);
    }

pub returns-in-Equal-clause-value : goal.returns-in-Equal-clause-value
returns-in-Equal-clause-value g t c = λ places pairs tree.
    let total = g.met.K.Ord.total in
    let few = c.requires.few in
    let is = sym c.node_at.ensures ∙ c.in-Some.is in
    let o = at_root total few tree is in
    sym (value-here g.K.Ord.cmp total c.args.key.now pairs o.l c.in-Some.node.pair o.r o.whole tree.sorted g.K.PartialEq.eq g.met.K.Ord.matches_eq (sym c.in-Equal.ensures))

pub returns-in-Equal-clause-elsewhere : goal.returns-in-Equal-clause-elsewhere
returns-in-Equal-clause-elsewhere g t c = λ places pairs tree.
    let total = g.met.K.Ord.total in
    let few = c.requires.few in
    let is = sym c.node_at.ensures ∙ c.in-Some.is in
    let o = at_root total few tree is in
    λ i none. c.merge.ensures.elsewhere o.p o.q o.l o.r o.left_stands o.right_stands (λ i. omega (arith, o.all i, tree.own i)) (omega (arith, long total few tree is, tree.few)) i (omega (arith, o.all i, none))

pub returns-in-Greater-clause-items : goal.returns-in-Greater-clause-items
returns-in-Greater-clause-items g t c = λ places pairs tree.
    let total = g.met.K.Ord.total in
    let few = c.requires.few in
    let is = sym c.node_at.ensures ∙ c.in-Some.is in
    let o = at_root total few tree is in
    let below = left_tree total few tree is (c.args.depth - 1) (omega arith) in
    let before = c.take_out-left.ensures.elsewhere o.p o.l below in
    let same = removed-left g.K.Ord.cmp total c.args.key.now pairs o.l c.in-Some.node.pair o.r o.whole tree.sorted g.K.PartialEq.eq g.met.K.Ord.matches_eq (sym c.in-Greater.ensures) in
    reread_without (sym same) (without-left total few tree is _ _ c.link_left.ensures.others _ _ _ before (c.take_out-left.ensures.items o.p o.l below) (c.link_left.ensures.here c.in-Some.node (before c.args.root (not_left total few tree is) ∙ is)))

pub returns-in-Greater-clause-value : goal.returns-in-Greater-clause-value
returns-in-Greater-clause-value g t c = λ places pairs tree.
    let total = g.met.K.Ord.total in
    let few = c.requires.few in
    let is = sym c.node_at.ensures ∙ c.in-Some.is in
    let o = at_root total few tree is in
    let below = left_tree total few tree is (c.args.depth - 1) (omega arith) in
    c.take_out-left.ensures.value o.p o.l below ∙ sym (value-left g.K.Ord.cmp total c.args.key.now pairs o.l c.in-Some.node.pair o.r o.whole tree.sorted g.K.PartialEq.eq g.met.K.Ord.matches_eq (sym c.in-Greater.ensures))

pub returns-in-Greater-clause-elsewhere : goal.returns-in-Greater-clause-elsewhere
returns-in-Greater-clause-elsewhere g t c = λ places pairs tree.
    let total = g.met.K.Ord.total in
    let few = c.requires.few in
    let is = sym c.node_at.ensures ∙ c.in-Some.is in
    let o = at_root total few tree is in
    let below = left_tree total few tree is (c.args.depth - 1) (omega arith) in
    left_elsewhere total few tree is _ _ c.link_left.ensures.others (c.take_out-left.ensures.elsewhere o.p o.l below)
