use Rattle.std.proofs.Common.{◌-◌, sym, ◌∙◌, arith}
use Rattle.wm_ordered.proofs.Branches.{at_root, left_tree, right_tree, set-left-side, set-right-side, set-root, reread}
use Rattle.wm_ordered.proofs.Found.{value-right, value-here, value-left, set-right, set-here, set-left}
use Rattle.wm_ordered.proofs.edit.+set_value.Goals as goal

pub returns-in-Less-clause-was : goal.returns-in-Less-clause-was
returns-in-Less-clause-was g t c = λ places pairs tree.
    let total = g.met.K.Ord.total in
    let few = c.requires.few in
    let is = sym c.node_at.ensures ∙ c.in-Some.is in
    let o = at_root total few tree is in
    let below = right_tree total few tree is (c.args.depth - 1) (omega arith) in
    c.set_value.ensures.was o.q o.r below ∙ sym (value-right g.K.Ord.cmp total c.args.key.now pairs o.l c.in-Some.node.pair o.r o.whole tree.sorted g.K.PartialEq.eq g.met.K.Ord.matches_eq (sym c.in-Less.ensures))

pub returns-in-Less-clause-items : goal.returns-in-Less-clause-items
returns-in-Less-clause-items g t c = λ places pairs tree.
    let total = g.met.K.Ord.total in
    let few = c.requires.few in
    let is = sym c.node_at.ensures ∙ c.in-Some.is in
    let o = at_root total few tree is in
    let below = right_tree total few tree is (c.args.depth - 1) (omega arith) in
    reread (sym (set-right g.K.Ord.cmp total c.args.key.now pairs o.l c.in-Some.node.pair o.r o.whole tree.sorted g.K.PartialEq.eq g.met.K.Ord.matches_eq c.args.value (sym c.in-Less.ensures))) (set-right-side total few tree is c.set_value.new.nodes (c.set_value.ensures.elsewhere o.q o.r below) _ (c.set_value.ensures.items o.q o.r below))

pub returns-in-Less-clause-elsewhere : goal.returns-in-Less-clause-elsewhere
returns-in-Less-clause-elsewhere g t c = λ places pairs tree.
    let total = g.met.K.Ord.total in
    let few = c.requires.few in
    let is = sym c.node_at.ensures ∙ c.in-Some.is in
    let o = at_root total few tree is in
    let below = right_tree total few tree is (c.args.depth - 1) (omega arith) in
    λ i none. c.set_value.ensures.elsewhere o.q o.r below i (omega (arith, o.all i, none))

pub returns-in-Equal-clause-was : goal.returns-in-Equal-clause-was
returns-in-Equal-clause-was g t c = λ places pairs tree.
    let total = g.met.K.Ord.total in
    let few = c.requires.few in
    let is = sym c.node_at.ensures ∙ c.in-Some.is in
    let o = at_root total few tree is in
    sym (value-here g.K.Ord.cmp total c.args.key.now pairs o.l c.in-Some.node.pair o.r o.whole tree.sorted g.K.PartialEq.eq g.met.K.Ord.matches_eq (sym c.in-Equal.ensures))

pub returns-in-Equal-clause-items : goal.returns-in-Equal-clause-items
returns-in-Equal-clause-items g t c = λ places pairs tree.
    let total = g.met.K.Ord.total in
    let few = c.requires.few in
    let is = sym c.node_at.ensures ∙ c.in-Some.is in
    let o = at_root total few tree is in
    reread (sym (set-here g.K.Ord.cmp total c.args.key.now pairs o.l c.in-Some.node.pair o.r o.whole tree.sorted g.K.PartialEq.eq g.met.K.Ord.matches_eq c.args.value (sym c.in-Equal.ensures))) (set-root total few tree is c.put_node.new.nodes c.put_node.ensures.others _ c.put_node.ensures.here)

pub returns-in-Equal-clause-elsewhere : goal.returns-in-Equal-clause-elsewhere
returns-in-Equal-clause-elsewhere g t c = λ places pairs tree.
    let total = g.met.K.Ord.total in
    let few = c.requires.few in
    let is = sym c.node_at.ensures ∙ c.in-Some.is in
    let o = at_root total few tree is in
    λ i none. c.put_node.ensures.others i (omega (arith, o.all i, none))

pub returns-in-Greater-clause-was : goal.returns-in-Greater-clause-was
returns-in-Greater-clause-was g t c = λ places pairs tree.
    let total = g.met.K.Ord.total in
    let few = c.requires.few in
    let is = sym c.node_at.ensures ∙ c.in-Some.is in
    let o = at_root total few tree is in
    let below = left_tree total few tree is (c.args.depth - 1) (omega arith) in
    c.set_value-in-Greater.ensures.was o.p o.l below ∙ sym (value-left g.K.Ord.cmp total c.args.key.now pairs o.l c.in-Some.node.pair o.r o.whole tree.sorted g.K.PartialEq.eq g.met.K.Ord.matches_eq (sym c.in-Greater.ensures))

pub returns-in-Greater-clause-items : goal.returns-in-Greater-clause-items
returns-in-Greater-clause-items g t c = λ places pairs tree.
    let total = g.met.K.Ord.total in
    let few = c.requires.few in
    let is = sym c.node_at.ensures ∙ c.in-Some.is in
    let o = at_root total few tree is in
    let below = left_tree total few tree is (c.args.depth - 1) (omega arith) in
    reread (sym (set-left g.K.Ord.cmp total c.args.key.now pairs o.l c.in-Some.node.pair o.r o.whole tree.sorted g.K.PartialEq.eq g.met.K.Ord.matches_eq c.args.value (sym c.in-Greater.ensures))) (set-left-side total few tree is c.set_value-in-Greater.new.nodes (c.set_value-in-Greater.ensures.elsewhere o.p o.l below) _ (c.set_value-in-Greater.ensures.items o.p o.l below))

pub returns-in-Greater-clause-elsewhere : goal.returns-in-Greater-clause-elsewhere
returns-in-Greater-clause-elsewhere g t c = λ places pairs tree.
    let total = g.met.K.Ord.total in
    let few = c.requires.few in
    let is = sym c.node_at.ensures ∙ c.in-Some.is in
    let o = at_root total few tree is in
    let below = left_tree total few tree is (c.args.depth - 1) (omega arith) in
    λ i none. c.set_value-in-Greater.ensures.elsewhere o.p o.l below i (omega (arith, o.all i, none))
