use Rattle.std.proofs.Common.{◌≡◌, ◌-◌, true, false, sym, ◌∙◌, arith}
use Rattle.std.specs.Ordering.{is_lt}
use Rattle.wm_ordered.proofs.Branches.{at_root, left_tree, right_tree, not_left, not_right, put-left, put-right, put_left_elsewhere, put_right_elsewhere, root_apart, reread}
use Rattle.wm_ordered.proofs.Cuts.{added-right, added-left}
use Rattle.wm_ordered.proofs.edit.+put_in.Goals as goal

pub returns-then-is_lt-clause-items : goal.returns-then-is_lt-clause-items
returns-then-is_lt-clause-items g t c = λ places pairs tree free.
    let total = g.met.K.Ord.total in
    let few = c.requires.few in
    let is = sym c.node_at.ensures ∙ c.in-Some.is in
    let o = at_root total few tree is in
    let below = right_tree total few tree is (c.args.depth - 1) (omega arith) in
    let less : is_lt (g.K.Ord.cmp c.in-Some.node.pair.0 c.args.pair.0) ≡ true = cc in
    let before = c.put_in-right.ensures.elsewhere o.q o.r below (omega (arith, o.all c.args.place, free)) in
    let other = root_apart total few tree is c.args.place free in
    reread (sym (added-right g.K.Ord.cmp total c.args.pair pairs o.l c.in-Some.node.pair o.r o.whole tree.sorted less)) (put-right total few tree is _ _ c.link_right.ensures.others c.args.place free _ _ before (c.put_in-right.ensures.items o.q o.r below (omega (arith, o.all c.args.place, free))) (c.link_right.ensures.here c.in-Some.node (before c.args.root (omega (arith, not_right total few tree is, other)) ∙ is)))

pub returns-then-is_lt-clause-elsewhere : goal.returns-then-is_lt-clause-elsewhere
returns-then-is_lt-clause-elsewhere g t c = λ places pairs tree free.
    let total = g.met.K.Ord.total in
    let few = c.requires.few in
    let is = sym c.node_at.ensures ∙ c.in-Some.is in
    let o = at_root total few tree is in
    let below = right_tree total few tree is (c.args.depth - 1) (omega arith) in
    put_right_elsewhere total few tree is _ _ c.link_right.ensures.others c.args.place free (c.put_in-right.ensures.elsewhere o.q o.r below (omega (arith, o.all c.args.place, free)))

pub returns-else-is_lt-clause-items : goal.returns-else-is_lt-clause-items
returns-else-is_lt-clause-items g t c = λ places pairs tree free.
    let total = g.met.K.Ord.total in
    let few = c.requires.few in
    let is = sym c.node_at.ensures ∙ c.in-Some.is in
    let o = at_root total few tree is in
    let below = left_tree total few tree is (c.args.depth - 1) (omega arith) in
    let less : is_lt (g.K.Ord.cmp c.in-Some.node.pair.0 c.args.pair.0) ≡ false = cc in
    let before = c.put_in-left.ensures.elsewhere o.p o.l below (omega (arith, o.all c.args.place, free)) in
    let other = root_apart total few tree is c.args.place free in
    reread (sym (added-left g.K.Ord.cmp total c.args.pair pairs o.l c.in-Some.node.pair o.r o.whole tree.sorted less)) (put-left total few tree is _ _ c.link_left.ensures.others c.args.place free _ _ before (c.put_in-left.ensures.items o.p o.l below (omega (arith, o.all c.args.place, free))) (c.link_left.ensures.here c.in-Some.node (before c.args.root (omega (arith, not_left total few tree is, other)) ∙ is)))

pub returns-else-is_lt-clause-elsewhere : goal.returns-else-is_lt-clause-elsewhere
returns-else-is_lt-clause-elsewhere g t c = λ places pairs tree free.
    let total = g.met.K.Ord.total in
    let few = c.requires.few in
    let is = sym c.node_at.ensures ∙ c.in-Some.is in
    let o = at_root total few tree is in
    let below = left_tree total few tree is (c.args.depth - 1) (omega arith) in
    put_left_elsewhere total few tree is _ _ c.link_left.ensures.others c.args.place free (c.put_in-left.ensures.elsewhere o.p o.l below (omega (arith, o.all c.args.place, free)))
