use Rattle.std.proofs.Common.{◌≡◌, true, false, sym, ◌∙◌, arith}
use Rattle.std.specs.Ordering.{is_lt}
use Rattle.wm_ordered.proofs.Branches.{left-called-elsewhere, right-called-elsewhere, split-left-called, split-right-called}
use Rattle.wm_ordered.proofs.edit.+split.Goals as goal

pub returns-then-is_lt-clause-parts : goal.returns-then-is_lt-clause-parts
returns-then-is_lt-clause-parts g t c = λ places pairs tree.
    let less : is_lt (g.K.Ord.cmp c.in-Some.node.pair.0 c.args.key.now) ≡ true = cc in
    split-right-called g.met.K.Ord.total c.requires.few tree (sym c.node_at.ensures ∙ c.in-Some.is) _ _ c.link_right.ensures.others (omega arith) c.split-low.ensures.elsewhere c.args.key.now _ _ less c.split-low.ensures.parts c.link_right.ensures.here

pub returns-then-is_lt-clause-elsewhere : goal.returns-then-is_lt-clause-elsewhere
returns-then-is_lt-clause-elsewhere g t c = λ places pairs tree.
    right-called-elsewhere g.met.K.Ord.total c.requires.few tree (sym c.node_at.ensures ∙ c.in-Some.is) _ _ c.link_right.ensures.others (omega arith) c.split-low.ensures.elsewhere

pub returns-else-is_lt-clause-parts : goal.returns-else-is_lt-clause-parts
returns-else-is_lt-clause-parts g t c = λ places pairs tree.
    let less : is_lt (g.K.Ord.cmp c.in-Some.node.pair.0 c.args.key.now) ≡ false = cc in
    split-left-called g.met.K.Ord.total c.requires.few tree (sym c.node_at.ensures ∙ c.in-Some.is) _ _ c.link_left.ensures.others (omega arith) c.split-low-else-is_lt.ensures.elsewhere c.args.key.now _ _ less c.split-low-else-is_lt.ensures.parts c.link_left.ensures.here

pub returns-else-is_lt-clause-elsewhere : goal.returns-else-is_lt-clause-elsewhere
returns-else-is_lt-clause-elsewhere g t c = λ places pairs tree.
    left-called-elsewhere g.met.K.Ord.total c.requires.few tree (sym c.node_at.ensures ∙ c.in-Some.is) _ _ c.link_left.ensures.others (omega arith) c.split-low-else-is_lt.ensures.elsewhere
