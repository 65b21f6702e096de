use Rattle.std.proofs.Common.{sym, ◌∙◌, arith}
use Rattle.wm_ordered.proofs.Merged.{merged-none, merged-right-called, merged-right-called-elsewhere, merged-left-called, merged-left-called-elsewhere}
use Rattle.wm_ordered.proofs.edit.+merge.Goals as goal

pub returns-in_default-node_at-clause-whole : goal.returns-in_default-node_at-clause-whole
returns-in_default-node_at-clause-whole g t c = λ p q low high a b own few_pairs.
    merged-none c.requires.few a b own (sym c.node_at-2.ensures ∙ c.in_default-node_at.is)

pub returns-then-weight-clause-whole : goal.returns-then-weight-clause-whole
returns-then-weight-clause-whole g t c = λ p q low high a b own few_pairs.
    merged-right-called c.requires.few a b own (sym c.node_at.ensures ∙ c.in-Some.is) _ _ c.link_right.ensures.others few_pairs (omega arith) c.merge-rest.ensures.elsewhere _ c.merge-rest.ensures.whole c.link_right.ensures.here

pub returns-then-weight-clause-elsewhere : goal.returns-then-weight-clause-elsewhere
returns-then-weight-clause-elsewhere g t c = λ p q low high a b own few_pairs.
    merged-right-called-elsewhere c.requires.few a b own (sym c.node_at.ensures ∙ c.in-Some.is) _ _ c.link_right.ensures.others few_pairs (omega arith) c.merge-rest.ensures.elsewhere

pub returns-else-weight-clause-whole : goal.returns-else-weight-clause-whole
returns-else-weight-clause-whole g t c = λ p q low high a b own few_pairs.
    merged-left-called c.requires.few a b own (sym c.node_at-2.ensures ∙ c.in-Some-node_at.is) _ _ c.link_left.ensures.others few_pairs (omega arith) c.merge-rest-else-weight.ensures.elsewhere _ c.merge-rest-else-weight.ensures.whole c.link_left.ensures.here

pub returns-else-weight-clause-elsewhere : goal.returns-else-weight-clause-elsewhere
returns-else-weight-clause-elsewhere g t c = λ p q low high a b own few_pairs.
    merged-left-called-elsewhere c.requires.few a b own (sym c.node_at-2.ensures ∙ c.in-Some-node_at.is) _ _ c.link_left.ensures.others few_pairs (omega arith) c.merge-rest-else-weight.ensures.elsewhere
