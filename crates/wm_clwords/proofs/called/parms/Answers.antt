use Rattle.std.proofs.Common.{◌∙◌, sym}
use Rattle.std.proofs.lemmas.Bool.{false≢true}
use Rattle.wm_clwords.proofs.CallItems.{parm_from, parm_items}
use Rattle.wm_clwords.proofs.called.parms.Goals as goal

pub returns-then-are_parms-clause-some : goal.returns-then-are_parms-clause-some
returns-then-are_parms-clause-some c =
    parm_from c.args.item.now c.in_ok-values.values.now c.in_ok-values.ensures.some (sym c.are_parms.ensures ∙ c.if-are_parms.true)

pub returns-then-are_parms-clause-all : goal.returns-then-are_parms-clause-all
returns-then-are_parms-clause-all c = λ parms h. (parm_items _ c.in_ok-values.values.now parms c.in_ok-values.ensures.some h).1

pub returns-else-are_parms-clause-all : goal.returns-else-are_parms-clause-all
returns-else-are_parms-clause-all c = λ parms h.
    false≢true (sym c.if-are_parms.false ∙ c.are_parms.ensures ∙ (parm_items _ c.in_ok-values.values.now parms c.in_ok-values.ensures.some h).0)
