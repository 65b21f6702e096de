use Rattle.std.proofs.Common.{◌∙◌, ◌==◌, ap, sym, length}
use Rattle.std.proofs.lemmas.Bool.{false≢true}
use Rattle.wm_clwords.proofs.CallItems.{parms_of_one, parms_no_item}
use Rattle.wm_clwords.proofs.called.parms_alone.Goals as goal

pub returns-in_err-only-clause-all : goal.returns-in_err-only-clause-all
returns-in_err-only-clause-all c = λ parms h.
    absurd (parms_no_item c.args.items.now parms (λ e. false≢true (sym c.if-is_empty.false ∙ c.is_empty.ensures ∙ ap (λ l. length l == 0) e)) c.in_err-only.ensures.none h)

pub returns-clause-all : goal.returns-clause-all
returns-clause-all c = λ parms h. c.parms.ensures.all parms (parms_of_one c.args.items.now c.in_ok-only.field-0.now parms c.in_ok-only.ensures.some h)
