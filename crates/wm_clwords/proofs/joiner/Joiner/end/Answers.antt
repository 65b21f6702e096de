use Rattle.std.proofs.Common.{◌∙◌, ap, refl}
use Rattle.wm_clwords.specs.Part.{lines_from, finished}
use Rattle.wm_clwords.proofs.LinesLaw.{lines_from-next, unsigned-next}
use Rattle.wm_clwords.proofs.joiner.Joiner.end.Goals as goal

pub returns-then-not-has_rest-clause-next : goal.returns-then-not-has_rest-clause-next
returns-then-not-has_rest-clause-next c = lines_from-next _ refl

pub returns-clause-next : goal.returns-clause-next
returns-clause-next c = λ more.
    ap (λ p. lines_from p more) (c.finish.ensures.part ∙ ap finished c.drop_sign.ensures) ∙ unsigned-next c.keep_cr.new.self more
