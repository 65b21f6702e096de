use Rattle.std.proofs.Common.{◌++◌, [], ◌∷◌, List, ℕ, ◌∙◌, ap, sym, subst, take, arith}
use Rattle.std.proofs.lemmas.Grind.{common_steps}
use Rattle.std.proofs.lemmas.List.{take_more}
use Rattle.wm_clwords.specs.Printed.{AreTexts}
use Rattle.wm_clwords.proofs.CallPrinted.{texts_push}
use Rattle.wm_clwords.proofs.call.push_others.Goals as goal

pub loop-parm-preserved : goal.loop-parm-preserved
loop-parm-preserved c =
    let parms : List (List ℕ) = c.args.parms.now in
    let index : ℕ = c.loop-parm.parm-index in
    record {
      out = grind (arith, common_steps);
      texts = subst (λ (l : List (List ℕ)). AreTexts l) (sym (take_more parms index c.parm-item.result (omega arith) ∙ ap (λ x. take index parms ++ x ∷ []) (sym c.parm-item.is)))
          (texts_push (take index parms) c.parm-item.result c.loop-parm.invariant.texts c.in_ok-push_quoted.ensures.text);
    }
