use Rattle.std.proofs.Common.{◌≡◌, ◌≤◌, List, ℕ, sym, subst, length, rules}
use Rattle.wm_clwords.specs.Call.{SpellsCall}
use Rattle.wm_clwords.specs.CallText.{call_text}
use Rattle.wm_clwords.specs.Printed.{AreTexts}
use Rattle.wm_clwords.proofs.CallPrinted.{printed_call}
use Rattle.wm_clwords.proofs.call.call_text.Goals as goal

pub returns-clause-spells : goal.returns-clause-spells
returns-clause-spells c =
    let pgm = c.args.pgm.now in
    let parms : List (List ℕ) = c.args.parms.now in
    let text : c.push_parms.new.out ≡ call_text pgm parms = search rules in
    let texts : AreTexts parms = subst (λ (l : List (List ℕ)). AreTexts l) c.as_slice.ensures c.in_ok-push_parms.ensures.texts in
    λ few short. subst (λ (b : List ℕ). SpellsCall b pgm parms) (sym text)
    (printed_call pgm parms c.in_ok-push_qname.ensures.lib c.in_ok-push_qname.ensures.name texts few (subst (λ (b : List ℕ). length b ≤ 8192) text short))
