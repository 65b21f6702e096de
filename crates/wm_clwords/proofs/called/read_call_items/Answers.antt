use Rattle.std.proofs.Common.{◌≡◌, List, Some, Err, subst, sym, inl, inr}
use Rattle.wm_clwords.specs.declared.called.CallFault.TheVariants.{NotCall}
use Rattle.wm_clwords.specs.declared.tree.Item.{Item}
use Rattle.wm_clwords.specs.Call.{IsCall, list_tokens}
use Rattle.wm_clwords.specs.CallReading.{texts_of}
use Rattle.wm_clwords.proofs.CallItems.{call_parm_first, call_other_first, call_from_parm, call_from_program}
use Rattle.wm_clwords.proofs.CallMeaning.{no_items_call, items_value, items_none}
use Rattle.wm_clwords.proofs.CallResults.{made_ok, made_call}
use Rattle.wm_clwords.proofs.called.read_call_items.Goals as goal

pub returns-in_default-clause-none : goal.returns-in_default-clause-none
returns-in_default-clause-none c = λ _. no_items_call c.args.items.now c.in_default.ensures.cases

pub returns-in_default-program_alone-clause-call : goal.returns-in_default-program_alone-clause-call
returns-in_default-program_alone-clause-call c = λ pgm parms h.
    let k = call_parm_first c.in-Some.first.now c.in-Some.others.now _ pgm parms c.in-Some-parms.ensures.some
    (subst (λ (l : List Item). IsCall (list_tokens l) pgm parms) c.in-Some.ensures.cases.0 h) in
    cc (c.program_alone.ensures.all pgm k.0, c.in_default-program_alone.is)

pub returns-in-Some-parms-clause-ok : goal.returns-in-Some-parms-clause-ok
returns-in-Some-parms-clause-ok c =
    made_ok c.call_with.result _ c.in-Some-program_alone.pgm _ c.call_with.ensures.ok
    (subst (λ (l : List Item). IsCall (list_tokens l) c.in-Some-program_alone.pgm (texts_of c.in-Some-parms.values.now)) (sym c.in-Some.ensures.cases.0)
    (call_from_parm c.in-Some.first.now c.in-Some.others.now c.in-Some-program_alone.pgm _ c.in-Some-parms.ensures.some c.in-Some-program_alone.ensures.some))

pub returns-in-Some-parms-clause-call : goal.returns-in-Some-parms-clause-call
returns-in-Some-parms-clause-call c = λ pgm parms h.
    let k = call_parm_first c.in-Some.first.now c.in-Some.others.now _ pgm parms c.in-Some-parms.ensures.some
    (subst (λ (l : List Item). IsCall (list_tokens l) pgm parms) c.in-Some.ensures.cases.0 h) in
    let same : c.in-Some-program_alone.pgm ≡ pgm = cc (c.program_alone.ensures.all pgm k.0, c.in-Some-program_alone.is) in
    made_call c.call_with.result c.in-Some-program_alone.pgm pgm _ parms c.call_with.ensures.ok c.call_with.ensures.err same k.1

pub returns-in_default-program-clause-call : goal.returns-in_default-program-clause-call
returns-in_default-program-clause-call c = λ pgm parms h.
    let k = call_other_first c.in-Some.first.now c.in-Some.others.now pgm parms (λ texts p. c.in_default-parms.ensures.all texts p)
    (subst (λ (l : List Item). IsCall (list_tokens l) pgm parms) c.in-Some.ensures.cases.0 h) in
    let read : c.program.result ≡ Some pgm = elim k.0 [ inl p ↦ c.program.ensures.positional pgm p | inr p ↦ c.program.ensures.keyed pgm p ] in
    cc (read, c.in_default-program.is)

pub returns-in_default-parms_alone-clause-call : goal.returns-in_default-parms_alone-clause-call
returns-in_default-parms_alone-clause-call c = λ pgm parms h.
    let k = call_other_first c.in-Some.first.now c.in-Some.others.now pgm parms (λ texts p. c.in_default-parms.ensures.all texts p)
    (subst (λ (l : List Item). IsCall (list_tokens l) pgm parms) c.in-Some.ensures.cases.0 h) in
    absurd (c.in_default-parms_alone.ensures.all parms k.1)

pub returns-clause-ok : goal.returns-clause-ok
returns-clause-ok c =
    made_ok c.call_with-2.result _ c.in-Some-program.pgm _ c.call_with-2.ensures.ok
    (subst (λ (l : List Item). IsCall (list_tokens l) c.in-Some-program.pgm (texts_of c.in-Some-parms_alone.values.now)) (sym c.in-Some.ensures.cases.0)
    (call_from_program c.in-Some.first.now c.in-Some.others.now c.in-Some-program.pgm _ c.in-Some-program.ensures.some c.in-Some-parms_alone.ensures.some))

pub returns-clause-call : goal.returns-clause-call
returns-clause-call c = λ pgm parms h.
    let k = call_other_first c.in-Some.first.now c.in-Some.others.now pgm parms (λ texts p. c.in_default-parms.ensures.all texts p)
    (subst (λ (l : List Item). IsCall (list_tokens l) pgm parms) c.in-Some.ensures.cases.0 h) in
    let read : c.program.result ≡ Some pgm = elim k.0 [ inl p ↦ c.program.ensures.positional pgm p | inr p ↦ c.program.ensures.keyed pgm p ] in
    let same : c.in-Some-program.pgm ≡ pgm = cc (read, c.in-Some-program.is) in
    made_call c.call_with-2.result c.in-Some-program.pgm pgm _ parms c.call_with-2.ensures.ok c.call_with-2.ensures.err same (c.in-Some-parms_alone.ensures.all parms k.1)

pub returns-in_default-program_alone-clause-none : goal.returns-in_default-program_alone-clause-none
returns-in_default-program_alone-clause-none c = items_none c.args.items.now (Err NotCall) (returns-in_default-program_alone-clause-call c)

pub returns-in_default-program-clause-none : goal.returns-in_default-program-clause-none
returns-in_default-program-clause-none c = items_none c.args.items.now (Err NotCall) (returns-in_default-program-clause-call c)

pub returns-in_default-parms_alone-clause-none : goal.returns-in_default-parms_alone-clause-none
returns-in_default-parms_alone-clause-none c = items_none c.args.items.now (Err NotCall) (returns-in_default-parms_alone-clause-call c)

pub returns-in-Some-parms-clause-value : goal.returns-in-Some-parms-clause-value
returns-in-Some-parms-clause-value c = items_value c.args.items.now c.call_with.result (returns-in-Some-parms-clause-ok c)

pub returns-in-Some-parms-clause-none : goal.returns-in-Some-parms-clause-none
returns-in-Some-parms-clause-none c = items_none c.args.items.now c.call_with.result (returns-in-Some-parms-clause-call c)

pub returns-clause-value : goal.returns-clause-value
returns-clause-value c = items_value c.args.items.now c.call_with-2.result (returns-clause-ok c)

pub returns-clause-none : goal.returns-clause-none
returns-clause-none c = items_none c.args.items.now c.call_with-2.result (returns-clause-call c)
