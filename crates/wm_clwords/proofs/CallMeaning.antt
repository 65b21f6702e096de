-- What bytes call, by the function and by the relation, and what is answered for a CALL by the function.
use Rattle.std.proofs.Common.{◌≡◌, ◌⊎◌, ℕ, ◌≤◌, Bool, true, false, cond, List, [], ◌∷◌, length, Option, Some, None, Result, Ok, Err, IfOk, IfErr, subst, sym, ◌∙◌, ap, refl, arith, inl, inr, codes, nat_eq}
use Rattle.std.specs.Cmp.Lexicographic.{pointwise}
use Rattle.std.proofs.lemmas.Option.{none-some}
use Rattle.std.proofs.lemmas.Slice.Eq.{bytes_eq-Decides}
use Rattle.wm_base.specs.Name.{IsName}
use Rattle.wm_base.specs.declared.qname.QName.{QName}
use Rattle.wm_clwords.specs.declared.called.CallFault.TheVariants.{NotCall}
use Rattle.wm_clwords.specs.declared.called.CallText.{CallText}
use Rattle.wm_clwords.specs.declared.fault.ClFault.{ClFault}
use Rattle.wm_clwords.specs.declared.tree.Item.{Item}
use Rattle.wm_clwords.specs.Faults.{IsCommand}
use Rattle.wm_clwords.specs.Grammar.{Token, Blank, Comment, Word, Quoted, Key, Open, Close}
use Rattle.wm_clwords.specs.Call.{IsPlain, IsReference, IsPositional, IsPgm, IsParm, IsParms, IsCall, SpellsCall, program_library, tokens_of, list_tokens}
use Rattle.wm_clwords.specs.Called.{call_of, call_of_tokens, call_of_verdict, called, CalledIsGood, CalledIsSpelled, PrintedCallIsCalled, SpelledIsCalled}
use Rattle.wm_clwords.specs.Verdict.{Command, verdict}
use Rattle.wm_clwords.proofs.CallPrinted.{printed_call}
use Rattle.wm_clwords.proofs.CallResults.{Answer, Answers, not_call_from, not_memory}
use Rattle.wm_clwords.proofs.CallTexts.{spelled_texts}
use Rattle.wm_clwords.proofs.CallTokens.{call_sound, call_complete}
use Rattle.wm_clwords.proofs.CommandLaw.{IsCommand-verdict, verdict-IsCommand}

-- the function's CALL is spelled

command_spells : (bytes : List ℕ) (command : Command) (c : Bool) (call : CallText) → verdict bytes ≡ Ok command → pointwise nat_eq command.0 (codes "CALL") ≡ c
    → cond c (call_of_tokens (tokens_of command.1)) None ≡ Some call → SpellsCall bytes call.pgm call.parms
command_spells bytes command true call v t e =
    record {
      marks = command.1;
      command = subst (λ (n : List ℕ). IsCommand bytes n command.1) ((bytes_eq-Decides command.0 (codes "CALL")).0 t) (IsCommand-verdict bytes command.0 command.1 v);
      call = call_sound (tokens_of command.1) call e;
    }
command_spells bytes command false call v t e = absurd (none-some call e)

verdict_spells : (bytes : List ℕ) (r : Result Command ClFault) (call : CallText) → verdict bytes ≡ r → call_of_verdict r ≡ Some call → SpellsCall bytes call.pgm call.parms
verdict_spells bytes (Ok command) call v e = command_spells bytes command (pointwise nat_eq command.0 (codes "CALL")) call v refl e
verdict_spells bytes (Err fault) call v e = absurd (none-some call e)

pub called_spelled : CalledIsSpelled
unfolding called
called_spelled bytes call e = verdict_spells bytes (verdict bytes) call refl e

-- the CALL that is spelled is the function's

pub spelled_called : SpelledIsCalled
unfolding called
spelled_called bytes pgm parms s =
    ap call_of_verdict (verdict-IsCommand bytes (codes "CALL") s.marks s.command) ∙ call_complete (tokens_of s.marks) pgm parms s.call

pub printed_called : PrintedCallIsCalled
printed_called pgm parms l n t few short = spelled_called _ pgm parms (printed_call pgm parms l n t few short)

-- what is called is good

plain_names : (library text : List ℕ) (q : QName) → IsName library → IsPlain library text q → IsName q.lib × IsName q.name
plain_names library text q l h = elim h.1 [ inl k ↦ (subst IsName (sym k.1) l, h.0) | inr k ↦ (k.0, h.0) ]

reference_names : (library : List ℕ) (token : Token) (q : QName) → IsName library → IsReference library token q → IsName q.lib × IsName q.name
reference_names library (Word text) q l (inl h) = plain_names library text q l h
reference_names library (Word text) q l (inr h) = (subst IsName (sym h.2) refl, h.0)
reference_names library (Quoted text) q l h = plain_names library text q l h
reference_names library (Key key) q l h = absurd h
reference_names library (Blank byte) q l h = absurd h
reference_names library (Comment text) q l h = absurd h
reference_names library Open q l h = absurd h
reference_names library Close q l h = absurd h

pub library_by : (c : Bool) → IsName (cond c (codes "QSYS") (codes "QGPL"))
library_by true = refl
library_by false = refl

program_names : (tokens : List Token) (q : QName) → IsPositional tokens q → IsName q.lib × IsName q.name
program_names tokens q h = reference_names (program_library q.name) h.0 q (library_by (pointwise nat_eq q.name (codes "QCMD"))) h.2

few_parms : (tokens : List Token) (parms : List (List ℕ)) → IsParms tokens parms → length parms ≤ 40
few_parms tokens parms (inl (e, f)) = omega (arith, ap length f)
few_parms tokens parms (inr h) = h.2.2

parts_names : (front back : List Token) (call : CallText) → ((IsPositional front call.pgm ⊎ IsPgm front call.pgm) × IsParms back call.parms) ⊎ (IsParm front call.parms × IsPgm back call.pgm)
    → IsName call.pgm.lib × IsName call.pgm.name
parts_names front back call (inl (inl p, q)) = program_names front call.pgm p
parts_names front back call (inl (inr p, q)) = program_names p.0 call.pgm p.2
parts_names front back call (inr (p, q)) = program_names q.0 call.pgm q.2

parts_few : (front back : List Token) (call : CallText) → ((IsPositional front call.pgm ⊎ IsPgm front call.pgm) × IsParms back call.parms) ⊎ (IsParm front call.parms × IsPgm back call.pgm)
    → length call.parms ≤ 40
parts_few front back call (inl (p, q)) = few_parms back call.parms q
parts_few front back call (inr (p, q)) = p.2.2

pub called_good : CalledIsGood
called_good bytes call e =
    let s = called_spelled bytes call e in
    let names = parts_names s.call.front s.call.back call s.call.parts in
    record { lib = names.0; name = names.1; texts = spelled_texts bytes call.pgm call.parms s; few = parts_few s.call.front s.call.back call s.call.parts }

-- what is answered

pub value_from : (bytes : List ℕ) (r : Answer) → IfOk r (λ call. SpellsCall bytes call.pgm call.parms) → IfOk r (λ call. called bytes ≡ Some call)
value_from bytes (Ok call) h = spelled_called bytes call.pgm call.parms h
value_from bytes (Err fault) h = tt

none_by : (bytes : List ℕ) (o : Option CallText) → called bytes ≡ o → ((pgm : QName) (parms : List (List ℕ)) → SpellsCall bytes pgm parms → ⊥) → called bytes ≡ None
none_by bytes None e h = e
none_by bytes (Some call) e h = absurd (h call.pgm call.parms (called_spelled bytes call e))

pub none_from : (bytes : List ℕ) (r : Answer) → ((pgm : QName) (parms : List (List ℕ)) → SpellsCall bytes pgm parms → Answers r pgm parms) → IfErr r (λ e. e ≡ NotCall → called bytes ≡ None)
none_from bytes (Ok call) h = tt
none_from bytes (Err fault) h = λ e. none_by bytes (called bytes) refl (not_call_from bytes (Err fault) h e)

-- the same of items

pub no_items_call : (items : List Item) → length items ≡ 0 → call_of items ≡ None
unfolding call_of_tokens
no_items_call [] e = refl
no_items_call (item ∷ items) e = absurd (omega (arith, e))

pub items_value : (items : List Item) (r : Answer) → IfOk r (λ call. IsCall (list_tokens items) call.pgm call.parms) → IfOk r (λ call. call_of items ≡ Some call)
items_value items (Ok call) h = call_complete (list_tokens items) call.pgm call.parms h
items_value items (Err fault) h = tt

items_none_by : (items : List Item) (o : Option CallText) → call_of items ≡ o → ((pgm : QName) (parms : List (List ℕ)) → IsCall (list_tokens items) pgm parms → ⊥) → call_of items ≡ None
items_none_by items None e h = e
items_none_by items (Some call) e h = absurd (h call.pgm call.parms (call_sound (list_tokens items) call e))

pub items_none : (items : List Item) (r : Answer) → ((pgm : QName) (parms : List (List ℕ)) → IsCall (list_tokens items) pgm parms → Answers r pgm parms)
    → IfErr r (λ e. e ≡ NotCall → call_of items ≡ None)
items_none items (Ok call) h = tt
items_none items (Err fault) h = λ e. items_none_by items (call_of items) refl (λ pgm parms k. not_memory (sym e ∙ h pgm parms k))
