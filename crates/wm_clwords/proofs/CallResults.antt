-- What is answered for a CALL.
use Rattle.std.proofs.Common.{◌≡◌, ◌↔◌, ℕ, List, Result, Ok, Err, IfOk, IfErr, MatchResult, subst, sym, ◌∙◌, codes}
use Rattle.wm_base.specs.declared.qname.QName.{QName}
use Rattle.wm_clwords.specs.declared.called.CallFault.{CallFault}
use Rattle.wm_clwords.specs.declared.called.CallFault.TheVariants.{NotCall, NoMemory}
use Rattle.wm_clwords.specs.declared.called.CallText.{CallText}
use Rattle.wm_clwords.specs.declared.fault.ClFault.{ClFault}
use Rattle.wm_clwords.specs.declared.fault.ClFault.TheVariants.{NoMemory as NoMemoryOfText}
use Rattle.wm_clwords.specs.declared.tree.Tree.{Tree}
use Rattle.wm_clwords.specs.Grammar.{Token, Mark}
use Rattle.wm_clwords.specs.Faults.{IsCommand}
use Rattle.wm_clwords.specs.Items.{list_marks}
use Rattle.wm_clwords.specs.Call.{IsCall, SpellsCall, tokens_of, list_tokens}

abbrev pub Answer : Type 0
Answer = Result CallText CallFault

-- the answer is this CALL, or memory ran out
abbrev pub Answers : Answer → QName → List (List ℕ) → Type 0
Answers r pgm parms = MatchResult r (λ call. (call.pgm ≡ pgm) × (call.parms ≡ parms)) (λ e. e ≡ NoMemory)

pub made_call : (r : Answer) (q pgm : QName) (texts parms : List (List ℕ)) → IfOk r (λ call. (call.pgm ≡ q) × (call.parms ≡ texts)) → IfErr r (λ e. e ≡ NoMemory) → q ≡ pgm → texts ≡ parms
    → Answers r pgm parms
made_call (Ok call) q pgm texts parms h k e f = (h.0 ∙ e, h.1 ∙ f)
made_call (Err fault) q pgm texts parms h k e f = k

pub made_ok : (r : Answer) (tokens : List Token) (q : QName) (texts : List (List ℕ)) → IfOk r (λ call. (call.pgm ≡ q) × (call.parms ≡ texts)) → IsCall tokens q texts
    → IfOk r (λ call. IsCall tokens call.pgm call.parms)
made_ok (Ok call) tokens q texts h k =
    subst (λ (p : QName). IsCall tokens p call.parms) (sym h.0) (subst (λ (l : List (List ℕ)). IsCall tokens q l) (sym h.1) k)
made_ok (Err fault) tokens q texts h k = tt

pub not_memory : ◌≡◌ {A = CallFault} NotCall NoMemory → ⊥
not_memory e = cc

-- where no CALL is answered, there is none
pub not_call_from : (bytes : List ℕ) (r : Answer) → ((pgm : QName) (parms : List (List ℕ)) → SpellsCall bytes pgm parms → Answers r pgm parms)
    → IfErr r (λ e. e ≡ NotCall → (pgm : QName) (parms : List (List ℕ)) → SpellsCall bytes pgm parms → ⊥)
not_call_from bytes (Ok call) h = tt
not_call_from bytes (Err fault) h = λ e pgm parms s. not_memory (sym e ∙ h pgm parms s)

-- the tree of a CALL
pub tree_ok : (bytes : List ℕ) (tree : Tree) (r : Answer) → IsCommand bytes tree.name (list_marks tree.items.items)
    → IfOk r (λ call. (tree.name ≡ codes "CALL") × IsCall (list_tokens tree.items.items) call.pgm call.parms) → IfOk r (λ call. SpellsCall bytes call.pgm call.parms)
tree_ok bytes tree (Ok call) c h =
    record { marks = list_marks tree.items.items; command = subst (λ (n : List ℕ). IsCommand bytes n (list_marks tree.items.items)) h.0 c; call = h.1 }
tree_ok bytes tree (Err fault) c h = tt

pub tree_call : (bytes : List ℕ) (tree : Tree) (r : Answer)
    → ((name : List ℕ) (marks : List Mark) → IsCommand bytes name marks → (tree.name ≡ name) × (list_marks tree.items.items ≡ marks))
    → ((pgm : QName) (parms : List (List ℕ)) → tree.name ≡ codes "CALL" → IsCall (list_tokens tree.items.items) pgm parms → Answers r pgm parms)
    → (pgm : QName) (parms : List (List ℕ)) → SpellsCall bytes pgm parms → Answers r pgm parms
tree_call bytes tree r c h pgm parms s =
    let same = c (codes "CALL") s.marks s.command in
    h pgm parms same.0 (subst (λ (m : List Mark). IsCall (tokens_of m) pgm parms) (sym same.1) s.call)

-- no tree
pub fault_call : (bytes : List ℕ) (fault : ClFault) (e : CallFault) → ((name : List ℕ) (marks : List Mark) → IsCommand bytes name marks → fault ≡ NoMemoryOfText)
    → (e ≡ NoMemory) ↔ (fault ≡ NoMemoryOfText) → (pgm : QName) (parms : List (List ℕ)) → SpellsCall bytes pgm parms → e ≡ NoMemory
fault_call bytes fault e c h pgm parms s = h.1 (c (codes "CALL") s.marks s.command)
