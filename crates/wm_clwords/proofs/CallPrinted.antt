-- The text that is printed of a CALL spells that CALL.
use Rattle.std.proofs.Common.{ℕ, ◌≤◌, ◌++◌, List, [], ◌∷◌, length, map, subst, sym, refl, arith, inl, inr, codes}
use Rattle.std.proofs.lemmas.List.{append-nil}
use Rattle.wm_base.specs.Name.{IsName}
use Rattle.wm_base.specs.QName.{qname_text}
use Rattle.wm_base.specs.Text.{IsText}
use Rattle.wm_base.specs.declared.qname.QName.{QName}
use Rattle.wm_clwords.specs.Quote.{quoted}
use Rattle.wm_clwords.specs.Grammar.{Token, Word, Quoted, Key, Close}
use Rattle.wm_clwords.specs.Call.{AreValues, IsPgm, IsParms, IsCall}
use Rattle.wm_clwords.specs.CallText.{values_text, parms_text}
use Rattle.wm_clwords.specs.Printed.{AreTexts, PrintedCallIsSpelled}
use Rattle.wm_clwords.proofs.NameWords.{upper_qname, word_qname}
use Rattle.wm_clwords.proofs.Printing.{Fills, fills_word, fills_quoted, fills_quoted_next, Prints, prints_nil, prints_keyed, prints_blank, prints_append, command_printed}

abbrev quoted_tokens : List (List ℕ) → List Token
quoted_tokens texts = map Quoted texts

values_fill : (text : List ℕ) (texts : List (List ℕ)) → AreTexts (text ∷ texts) → Fills (values_text (text ∷ texts)) (quoted_tokens (text ∷ texts))
values_fill text [] h = subst (λ (l : List ℕ). Fills l (Quoted text ∷ [])) (sym (append-nil (quoted text))) (fills_quoted text h.0)
values_fill text (next ∷ texts) h = fills_quoted_next text (values_text (next ∷ texts)) (quoted_tokens (next ∷ texts)) h.0 (values_fill next texts h.1)

values_are : (texts : List (List ℕ)) → AreValues (quoted_tokens texts) texts
values_are [] = tt
values_are (text ∷ texts) = (refl, values_are texts)

abbrev parm_tokens : List (List ℕ) → List Token
parm_tokens [] = []
parm_tokens (text ∷ texts) = Key (codes "PARM") ∷ quoted_tokens (text ∷ texts) ++ Close ∷ []

parms_print : (parms : List (List ℕ)) → AreTexts parms → Prints (parms_text parms) (parm_tokens parms)
parms_print [] h = prints_nil
parms_print (text ∷ texts) h =
    prints_blank (codes "PARM" ++ 40 ∷ values_text (text ∷ texts) ++ 41 ∷ []) (parm_tokens (text ∷ texts))
    (prints_keyed (codes "PARM") (values_text (text ∷ texts)) (quoted_tokens (text ∷ texts)) refl (values_fill text texts h))

parms_are : (parms : List (List ℕ)) → length parms ≤ 40 → IsParms (parm_tokens parms) parms
parms_are [] few = inl (refl, refl)
parms_are (text ∷ texts) few = inr (quoted_tokens (text ∷ texts), refl, (values_are (text ∷ texts), omega arith, few))

abbrev pgm_tokens : QName → List Token
pgm_tokens pgm = Key (codes "PGM") ∷ Word (qname_text pgm) ∷ Close ∷ []

pgm_prints : (pgm : QName) → IsName pgm.lib → IsName pgm.name → Prints (codes "PGM" ++ 40 ∷ qname_text pgm ++ 41 ∷ []) (pgm_tokens pgm)
pgm_prints pgm l n =
    prints_keyed (codes "PGM") (qname_text pgm) (Word (qname_text pgm) ∷ []) refl
    (subst (λ (w : List ℕ). Fills (qname_text pgm) (Word w ∷ [])) (upper_qname pgm l n) (fills_word (qname_text pgm) (word_qname pgm l n)))

pgm_is : (pgm : QName) → IsName pgm.lib → IsName pgm.name → IsPgm (pgm_tokens pgm) pgm
pgm_is pgm l n = (Word (qname_text pgm) ∷ [], refl, (Word (qname_text pgm), refl, inl (n, inr (l, refl))))

pub printed_call : PrintedCallIsSpelled
printed_call pgm parms l n t few short =
    let p = command_printed (codes "CALL") ((codes "PGM" ++ 40 ∷ qname_text pgm ++ 41 ∷ []) ++ parms_text parms) (pgm_tokens pgm ++ parm_tokens parms) refl
    (prints_append (codes "PGM" ++ 40 ∷ qname_text pgm ++ 41 ∷ []) (parms_text parms) (pgm_tokens pgm) (parm_tokens parms) (pgm_prints pgm l n) (parms_print parms t)) short in
    record {
      marks = p.marks;
      command = p.command;
      call = subst (λ (k : List Token). IsCall k pgm parms) (sym p.says)
          (record { front = pgm_tokens pgm; back = parm_tokens parms; whole = refl; parts = inl (inr (pgm_is pgm l n), parms_are parms few) });
    }

-- a text more
pub texts_push : (texts : List (List ℕ)) (text : List ℕ) → AreTexts texts → IsText text → AreTexts (texts ++ text ∷ [])
texts_push [] text h t = (t, tt)
texts_push (first ∷ texts) text h t = (h.0, texts_push texts text h.1 t)
