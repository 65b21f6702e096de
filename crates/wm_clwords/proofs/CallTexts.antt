-- The values of a CALL that bytes spell are texts.
use Rattle.std.proofs.Common.{◌≡◌, ◌⊎◌, ℕ, ◌+◌, ◌++◌, true, List, [], ◌∷◌, length, subst, sym, arith, inl, inr}
use Rattle.std.specs.List.{list_all}
use Rattle.std.proofs.lemmas.Bool.{and_parts, and_from}
use Rattle.std.proofs.lemmas.Bool.Decides.{nat_tests}
use Rattle.wm_base.specs.Text.{is_printable, IsText}
use Rattle.wm_base.specs.declared.qname.QName.{QName}
use Rattle.wm_clwords.specs.Grammar.{Token, Blank, Comment, Word, Quoted, Key, Open, Close, Next, Anything, next_of, spelling, is_word, is_word_byte, is_token, upper_byte, upper, MayStand, Mark, mark_at, marks_from}
use Rattle.wm_clwords.specs.Call.{IsValue, AreValues, IsPositional, IsPgm, IsParm, IsParms, SpellsCall, tokens_of}
use Rattle.wm_clwords.specs.Printed.{AreTexts}
use Rattle.wm_clwords.proofs.GrammarLemmas.{word_parts}
use Rattle.wm_clwords.proofs.Tokens.{tokens-append}

-- the characters of each value are a text
abbrev HasText : Token → Type 0
HasText token = (text : List ℕ) → IsValue token text → IsText text

abbrev HaveTexts : List Token → Type 0
HaveTexts [] = Unit {0}
HaveTexts (token ∷ tokens) = HasText token × HaveTexts tokens

have_append : (front back : List Token) → HaveTexts front → HaveTexts back → HaveTexts (front ++ back)
have_append [] back f b = b
have_append (token ∷ front) back f b = (f.0, have_append front back f.1 b)

have_parts : (front back : List Token) → HaveTexts (front ++ back) → HaveTexts front × HaveTexts back
have_parts [] back h = (tt, h)
have_parts (token ∷ front) back h =
    let rest = have_parts front back h.1 in
    ((h.0, rest.0), rest.1)

-- the tokens that bytes spell

upper_printable : (b : ℕ) → is_word_byte b ≡ true → is_printable (upper_byte b) ≡ true
upper_printable b h = grind (arith, nat_tests)

upper_text : (bytes : List ℕ) → list_all is_word_byte bytes ≡ true → list_all is_printable (upper bytes) ≡ true
upper_text [] h = h
upper_text (b ∷ bytes) h =
    let both = and_parts (is_word_byte b) (list_all is_word_byte bytes) h in
    and_from (is_printable (upper_byte b)) (list_all is_printable (upper bytes)) (upper_printable b both.0) (upper_text bytes both.1)

word_text : (bytes : List ℕ) → is_word bytes ≡ true → HasText (Word (upper bytes))
word_text bytes h text v = subst IsText v (upper_text bytes (word_parts bytes h).1)

mark_texts : (place : ℕ) (token : Token) → is_token token ≡ true → HaveTexts (tokens_of (mark_at place token))
mark_texts place (Blank byte) h = tt
mark_texts place (Comment text) h = tt
mark_texts place (Word bytes) h = (word_text bytes h, tt)
mark_texts place (Quoted bytes) h = (λ text v. subst IsText v h, tt)
mark_texts place (Key bytes) h = (λ text v. absurd v, tt)
mark_texts place Open h = (λ text v. absurd v, tt)
mark_texts place Close h = (λ text v. absurd v, tt)

stand_texts : (most : ℕ) (next : Next) (opens place : ℕ) (tokens : List Token) → MayStand most next opens tokens → HaveTexts (tokens_of (marks_from place tokens))
stand_texts most next opens place [] h = tt
stand_texts most next opens place (token ∷ tokens) h =
    let after = place + length (spelling token) in
    subst HaveTexts (sym (tokens-append (mark_at place token) (marks_from after tokens)))
    (have_append (tokens_of (mark_at place token)) (tokens_of (marks_from after tokens)) (mark_texts place token h.0) (stand_texts most (next_of token) h.2.0 after tokens h.2.2))

-- the values of the CALL

values_are_texts : (tokens : List Token) (texts : List (List ℕ)) → HaveTexts tokens → AreValues tokens texts → AreTexts texts
values_are_texts [] [] h v = tt
values_are_texts [] (text ∷ texts) h v = absurd v
values_are_texts (token ∷ tokens) [] h v = absurd v
values_are_texts (token ∷ tokens) (text ∷ texts) h v = (h.0 text v.0, values_are_texts tokens texts h.1 v.1)

parm_are_texts : (tokens : List Token) (parms : List (List ℕ)) → HaveTexts tokens → IsParm tokens parms → AreTexts parms
parm_are_texts tokens parms h p =
    let inner = (subst HaveTexts p.1 h).1 in
    values_are_texts p.0 parms (have_parts p.0 (Close ∷ []) inner).0 p.2.0

parms_are_texts : (tokens : List Token) (parms : List (List ℕ)) → HaveTexts tokens → IsParms tokens parms → AreTexts parms
parms_are_texts tokens parms h (inl (e, f)) = subst AreTexts (sym f) tt
parms_are_texts tokens parms h (inr p) = parm_are_texts tokens parms h p

parts_texts : (front back : List Token) (pgm : QName) (parms : List (List ℕ)) → HaveTexts front → HaveTexts back
    → ((IsPositional front pgm ⊎ IsPgm front pgm) × IsParms back parms) ⊎ (IsParm front parms × IsPgm back pgm) → AreTexts parms
parts_texts front back pgm parms f b (inl (p, q)) = parms_are_texts back parms b q
parts_texts front back pgm parms f b (inr (p, q)) = parm_are_texts front parms f p

pub spelled_texts : (bytes : List ℕ) (pgm : QName) (parms : List (List ℕ)) → SpellsCall bytes pgm parms → AreTexts parms
spelled_texts bytes pgm parms s =
    let spells = s.command.spells in
    let whole = subst (λ (m : List Mark). HaveTexts (tokens_of m)) (sym spells.items) (stand_texts 16 Anything 0 0 spells.tokens spells.stand) in
    let both = have_parts s.call.front s.call.back (subst HaveTexts s.call.whole whole.1) in
    parts_texts s.call.front s.call.back pgm parms both.0 both.1 s.call.parts
