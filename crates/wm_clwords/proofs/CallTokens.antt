-- The CALL of tokens by the function is that of the relation, both ways.
use Rattle.std.proofs.Common.{◌≡◌, ◌⊎◌, ℕ, ◌≤◌, ◌++◌, ◌&&◌, Bool, true, false, cond, List, [], ◌∷◌, length, Option, Some, None, subst, sym, ◌∙◌, ap, refl, inl, inr, codes, nat_le}
use Rattle.std.specs.Option.{option_or}
use Rattle.std.proofs.lemmas.Bool.{and_parts, and_from, leb-true, le-leb, false≢true}
use Rattle.std.proofs.lemmas.List.{append-nil, append_assoc}
use Rattle.std.proofs.lemmas.Option.{none-some, same_Some, cond_some}
use Rattle.std.proofs.lemmas.Slice.Eq.{bytes_eq-Decides}
use Rattle.wm_base.specs.declared.qname.QName.{QName}
use Rattle.wm_clwords.specs.declared.called.CallText.{CallText}
use Rattle.wm_clwords.specs.Grammar.{Token, Blank, Comment, Word, Quoted, Key, Open, Close}
use Rattle.wm_clwords.specs.Call.{IsValue, AreValues, IsKeyed, IsPositional, IsPgm, IsParm, IsParms, IsCall}
use Rattle.wm_clwords.specs.CallReading.{program_by, reference_at}
use Rattle.wm_clwords.specs.Called.{value_text, is_close, has_key, with_token, to_close, keyed_first, before, list_says, at_end, one_program, with_text, all_texts, if_few, parm_texts, pgm_first, parm_first, positional_first, program_first, parms_last, called_by, program_then, values_then, call_of_tokens}
use Rattle.wm_clwords.proofs.References.{token_program, program_token}
use Rattle.wm_clwords.proofs.CallItems.{program_value, positional_values}

abbrev Cut : Type 0
Cut = List Token × List Token

abbrev Texts : Type 0
Texts = List (List ℕ)

-- a list up to its end

close_is : (token : Token) → is_close token ≡ true → token ≡ Close
close_is (Word text) e = absurd (false≢true e)
close_is (Quoted text) e = absurd (false≢true e)
close_is (Key key) e = absurd (false≢true e)
close_is (Blank byte) e = absurd (false≢true e)
close_is (Comment text) e = absurd (false≢true e)
close_is Open e = absurd (false≢true e)
close_is Close e = refl

no_close : (token : Token) (text : List ℕ) → IsValue token text → is_close token ≡ false
no_close (Word bytes) text v = refl
no_close (Quoted bytes) text v = refl
no_close (Key key) text v = absurd v
no_close (Blank byte) text v = absurd v
no_close (Comment bytes) text v = absurd v
no_close Open text v = absurd v
no_close Close text v = absurd v

abbrev close_or : Bool → Token → List Token → Option Cut
close_or c token tokens = cond c (Some ([], tokens)) (with_token token (to_close tokens))

with_sound : (token : Token) (tokens : List Token) (o : Option Cut) (cut : Cut) → ((c : Cut) → o ≡ Some c → tokens ≡ c.0 ++ Close ∷ c.1) → with_token token o ≡ Some cut
    → token ∷ tokens ≡ cut.0 ++ Close ∷ cut.1
with_sound token tokens None cut h e = absurd (none-some cut e)
with_sound token tokens (Some c) cut h e =
    subst (λ (x : Cut). token ∷ tokens ≡ x.0 ++ Close ∷ x.1) (same_Some {A = Cut} (token ∷ c.0, c.1) cut e) (ap (λ l. token ∷ l) (h c refl))

close_by : (c : Bool) (token : Token) (tokens : List Token) (cut : Cut) → is_close token ≡ c → ((d : Cut) → to_close tokens ≡ Some d → tokens ≡ d.0 ++ Close ∷ d.1) → close_or c token tokens ≡ Some cut
    → token ∷ tokens ≡ cut.0 ++ Close ∷ cut.1
close_by true token tokens cut t h e =
    subst (λ (x : Cut). token ∷ tokens ≡ x.0 ++ Close ∷ x.1) (same_Some {A = Cut} ([], tokens) cut e) (ap (λ x. x ∷ tokens) (close_is token t))
close_by false token tokens cut t h e = with_sound token tokens (to_close tokens) cut h e

close_sound : (tokens : List Token) (cut : Cut) → to_close tokens ≡ Some cut → tokens ≡ cut.0 ++ Close ∷ cut.1
close_sound [] cut e = absurd (none-some cut e)
close_sound (token ∷ tokens) cut e = close_by (is_close token) token tokens cut refl (close_sound tokens) e

close_values : (values : List Token) (texts : Texts) (rest : List Token) → AreValues values texts → to_close (values ++ Close ∷ rest) ≡ Some (values, rest)
close_values [] texts rest v = refl
close_values (token ∷ tokens) [] rest v = absurd v
close_values (token ∷ tokens) (text ∷ texts) rest v =
    ap (λ c. close_or c token (tokens ++ Close ∷ rest)) (no_close token text v.0) ∙ ap (λ o. with_token token o) (close_values tokens texts rest v.1)

-- a key and its list

key_is : (key : List ℕ) (token : Token) → has_key key token ≡ true → token ≡ Key key
key_is key (Word text) e = absurd (false≢true e)
key_is key (Quoted text) e = absurd (false≢true e)
key_is key (Key word) e = ap Key ((bytes_eq-Decides word key).0 e)
key_is key (Blank byte) e = absurd (false≢true e)
key_is key (Comment text) e = absurd (false≢true e)
key_is key Open e = absurd (false≢true e)
key_is key Close e = absurd (false≢true e)

no_key : (key : List ℕ) (token : Token) (text : List ℕ) → IsValue token text → has_key key token ≡ false
no_key key (Word bytes) text v = refl
no_key key (Quoted bytes) text v = refl
no_key key (Key word) text v = absurd v
no_key key (Blank byte) text v = absurd v
no_key key (Comment bytes) text v = absurd v
no_key key Open text v = absurd v
no_key key Close text v = absurd v

abbrev keyed_or : Bool → List Token → Option Cut
keyed_or c tokens = cond c (to_close tokens) None

keyed_by : (c : Bool) (key : List ℕ) (token : Token) (tokens : List Token) (cut : Cut) → has_key key token ≡ c → keyed_or c tokens ≡ Some cut
    → token ∷ tokens ≡ (Key key ∷ cut.0 ++ Close ∷ []) ++ cut.1
keyed_by true key token tokens cut t e =
    ap (λ x. x ∷ tokens) (key_is key token t) ∙ ap (λ l. Key key ∷ l) (close_sound tokens cut e ∙ sym (append_assoc cut.0 (Close ∷ []) cut.1))
keyed_by false key token tokens cut t e = absurd (none-some cut e)

keyed_sound : (key : List ℕ) (tokens : List Token) (cut : Cut) → keyed_first key tokens ≡ Some cut → tokens ≡ (Key key ∷ cut.0 ++ Close ∷ []) ++ cut.1
keyed_sound key [] cut e = absurd (none-some cut e)
keyed_sound key (token ∷ tokens) cut e = keyed_by (has_key key token) key token tokens cut refl e

keyed_values : (key : List ℕ) (values : List Token) (texts : Texts) (rest : List Token) → AreValues values texts → keyed_first key ((Key key ∷ values ++ Close ∷ []) ++ rest) ≡ Some (values, rest)
keyed_values key values texts rest v =
    ap (λ c. keyed_or c ((values ++ Close ∷ []) ++ rest)) ((bytes_eq-Decides key key).1 refl)
    ∙ ap to_close (append_assoc values (Close ∷ []) rest) ∙ close_values values texts rest v

-- what is said, and the tokens behind it

before_is : {A : Type 0} (tokens : List Token) (o : Option A) (p : A × List Token) → before tokens o ≡ Some p → (o ≡ Some p.0) × (tokens ≡ p.1)
before_is {A} tokens None p e = absurd (none-some p e)
before_is {A} tokens (Some said) p e =
    let same = same_Some {A = A × List Token} (said, tokens) p e in
    (ap (λ (x : A × List Token). Some x.0) same, ap (λ (x : A × List Token). x.1) same)

says_is : {A : Type 0} (says : List Token → Option A) (o : Option Cut) (p : A × List Token) → list_says says o ≡ Some p → (cut : Cut) × (o ≡ Some cut) × (says cut.0 ≡ Some p.0) × (cut.1 ≡ p.1)
says_is {A} says None p e = absurd (none-some p e)
says_is {A} says (Some cut) p e =
    let b = before_is cut.1 (says cut.0) p e in
    (cut, refl, b.0, b.1)

-- tokens that begin with some of which P holds, and the tokens behind these
abbrev BeginsBy : (List Token → Type 0) → List Token → List Token → Type 0
BeginsBy P tokens rest = (front : List Token) × (tokens ≡ front ++ rest) × P front

keyed_says : {A : Type 0} (key : List ℕ) (says : List Token → Option A) (tokens : List Token) (p : A × List Token) → list_says says (keyed_first key tokens) ≡ Some p
    → BeginsBy (λ l. IsKeyed key (λ values. says values ≡ Some p.0) l) tokens p.1
keyed_says {A} key says tokens p e =
    let s = says_is says (keyed_first key tokens) p e in
    let front : List Token = Key key ∷ s.0.0 ++ Close ∷ [] in
    (front, keyed_sound key tokens s.0 s.1 ∙ ap (λ l. front ++ l) s.3, (s.0.0, refl, s.2))

keyed_read : {A : Type 0} (key : List ℕ) (says : List Token → Option A) (values : List Token) (texts : Texts) (rest : List Token) (said : A) → AreValues values texts → says values ≡ Some said
    → list_says says (keyed_first key ((Key key ∷ values ++ Close ∷ []) ++ rest)) ≡ Some (said, rest)
keyed_read {A} key says values texts rest said v e = ap (λ o. list_says says o) (keyed_values key values texts rest v) ∙ ap (λ o. before rest o) e

abbrev ended : {A : Type 0} → A → Option (A × List Token)
ended said = Some (said, [])

end_is : {A : Type 0} (o : Option (A × List Token)) (said : A) → at_end o ≡ Some said → o ≡ ended said
end_is {A} None said e = absurd (none-some said e)
end_is {A} (Some (first, [])) said e = ap (λ (x : A). ended x) (same_Some first said e)
end_is {A} (Some (first, token ∷ tokens)) said e = absurd (none-some said e)

or_cases : {A : Type 0} (o p : Option A) (x : A) → option_or o p ≡ Some x → (o ≡ Some x) ⊎ (p ≡ Some x)
or_cases {A} None p x e = inr e
or_cases {A} (Some y) p x e = inl e

-- values

value_is : (token : Token) (text : List ℕ) → value_text token ≡ Some text → IsValue token text
value_is (Word bytes) text e = same_Some bytes text e
value_is (Quoted bytes) text e = same_Some bytes text e
value_is (Key key) text e = absurd (none-some text e)
value_is (Blank byte) text e = absurd (none-some text e)
value_is (Comment bytes) text e = absurd (none-some text e)
value_is Open text e = absurd (none-some text e)
value_is Close text e = absurd (none-some text e)

is_value : (token : Token) (text : List ℕ) → IsValue token text → value_text token ≡ Some text
is_value (Word bytes) text v = ap Some v
is_value (Quoted bytes) text v = ap Some v
is_value (Key key) text v = absurd v
is_value (Blank byte) text v = absurd v
is_value (Comment bytes) text v = absurd v
is_value Open text v = absurd v
is_value Close text v = absurd v

texts_by : (token : Token) (tokens : List Token) (o : Option (List ℕ)) (p : Option Texts) (texts : Texts) → value_text token ≡ o → ((more : Texts) → p ≡ Some more → AreValues tokens more)
    → with_text o p ≡ Some texts → AreValues (token ∷ tokens) texts
texts_by token tokens None p texts v h e = absurd (none-some texts e)
texts_by token tokens (Some text) None texts v h e = absurd (none-some texts e)
texts_by token tokens (Some text) (Some more) texts v h e = subst (λ (l : Texts). AreValues (token ∷ tokens) l) (same_Some (text ∷ more) texts e) (value_is token text v, h more refl)

texts_sound : (tokens : List Token) (texts : Texts) → all_texts tokens ≡ Some texts → AreValues tokens texts
texts_sound [] texts e = subst (λ (l : Texts). AreValues [] l) (same_Some {A = Texts} [] texts e) tt
texts_sound (token ∷ tokens) texts e = texts_by token tokens (value_text token) (all_texts tokens) texts refl (texts_sound tokens) e

texts_complete : (tokens : List Token) (texts : Texts) → AreValues tokens texts → all_texts tokens ≡ Some texts
texts_complete [] [] v = refl
texts_complete [] (text ∷ texts) v = absurd v
texts_complete (token ∷ tokens) [] v = absurd v
texts_complete (token ∷ tokens) (text ∷ texts) v =
    ap (λ o. with_text o (all_texts tokens)) (is_value token text v.0) ∙ ap (λ p. with_text (Some text) p) (texts_complete tokens texts v.1)

few_sound : (o : Option Texts) (texts : Texts) → if_few o ≡ Some texts → (o ≡ Some texts) × (1 ≤ length texts) × (length texts ≤ 40)
few_sound None texts e = absurd (none-some texts e)
few_sound (Some more) texts e =
    let h = cond_some (nat_le 1 (length more) && nat_le (length more) 40) more texts e in
    let b = and_parts (nat_le 1 (length more)) (nat_le (length more) 40) h.0 in
    (ap Some h.1, subst (λ (l : Texts). 1 ≤ length l) h.1 (leb-true 1 (length more) b.0), subst (λ (l : Texts). length l ≤ 40) h.1 (leb-true (length more) 40 b.1))

abbrev few_or : Bool → Texts → Option Texts
few_or c texts = cond c (Some texts) None

few_complete : (texts : Texts) → 1 ≤ length texts → length texts ≤ 40 → if_few (Some texts) ≡ Some texts
few_complete texts least most =
    ap (λ c. few_or c texts) (and_from (nat_le 1 (length texts)) (nat_le (length texts) 40) (le-leb 1 (length texts) least) (le-leb (length texts) 40 most))

-- PGM

one_sound : (tokens : List Token) (q : QName) → one_program tokens ≡ Some q → IsPositional tokens q
one_sound [] q e = absurd (none-some q e)
one_sound (token ∷ []) q e = (token, refl, token_program token q e)
one_sound (token ∷ next ∷ tokens) q e = absurd (none-some q e)

one_complete : (tokens : List Token) (q : QName) → IsPositional tokens q → one_program tokens ≡ Some q
one_complete tokens q h = ap one_program h.1 ∙ program_token h.0 q h.2

pgm_sound : (tokens : List Token) (p : QName × List Token) → pgm_first tokens ≡ Some p → BeginsBy (λ l. IsPgm l p.0) tokens p.1
pgm_sound tokens p e =
    let k = keyed_says (codes "PGM") one_program tokens p e in
    (k.0, k.1, (k.2.0, k.2.1, one_sound k.2.0 p.0 k.2.2))

pgm_complete : (front rest : List Token) (pgm : QName) → IsPgm front pgm → pgm_first (front ++ rest) ≡ Some (pgm, rest)
pgm_complete front rest pgm h =
    let v = positional_values h.0 pgm h.2 in
    ap (λ l. pgm_first (l ++ rest)) h.1 ∙ keyed_read (codes "PGM") one_program h.0 (v.0 ∷ []) rest pgm v.1 (one_complete h.0 pgm h.2)

pgm_end_sound : (tokens : List Token) (pgm : QName) → at_end (pgm_first tokens) ≡ Some pgm → IsPgm tokens pgm
pgm_end_sound tokens pgm e =
    let k = pgm_sound tokens (pgm, []) (end_is (pgm_first tokens) pgm e) in
    subst (λ (l : List Token). IsPgm l pgm) (sym (k.1 ∙ append-nil k.0)) k.2

pgm_end_complete : (tokens : List Token) (pgm : QName) → IsPgm tokens pgm → at_end (pgm_first tokens) ≡ Some pgm
pgm_end_complete tokens pgm h = ap (λ l. at_end (pgm_first l)) (sym (append-nil tokens)) ∙ ap (λ o. at_end o) (pgm_complete tokens [] pgm h)

-- PARM

parm_sound : (tokens : List Token) (p : Texts × List Token) → parm_first tokens ≡ Some p → BeginsBy (λ l. IsParm l p.0) tokens p.1
parm_sound tokens p e =
    let k = keyed_says (codes "PARM") parm_texts tokens p e in
    let f = few_sound (all_texts k.2.0) p.0 k.2.2 in
    (k.0, k.1, (k.2.0, k.2.1, (texts_sound k.2.0 p.0 f.0, f.1, f.2)))

parm_complete : (front rest : List Token) (parms : Texts) → IsParm front parms → parm_first (front ++ rest) ≡ Some (parms, rest)
parm_complete front rest parms h =
    ap (λ l. parm_first (l ++ rest)) h.1
    ∙ keyed_read (codes "PARM") parm_texts h.0 parms rest parms h.2.0 (ap if_few (texts_complete h.0 parms h.2.0) ∙ few_complete parms h.2.1 h.2.2)

parms_sound : (tokens : List Token) (texts : Texts) → parms_last tokens ≡ Some texts → IsParms tokens texts
parms_sound [] texts e = inl (refl, sym (same_Some {A = Texts} [] texts e))
parms_sound (token ∷ tokens) texts e =
    let k = parm_sound (token ∷ tokens) (texts, []) (end_is (parm_first (token ∷ tokens)) texts e) in
    inr (subst (λ (l : List Token). IsParm l texts) (sym (k.1 ∙ append-nil k.0)) k.2)

parm_end : (tokens values : List Token) (parms : Texts) → tokens ≡ Key (codes "PARM") ∷ values → IsParm tokens parms → parms_last tokens ≡ Some parms
parm_end tokens values parms e h =
    ap parms_last e ∙ ap (λ l. at_end (parm_first l)) (sym e ∙ sym (append-nil tokens)) ∙ ap (λ o. at_end o) (parm_complete tokens [] parms h)

parms_complete : (tokens : List Token) (parms : Texts) → IsParms tokens parms → parms_last tokens ≡ Some parms
parms_complete tokens parms (inl (e, f)) = ap parms_last e ∙ ap Some (sym f)
parms_complete tokens parms (inr h) = parm_end tokens (h.0 ++ Close ∷ []) parms h.1 h

-- the program, with its key or without

positional_sound : (tokens : List Token) (p : QName × List Token) → positional_first tokens ≡ Some p → BeginsBy (λ l. IsPositional l p.0) tokens p.1
positional_sound [] p e = absurd (none-some p e)
positional_sound (token ∷ tokens) p e =
    let b = before_is tokens (program_by (reference_at token)) p e in
    (token ∷ [], ap (λ l. token ∷ l) b.1, (token, refl, token_program token p.0 b.0))

program_sound : (tokens : List Token) (p : QName × List Token) → program_first tokens ≡ Some p → BeginsBy (λ l. IsPositional l p.0 ⊎ IsPgm l p.0) tokens p.1
program_sound tokens p e = by_either (or_cases (pgm_first tokens) (positional_first tokens) p e)
  where
    by_either : (pgm_first tokens ≡ Some p) ⊎ (positional_first tokens ≡ Some p) → BeginsBy (λ l. IsPositional l p.0 ⊎ IsPgm l p.0) tokens p.1
    by_either (inl h) =
        let k = pgm_sound tokens p h in
        (k.0, k.1, inr k.2)
    by_either (inr h) =
        let k = positional_sound tokens p h in
        (k.0, k.1, inl k.2)

no_pgm : (token : Token) (text : List ℕ) (rest : List Token) → IsValue token text → pgm_first (token ∷ rest) ≡ None
no_pgm token text rest v = ap (λ c. list_says one_program (keyed_or c rest)) (no_key (codes "PGM") token text v)

program_complete : (front rest : List Token) (pgm : QName) → IsPositional front pgm ⊎ IsPgm front pgm → program_first (front ++ rest) ≡ Some (pgm, rest)
program_complete front rest pgm (inl h) =
    let v = program_value h.0 pgm h.2 in
    ap (λ l. program_first (l ++ rest)) h.1
    ∙ ap (λ o. option_or o (positional_first (h.0 ∷ rest))) (no_pgm h.0 v.0 rest v.1) ∙ ap (λ o. before rest o) (program_token h.0 pgm h.2)
program_complete front rest pgm (inr h) = ap (λ o. option_or o (positional_first (front ++ rest))) (pgm_complete front rest pgm h)

no_program : (front rest : List Token) (parms : Texts) → IsParm front parms → program_first (front ++ rest) ≡ None
no_program front rest parms h = ap (λ l. program_first (l ++ rest)) h.1

-- the CALL

called_is : (o : Option QName) (p : Option Texts) (call : CallText) → called_by o p ≡ Some call → (o ≡ Some call.pgm) × (p ≡ Some call.parms)
called_is None p call e = absurd (none-some call e)
called_is (Some pgm) None call e = absurd (none-some call e)
called_is (Some pgm) (Some texts) call e =
    let same = same_Some {A = CallText} (record { pgm = pgm; parms = texts }) call e in
    (ap (λ (c : CallText). Some c.pgm) same, ap (λ (c : CallText). Some c.parms) same)

program_call : (tokens : List Token) (o : Option (QName × List Token)) (call : CallText) → program_first tokens ≡ o → program_then o ≡ Some call → IsCall tokens call.pgm call.parms
program_call tokens None call r e = absurd (none-some call e)
program_call tokens (Some p) call r e =
    let c = called_is (Some p.0) (parms_last p.1) call e in
    let k = program_sound tokens p r in
    subst (λ (q : QName). IsCall tokens q call.parms) (same_Some p.0 call.pgm c.0)
    (record { front = k.0; back = p.1; whole = k.1; parts = inl (k.2, parms_sound p.1 call.parms c.1) })

values_call : (tokens : List Token) (o : Option (Texts × List Token)) (call : CallText) → parm_first tokens ≡ o → values_then o ≡ Some call → IsCall tokens call.pgm call.parms
values_call tokens None call r e = absurd (none-some call e)
values_call tokens (Some p) call r e =
    let c = called_is (at_end (pgm_first p.1)) (Some p.0) call e in
    let k = parm_sound tokens p r in
    subst (λ (l : Texts). IsCall tokens call.pgm l) (same_Some p.0 call.parms c.1)
    (record { front = k.0; back = p.1; whole = k.1; parts = inr (k.2, pgm_end_sound p.1 call.pgm c.0) })

abbrev reading : List Token → Option CallText
reading tokens = option_or (program_then (program_first tokens)) (values_then (parm_first tokens))

reading_sound : (tokens : List Token) (call : CallText) → reading tokens ≡ Some call → IsCall tokens call.pgm call.parms
reading_sound tokens call e =
    elim (or_cases (program_then (program_first tokens)) (values_then (parm_first tokens)) call e) [
      | inl h ↦ program_call tokens (program_first tokens) call refl h
      | inr h ↦ values_call tokens (parm_first tokens) call refl h
    ]

reading_complete : (front back : List Token) (pgm : QName) (parms : Texts) → ((IsPositional front pgm ⊎ IsPgm front pgm) × IsParms back parms) ⊎ (IsParm front parms × IsPgm back pgm)
    → reading (front ++ back) ≡ Some (record { pgm = pgm; parms = parms })
reading_complete front back pgm parms (inl (p, q)) =
    ap (λ o. option_or (program_then o) (values_then (parm_first (front ++ back)))) (program_complete front back pgm p)
    ∙ ap (λ o. option_or (called_by (Some pgm) o) (values_then (parm_first (front ++ back)))) (parms_complete back parms q)
reading_complete front back pgm parms (inr (p, q)) =
    ap (λ o. option_or (program_then o) (values_then (parm_first (front ++ back)))) (no_program front back parms p)
    ∙ ap values_then (parm_complete front back parms p) ∙ ap (λ o. called_by o (Some parms)) (pgm_end_complete back pgm q)

pub call_sound : (tokens : List Token) (call : CallText) → call_of_tokens tokens ≡ Some call → IsCall tokens call.pgm call.parms
unfolding call_of_tokens
call_sound tokens call e = reading_sound tokens call e

pub call_complete : (tokens : List Token) (pgm : QName) (parms : Texts) → IsCall tokens pgm parms → call_of_tokens tokens ≡ Some (record { pgm = pgm; parms = parms })
unfolding call_of_tokens
call_complete tokens pgm parms h = ap reading h.whole ∙ reading_complete h.front h.back pgm parms h.parts
