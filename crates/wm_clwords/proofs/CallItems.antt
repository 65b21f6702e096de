-- What the parts of a CALL say of its items, and the items of its parts.
use Rattle.std.proofs.Common.{◌≡◌, ◌≢◌, ◌⊎◌, ℕ, ◌++◌, ◌&&◌, true, List, [], ◌∷◌, length, subst, sym, ◌∙◌, ap, refl, arith, inl, inr, codes, nat_eq, nat_le}
use Rattle.std.specs.Cmp.Lexicographic.{pointwise}
use Rattle.std.specs.List.{list_all}
use Rattle.std.proofs.lemmas.Bool.{and_parts, and_from, false≢true}
use Rattle.std.proofs.lemmas.Bool.Decides.{nat_tests}
use Rattle.std.proofs.lemmas.List.{append-nil, append_cancel_right}
use Rattle.wm_base.specs.declared.qname.QName.{QName}
use Rattle.wm_clwords.specs.declared.tree.Item.{Item}
use Rattle.wm_clwords.specs.Grammar.{Token, Blank, Comment, Word, Quoted, Key, Open, Close}
use Rattle.wm_clwords.specs.Call.{item_tokens, list_tokens, IsValue, AreValues, IsProgram, IsPositional, IsPgm, IsParm, IsParms, IsCall}
use Rattle.wm_clwords.specs.CallReading.{are_parms, is_value, texts_of}
use Rattle.wm_clwords.proofs.Tokens.{heads, no_key, key_same, cut_value, cut_keyed, no_items, one_item, one_value, list_tokens-cons, values_items, items_values}

-- a program's token is a value
pub program_value : (token : Token) (pgm : QName) → IsProgram token pgm → (text : List ℕ) × IsValue token text
program_value (Word bytes) pgm h = (bytes, refl)
program_value (Quoted bytes) pgm h = (bytes, refl)
program_value (Key bytes) pgm h = absurd h
program_value (Blank byte) pgm h = absurd h
program_value (Comment bytes) pgm h = absurd h
program_value Open pgm h = absurd h
program_value Close pgm h = absurd h

pub positional_values : (tokens : List Token) (pgm : QName) → IsPositional tokens pgm → (text : List ℕ) × AreValues tokens (text ∷ [])
positional_values tokens pgm h =
    let v = program_value h.0 pgm h.2 in
    (v.0, subst (λ (l : List Token). AreValues l (v.0 ∷ [])) (sym h.1) (v.1, tt))

-- the same key's lists
pub same_list : (key a b : List ℕ) (x y : List Token) → Key a ∷ x ++ Close ∷ [] ≡ Key b ∷ y ++ Close ∷ [] → (a ≡ b) × (x ≡ y)
same_list key a b x y e =
    let h = heads (Key a) (Key b) (x ++ Close ∷ []) (y ++ Close ∷ []) e in
    (key_same a b h.0, append_cancel_right x y (Close ∷ []) h.1)

pgm_parm : ◌≡◌ {A = List ℕ} (codes "PGM") (codes "PARM") → ⊥
pgm_parm e = false≢true (ap (λ l. pointwise nat_eq l (codes "PARM")) e)

-- PARM
pub parm_from : (item : Item) (values : List Item) → item_tokens item ≡ Key (codes "PARM") ∷ list_tokens values ++ Close ∷ [] → are_parms values ≡ true
    → IsParm (item_tokens item) (texts_of values)
parm_from item values e h =
    let parts = and_parts (nat_le 1 (length values) && nat_le (length values) 40) (list_all is_value values) h in
    let both = and_parts (nat_le 1 (length values)) (nat_le (length values) 40) parts.0 in
    let v = items_values values parts.1 in
    (list_tokens values, e, (v.0, grind (arith, nat_tests, v.1, both.0), grind (arith, nat_tests, v.1, both.1)))

pub parm_items : (tokens : List Token) (values : List Item) (parms : List (List ℕ)) → tokens ≡ Key (codes "PARM") ∷ list_tokens values ++ Close ∷ [] → IsParm tokens parms
    → (are_parms values ≡ true) × (texts_of values ≡ parms)
parm_items tokens values parms e h =
    let same = same_list [] _ _ (list_tokens values) h.0 (sym e ∙ h.1) in
    let v = values_items values parms (subst (λ (l : List Token). AreValues l parms) (sym same.1) h.2.0) in
    let few : nat_le 1 (length values) ≡ true = grind (arith, nat_tests, v.long, h.2.1) in
    let most : nat_le (length values) 40 ≡ true = grind (arith, nat_tests, v.long, h.2.2) in
    (and_from (nat_le 1 (length values) && nat_le (length values) 40) (list_all is_value values) (and_from (nat_le 1 (length values)) (nat_le (length values) 40) few most) v.all, v.texts_are)

-- the values of one PARM
pub same_values : (tokens : List Token) (a b : List (List ℕ)) → AreValues tokens a → AreValues tokens b → a ≡ b
same_values [] [] [] v w = refl
same_values [] (a ∷ more) b v w = absurd v
same_values [] [] (b ∷ others) v w = absurd w
same_values (t ∷ ts) [] b v w = absurd v
same_values (t ∷ ts) (a ∷ more) [] v w = absurd w
same_values (t ∷ ts) (a ∷ more) (b ∷ others) v w = ap (λ x. x ∷ more) (same_value t a b v.0 w.0) ∙ ap (λ l. b ∷ l) (same_values ts more others v.1 w.1)
  where
    same_value : (t : Token) (a b : List ℕ) → IsValue t a → IsValue t b → a ≡ b
    same_value (Word x) a b v w = sym v ∙ w
    same_value (Quoted x) a b v w = sym v ∙ w
    same_value (Key x) a b v w = absurd v
    same_value (Blank x) a b v w = absurd v
    same_value (Comment x) a b v w = absurd v
    same_value Open a b v w = absurd v
    same_value Close a b v w = absurd v

pub same_parm : (tokens : List Token) (a b : List (List ℕ)) → IsParm tokens a → IsParm tokens b → a ≡ b
same_parm tokens a b h k =
    let same = same_list [] _ _ h.0 k.0 (sym h.1 ∙ k.1) in
    same_values k.0 a b (subst (λ (l : List Token). AreValues l a) same.1 h.2.0) k.2.0

pub pgm_values : (tokens : List Token) (values : List Item) (pgm : QName) → tokens ≡ Key (codes "PGM") ∷ list_tokens values ++ Close ∷ [] → IsPgm tokens pgm → IsPositional (list_tokens values) pgm
pgm_values tokens values pgm e h =
    let same = same_list [] _ _ (list_tokens values) h.0 (sym e ∙ h.1) in
    subst (λ (l : List Token). IsPositional l pgm) (sym same.1) h.2

pub pgm_value : (tokens : List Token) (values : List Item) (value : Item) (pgm : QName) → tokens ≡ Key (codes "PGM") ∷ list_tokens values ++ Close ∷ [] → values ≡ value ∷ []
    → IsPgm tokens pgm → IsPositional (item_tokens value) pgm
pgm_value tokens values value pgm e one h =
    subst (λ (l : List Token). IsPositional l pgm) (ap list_tokens one ∙ one_item value) (pgm_values tokens values pgm e h)

pub pgm_not_one : (tokens : List Token) (values : List Item) (pgm : QName) → tokens ≡ Key (codes "PGM") ∷ list_tokens values ++ Close ∷ [] → ((value : Item) → values ≢ value ∷ [])
    → IsPgm tokens pgm → ⊥
pgm_not_one tokens values pgm e none h =
    let p = pgm_values tokens values pgm e h in
    let one = one_value values p.0 p.1 in
    none one.0 one.1

-- items of one keyed item
pub keyed_alone : (items : List Item) (key : List ℕ) (values : List Token) (texts : List (List ℕ)) → AreValues values texts → list_tokens items ≡ Key key ∷ values ++ Close ∷ [] → (item : Item) × (items ≡ item ∷ [])
keyed_alone [] key values texts v e = cc
keyed_alone (item ∷ items) key values texts v e =
    let cut = cut_keyed item key values texts (list_tokens items) [] v (sym (list_tokens-cons item items) ∙ e ∙ sym (append-nil (Key key ∷ values ++ Close ∷ []))) in
    (item, ap (λ l. item ∷ l) (no_items items cut.1))

pub pgm_alone : (items : List Item) (pgm : QName) → IsPgm (list_tokens items) pgm → (item : Item) × (items ≡ item ∷ [])
pgm_alone items pgm h =
    let v = positional_values h.0 pgm h.2 in
    keyed_alone items _ h.0 (v.0 ∷ []) v.1 h.1

pub parm_alone : (items : List Item) (parms : List (List ℕ)) → IsParm (list_tokens items) parms → (item : Item) × (items ≡ item ∷ [])
parm_alone items parms h = keyed_alone items _ h.0 parms h.2.0 h.1

pub pgm_of_one : (items : List Item) (item : Item) (pgm : QName) → items ≡ item ∷ [] → IsPgm (list_tokens items) pgm → IsPgm (item_tokens item) pgm
pgm_of_one items item pgm e h = subst (λ (l : List Token). IsPgm l pgm) (ap list_tokens e ∙ one_item item) h

pub pgm_no_item : (items : List Item) (pgm : QName) → ((item : Item) → items ≢ item ∷ []) → IsPgm (list_tokens items) pgm → ⊥
pgm_no_item items pgm none h =
    let one = pgm_alone items pgm h in
    none one.0 one.1

pub parms_of_one : (items : List Item) (item : Item) (parms : List (List ℕ)) → items ≡ item ∷ [] → IsParms (list_tokens items) parms → IsParm (item_tokens item) parms
parms_of_one items item parms e (inl h) = cc (sym e ∙ no_items items h.0)
parms_of_one items item parms e (inr h) = subst (λ (l : List Token). IsParm l parms) (ap list_tokens e ∙ one_item item) h

pub parms_no_item : (items : List Item) (parms : List (List ℕ)) → (items ≢ []) → ((item : Item) → items ≢ item ∷ []) → IsParms (list_tokens items) parms → ⊥
parms_no_item items parms some none (inl h) = some (no_items items h.0)
parms_no_item items parms some none (inr h) =
    let one = parm_alone items parms h in
    none one.0 one.1

-- a CALL whose first item is PARM
pub call_parm_first : (first : Item) (others : List Item) (texts : List (List ℕ)) (pgm : QName) (parms : List (List ℕ)) → IsParm (item_tokens first) texts
    → IsCall (list_tokens (first ∷ others)) pgm parms → IsPgm (list_tokens others) pgm × (texts ≡ parms)
call_parm_first first others texts pgm parms p h = by_parts h.parts
  where
    whole : item_tokens first ++ list_tokens others ≡ h.front ++ h.back
    whole = sym (list_tokens-cons first others) ∙ h.whole

    begun_by : (t : Token) (x : List Token) → h.front ≡ t ∷ x → Key (codes "PARM") ≡ t
    begun_by t x e = (heads (Key (codes "PARM")) t _ _ (ap (λ l. l ++ list_tokens others) (sym p.1) ∙ whole ∙ ap (λ l. l ++ h.back) e)).0

    by_parts : ((IsPositional h.front pgm ⊎ IsPgm h.front pgm) × IsParms h.back parms) ⊎ (IsParm h.front parms × IsPgm h.back pgm) → IsPgm (list_tokens others) pgm × (texts ≡ parms)
    by_parts (inl (inl q, _)) =
        let v = program_value q.0 pgm q.2 in
        absurd (no_key q.0 v.0 (codes "PARM") v.1 (sym (begun_by q.0 [] q.1)))
    by_parts (inl (inr q, _)) = absurd (pgm_parm (sym (key_same _ _ (begun_by _ _ q.1))))
    by_parts (inr (q, r)) =
        let cut = cut_keyed first (codes "PARM") q.0 parms (list_tokens others) h.back q.2.0 (whole ∙ ap (λ l. l ++ h.back) q.1) in
        (subst (λ (l : List Token). IsPgm l pgm) (sym cut.1) r, same_parm (item_tokens first) texts parms p (subst (λ (l : List Token). IsParm l parms) (q.1 ∙ sym cut.0) q))

-- a CALL whose first item is no PARM
pub call_other_first : (first : Item) (others : List Item) (pgm : QName) (parms : List (List ℕ)) → ((texts : List (List ℕ)) → IsParm (item_tokens first) texts → ⊥)
    → IsCall (list_tokens (first ∷ others)) pgm parms → (IsPositional (item_tokens first) pgm ⊎ IsPgm (item_tokens first) pgm) × IsParms (list_tokens others) parms
call_other_first first others pgm parms none h = by_parts h.parts
  where
    whole : item_tokens first ++ list_tokens others ≡ h.front ++ h.back
    whole = sym (list_tokens-cons first others) ∙ h.whole

    by_parts : ((IsPositional h.front pgm ⊎ IsPgm h.front pgm) × IsParms h.back parms) ⊎ (IsParm h.front parms × IsPgm h.back pgm)
        → (IsPositional (item_tokens first) pgm ⊎ IsPgm (item_tokens first) pgm) × IsParms (list_tokens others) parms
    by_parts (inl (inl q, r)) =
        let v = program_value q.0 pgm q.2 in
        let cut = cut_value first q.0 v.0 (list_tokens others) h.back v.1 (whole ∙ ap (λ l. l ++ h.back) q.1) in
        (inl (q.0, cut.0, q.2), subst (λ (l : List Token). IsParms l parms) (sym cut.1) r)
    by_parts (inl (inr q, r)) =
        let v = positional_values q.0 pgm q.2 in
        let cut = cut_keyed first (codes "PGM") q.0 (v.0 ∷ []) (list_tokens others) h.back v.1 (whole ∙ ap (λ l. l ++ h.back) q.1) in
        (inr (q.0, cut.0, q.2), subst (λ (l : List Token). IsParms l parms) (sym cut.1) r)
    by_parts (inr (q, r)) =
        let cut = cut_keyed first (codes "PARM") q.0 parms (list_tokens others) h.back q.2.0 (whole ∙ ap (λ l. l ++ h.back) q.1) in
        absurd (none parms (q.0, cut.0, q.2))

-- what the parts make
pub call_from_parm : (first : Item) (others : List Item) (pgm : QName) (parms : List (List ℕ)) → IsParm (item_tokens first) parms → IsPgm (list_tokens others) pgm → IsCall (list_tokens (first ∷ others)) pgm parms
call_from_parm first others pgm parms p q = record { front = item_tokens first; back = list_tokens others; whole = list_tokens-cons first others; parts = inr (p, q) }

pub call_from_program : (first : Item) (others : List Item) (pgm : QName) (parms : List (List ℕ)) → IsPositional (item_tokens first) pgm ⊎ IsPgm (item_tokens first) pgm → IsParms (list_tokens others) parms
    → IsCall (list_tokens (first ∷ others)) pgm parms
call_from_program first others pgm parms p q = record { front = item_tokens first; back = list_tokens others; whole = list_tokens-cons first others; parts = inl (p, q) }
