-- What the words and texts of printed values are read as.
use Rattle.std.proofs.Common.{◌≡◌, ℕ, ◌<◌, ◌&&◌, drop, Bool, true, false, not, cond, nat_lt, nat_eq, List, [], ◌∷◌, Some, None, Ok, subst, sym, ◌∙◌, ap, refl, arith, codes, inl, inr}
use Rattle.std.specs.Cmp.Lexicographic.{pointwise}
use Rattle.std.specs.Fmt.{decimal}
use Rattle.std.proofs.lemmas.Bool.{and_parts, false≢true, not-true}
use Rattle.wm_base.specs.QName.{qname_text}
use Rattle.wm_base.specs.declared.qname.QName.{QName}
use Rattle.wm_clwords.specs.declared.tree.Span.{Span}
use Rattle.wm_clwords.specs.declared.tree.Item.{Item, Word as ItemWord, Quoted as ItemQuoted, List', Keyed'}
use Rattle.wm_clwords.specs.Grammar.{Token, Word, Quoted}
use Rattle.wm_clwords.specs.Call.{IsReference, item_tokens, list_tokens, program_library}
use Rattle.wm_clwords.specs.CallReading.{object_by, program_by, reference_of}
use Rattle.wm_clwords.proofs.References.{object_all, program_all}
use Rattle.wm_clwords.proofs.Tokens.{cut_value, list_tokens-cons, one_item, one_value}
use Rattle.wm_desc.specs.declared.entry.Cmp.{Cmp}
use Rattle.wm_desc.specs.declared.entry.Cmp.TheVariants.{Any, Val}
use Rattle.wm_command.specs.declared.row.Kind.{Kind}
use Rattle.wm_command.specs.declared.row.Kind.TheVariants as kind
use Rattle.wm_command.specs.declared.row.Special.{Special}
use Rattle.wm_command.specs.declared.row.Special.TheVariants as special
use Rattle.wm_command.specs.declared.value.Value.{Value}
use Rattle.wm_command.specs.declared.value.Value.TheVariants as value
use Rattle.wm_command.specs.Texts.{job_text, date_text, time_text}
use Rattle.wm_command.specs.Printed.{IsQualified, FitsCompare}
use Rattle.wm_command.specs.Reading.{row_value}
use Rattle.wm_command.specs.Values.{kind_value, special_word, is_never, is_special, or_bad, compared, text_from}
use Rattle.wm_command.specs.Values.{one_value as one_read}
use Rattle.wm_command.specs.Words.{flag_text, ending_text}
use Rattle.wm_command.proofs.Digits.{number_decimal}
use Rattle.wm_command.proofs.Plain.{Plain, plain_no_star}

-- the tokens of a printed value
abbrev pub value_tokens : Value → List Token
value_tokens value.Nothing = []
value_tokens (value.Special s) = Word (special_word s) ∷ []
value_tokens (value.Object q) = Word (qname_text q) ∷ []
value_tokens (value.Name n) = Word n ∷ []
value_tokens (value.Text t) = Quoted t ∷ []
value_tokens (value.Number n) = Word (decimal n) ∷ []
value_tokens (value.Flag b) = Word (flag_text b) ∷ []
value_tokens (value.Ending e) = Word (ending_text e) ∷ []
value_tokens (value.Job j) = Word (job_text j) ∷ []
value_tokens (value.Compare Any) = Word (codes "*ANY") ∷ []
value_tokens (value.Compare (Val text start)) = Quoted text ∷ Word (decimal start) ∷ []
value_tokens (value.Date d) = Word (date_text d) ∷ []
value_tokens (value.Time t) = Word (time_text t) ∷ []

-- what the table's rows keep to: numbers of nine digits at most, and no special word beside a compare value
abbrev pub is_sound : Kind → Special → Bool
is_sound (kind.Number low high) s = nat_lt high 1000000000
is_sound kind.Compare s = is_never s
is_sound kind.Call s = false
is_sound kind.Anything s = false
is_sound k s = true

-- items by their tokens

by_word : (item : Item) (w : List ℕ) → item_tokens item ≡ Word w ∷ [] → (P : Item → Type 0) → ((span : Span) → P (ItemWord span w)) → P item
by_word (ItemWord span text) w e P f = let same : text ≡ w = cc in subst (λ (b : List ℕ). P (ItemWord span b)) (sym same) (f span)
by_word (ItemQuoted span text) w e P f = absurd (cc)
by_word (List' span shape row) w e P f = absurd (cc)
by_word (Keyed' span key shape row) w e P f = absurd (cc)

by_quoted : (item : Item) (t : List ℕ) → item_tokens item ≡ Quoted t ∷ [] → (P : Item → Type 0) → ((span : Span) → P (ItemQuoted span t)) → P item
by_quoted (ItemWord span text) t e P f = absurd (cc)
by_quoted (ItemQuoted span text) t e P f = let same : text ≡ t = cc in subst (λ (b : List ℕ). P (ItemQuoted span b)) (sym same) (f span)
by_quoted (List' span shape row) t e P f = absurd (cc)
by_quoted (Keyed' span key shape row) t e P f = absurd (cc)

pub word_only : (items : List Item) (w : List ℕ) → list_tokens items ≡ Word w ∷ [] → (P : List Item → Type 0) → ((span : Span) → P (ItemWord span w ∷ [])) → P items
word_only items w e P f =
    let o = one_value items (Word w) e in
    subst P (sym o.1) (by_word o.0 w (sym (one_item o.0) ∙ ap list_tokens (sym o.1) ∙ e) (λ i. P (i ∷ [])) f)

pub quoted_only : (items : List Item) (t : List ℕ) → list_tokens items ≡ Quoted t ∷ [] → (P : List Item → Type 0) → ((span : Span) → P (ItemQuoted span t ∷ [])) → P items
quoted_only items t e P f =
    let o = one_value items (Quoted t) e in
    subst P (sym o.1) (by_quoted o.0 t (sym (one_item o.0) ∙ ap list_tokens (sym o.1) ∙ e) (λ i. P (i ∷ [])) f)

both_only : (items : List Item) (t w : List ℕ) → list_tokens items ≡ Quoted t ∷ Word w ∷ [] → (P : List Item → Type 0) → ((a b : Span) → P (ItemQuoted a t ∷ ItemWord b w ∷ [])) → P items
both_only [] t w e P f = absurd (cc)
both_only (item ∷ items) t w e P f =
    let c = cut_value item (Quoted t) t (list_tokens items) (Word w ∷ []) refl (sym (list_tokens-cons item items) ∙ e) in
    by_quoted item t c.0 (λ i. P (i ∷ items)) (λ a. word_only items w c.1 (λ l. P (ItemQuoted a t ∷ l)) (λ b. f a b))

-- no special word

pub not_special : (s : Special) (span : Span) (w : List ℕ) → Plain w → is_special s (ItemWord span w) ≡ false
unfolding special_word
not_special special.Never span w p = refl
not_special s span w p = plain_no_star w (drop 1 (special_word s)) p

-- words that are told apart from each special word
abbrev pub is_own : List ℕ → Bool
is_own w =
    not (pointwise nat_eq w (codes "*NOMAX")) && not (pointwise nat_eq w (codes "*NONE")) && not (pointwise nat_eq w (codes "*JOBD"))
    && not (pointwise nat_eq w (codes "*SAME")) && not (pointwise nat_eq w (codes "*NOLIMIT")) && not (pointwise nat_eq w (codes "*SBSD"))

pub own_special : (s : Special) (span : Span) (w : List ℕ) → is_own w ≡ true → is_special s (ItemWord span w) ≡ false
unfolding special_word
own_special special.Never span w h = refl
own_special special.Sbsd span w h = not-true (pointwise nat_eq w (codes "*SBSD")) (and_parts _ _ h).1
own_special special.Nolimit span w h = not-true (pointwise nat_eq w (codes "*NOLIMIT")) (and_parts _ _ (and_parts _ _ h).0).1
own_special special.Same span w h = not-true (pointwise nat_eq w (codes "*SAME")) (and_parts _ _ (and_parts _ _ (and_parts _ _ h).0).0).1
own_special special.Jobd span w h = not-true (pointwise nat_eq w (codes "*JOBD")) (and_parts _ _ (and_parts _ _ (and_parts _ _ (and_parts _ _ h).0).0).0).1
own_special special.None span w h = not-true (pointwise nat_eq w (codes "*NONE")) (and_parts _ _ (and_parts _ _ (and_parts _ _ (and_parts _ _ (and_parts _ _ h).0).0).0).0).1
own_special special.Nomax span w h = not-true (pointwise nat_eq w (codes "*NOMAX")) (and_parts _ _ (and_parts _ _ (and_parts _ _ (and_parts _ _ (and_parts _ _ h).0).0).0).0).0

quoted_special : (s : Special) (span : Span) (t : List ℕ) → is_special s (ItemQuoted span t) ≡ false
quoted_special special.Never span t = refl
quoted_special s span t = refl

-- a word that is a value of the kind, and no special word
pub word_read : (k : Kind) (s : Special) (place : ℕ) (span : Span) (w : List ℕ) (v : Value) → is_special s (ItemWord span w) ≡ false → kind_value k (ItemWord span w) w ≡ Some v
    → one_read k s place (ItemWord span w ∷ []) ≡ Ok v
word_read k s place span w v h e = ap (λ c. or_bad place (cond c (Some (value.Special s)) (kind_value k (ItemWord span w) w))) h ∙ ap (or_bad place) e

pub quoted_read : (k : Kind) (s : Special) (place : ℕ) (span : Span) (t : List ℕ) (v : Value) → kind_value k (ItemQuoted span t) t ≡ Some v → one_read k s place (ItemQuoted span t ∷ []) ≡ Ok v
quoted_read k s place span t v e = ap (λ c. or_bad place (cond c (Some (value.Special s)) (kind_value k (ItemQuoted span t) t))) (quoted_special s span t) ∙ ap (or_bad place) e

special_read : (k : Kind) (s : Special) (place : ℕ) (span : Span) → is_never s ≡ false → one_read k s place (ItemWord span (special_word s) ∷ []) ≡ Ok (value.Special s)
unfolding special_word
special_read k special.Never place span n = absurd (false≢true (sym n))
special_read k s place span n = refl

-- references
qualified : (library : List ℕ) (q : QName) → IsQualified q → IsReference library (Word (qname_text q)) q
qualified library q h = inl (h.1, inr (h.0, refl))

pub object_read : (span : Span) (q : QName) → IsQualified q → object_by (reference_of (ItemWord span (qname_text q))) ≡ Some q
object_read span q h =
    object_all (ItemWord span (qname_text q)) (object_by (reference_of (ItemWord span (qname_text q)))) refl q (Word (qname_text q), refl, qualified (codes "QGPL") q h)

pub program_read : (span : Span) (q : QName) → IsQualified q → program_by (reference_of (ItemWord span (qname_text q))) ≡ Some q
program_read span q h =
    program_all (ItemWord span (qname_text q)) (program_by (reference_of (ItemWord span (qname_text q)))) refl q (Word (qname_text q), refl, qualified (program_library q.name) q h)

-- compare values
pub compare_read : (c : Cmp) (place : ℕ) (items : List Item) → FitsCompare c → list_tokens items ≡ value_tokens (value.Compare c) → compared place items ≡ Ok (value.Compare c)
compare_read Any place items h e = word_only items (codes "*ANY") e (λ l. compared place l ≡ Ok (value.Compare Any)) (λ span. refl)
compare_read (Val text start) place items h e =
    let small : 80 < 1000000000 = omega arith in
    let range = and_parts _ _ (and_parts _ _ h.1).0 in
    both_only items text (decimal start) e (λ l. compared place l ≡ Ok (value.Compare (Val text start)))
    (λ a b.
    ap (λ o. or_bad place (text_from (Some text) o)) (number_decimal 1 80 start small range.1)
    ∙ ap (λ c. or_bad place (cond c (Some (value.Compare (Val text start))) None)) h.1)

-- the special word of a row
never_sound : (b : Bool) → b ≡ true → b ≡ false → ⊥
never_sound b t f = false≢true (sym f ∙ t)

pub special_back : (k : Kind) (s : Special) (place : ℕ) (items : List Item) → is_sound k s ≡ true → is_never s ≡ false → list_tokens items ≡ Word (special_word s) ∷ [] → row_value k s place items ≡ Ok (value.Special s)
special_back kind.Compare s place items sound never e = absurd (never_sound (is_never s) sound never)
special_back kind.Call s place items sound never e = absurd (false≢true sound)
special_back kind.Anything s place items sound never e = absurd (false≢true sound)
special_back k s place items sound never e =
    word_only items (special_word s) e (λ l. row_value k s place l ≡ Ok (value.Special s)) (λ span. special_read k s place span never)
