-- Names and references as words.
use Rattle.std.proofs.Common.{◌≡◌, ℕ, ◌++◌, ◌&&◌, true, false, List, [], ◌∷◌, eqb, sym, ◌∙◌, ap, refl, arith, slice_index}
use Rattle.std.specs.List.{list_all}
use Rattle.std.proofs.lemmas.Bool.{and_parts, and_from, false≢true}
use Rattle.std.proofs.lemmas.Bool.Decides.{nat_tests}
use Rattle.std.proofs.lemmas.List.{append_assoc, append-nil, map-append}
use Rattle.std.proofs.lemmas.List.Folds.{list_all-append}
use Rattle.wm_base.specs.Name.{begins_name, continues_name, IsName}
use Rattle.wm_base.specs.QName.{qname_text}
use Rattle.wm_base.specs.declared.qname.QName.{QName}
use Rattle.wm_base.proofs.Names.{continues-name}
use Rattle.wm_clwords.specs.Grammar.{is_word_byte, begins_comment, is_word, upper_byte, upper}
use Rattle.wm_clwords.proofs.GrammarLemmas.{word_from}

upper_of : (b : ℕ) → continues_name b ≡ true → upper_byte b ≡ b
upper_of b h = grind (arith, nat_tests)

word_of : (b : ℕ) → continues_name b ≡ true → is_word_byte b ≡ true
word_of b h = grind (arith, nat_tests)

no_slash : (b : ℕ) → begins_name b ≡ true → eqb b 47 ≡ false
no_slash b h = grind (arith, nat_tests)

upper_all : (bytes : List ℕ) → list_all continues_name bytes ≡ true → upper bytes ≡ bytes
upper_all [] h = refl
upper_all (b ∷ bytes) h =
    let both = and_parts (continues_name b) (list_all continues_name bytes) h in
    ap (λ x. x ∷ upper bytes) (upper_of b both.0) ∙ ap (λ l. b ∷ l) (upper_all bytes both.1)

word_all : (bytes : List ℕ) → list_all continues_name bytes ≡ true → list_all is_word_byte bytes ≡ true
word_all [] h = refl
word_all (b ∷ bytes) h =
    let both = and_parts (continues_name b) (list_all continues_name bytes) h in
    and_from (is_word_byte b) (list_all is_word_byte bytes) (word_of b both.0) (word_all bytes both.1)

begins : (name : List ℕ) → IsName name → begins_name (slice_index name 0) ≡ true
begins name h = (and_parts _ (begins_name (slice_index name 0)) h).1

pub no_comment : (b : ℕ) (bytes : List ℕ) → eqb b 47 ≡ false → begins_comment (b ∷ bytes) ≡ false
no_comment b [] e = refl
no_comment b (next ∷ bytes) e = ap (λ c. c && eqb next 42) e

word_by : (b : ℕ) (bytes : List ℕ) → list_all is_word_byte (b ∷ bytes) ≡ true → begins_name b ≡ true → is_word (b ∷ bytes) ≡ true
word_by b bytes h e = word_from (b ∷ bytes) refl h (no_comment b bytes (no_slash b e))

-- what begins with a name, and goes on with a word's bytes, is a word
name_word_by : (name bytes : List ℕ) → IsName name → list_all is_word_byte bytes ≡ true → is_word (name ++ bytes) ≡ true
name_word_by [] bytes h e = absurd (false≢true h)
name_word_by (b ∷ name) bytes h e =
    word_by b (name ++ bytes)
    (list_all-append is_word_byte (b ∷ name) bytes ∙ and_from (list_all is_word_byte (b ∷ name)) (list_all is_word_byte bytes) (word_all (b ∷ name) (continues-name (b ∷ name) h)) e)
    (begins (b ∷ name) h)

pub upper_name : (name : List ℕ) → IsName name → upper name ≡ name
upper_name name h = upper_all name (continues-name name h)

pub word_name : (name : List ℕ) → IsName name → is_word name ≡ true
word_name name h = ap is_word (sym (append-nil name)) ∙ name_word_by name [] h refl

pub upper_qname : (q : QName) → IsName q.lib → IsName q.name → upper (qname_text q) ≡ qname_text q
upper_qname q l n =
    map-append upper_byte (q.lib ++ 47 ∷ []) q.name ∙ ap (λ x. x ++ upper q.name) (map-append upper_byte q.lib (47 ∷ []))
    ∙ ap (λ x. (x ++ 47 ∷ []) ++ upper q.name) (upper_name q.lib l) ∙ ap (λ x. (q.lib ++ 47 ∷ []) ++ x) (upper_name q.name n)

pub word_qname : (q : QName) → IsName q.lib → IsName q.name → is_word (qname_text q) ≡ true
word_qname q l n = ap is_word (append_assoc q.lib (47 ∷ []) q.name) ∙ name_word_by q.lib (47 ∷ q.name) l (word_all q.name (continues-name q.name n))
