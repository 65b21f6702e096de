-- A reference is read as what it is, both ways.
use Rattle.std.proofs.Common.{◌≡◌, ◌⊎◌, ℕ, ◌+◌, ◌++◌, ◌&&◌, not, nat_lt, Bool, true, false, cond, List, [], ◌∷◌, length, take, drop, get_or, position, Option, Some, None, IfSome, subst, sym, ◌∙◌, ap, refl, arith, inl, inr, codes, nat_eq}
use Rattle.std.specs.Cmp.Lexicographic.{pointwise}
use Rattle.std.specs.List.{list_all, position_or_len}
use Rattle.std.proofs.Math.Seq.{take-append_seam, drop-append_seam}
use Rattle.std.proofs.lemmas.Bool.{and_parts, and_from, eqb-true, lt-ltb, le-ltb, false≢true}
use Rattle.std.proofs.lemmas.Bool.Decides.{nat_tests}
use Rattle.std.proofs.lemmas.List.{append_assoc, length-append, length_push, take-append-drop, drop_more}
use Rattle.std.proofs.lemmas.Option.{cond_some, none-some, same_Some}
use Rattle.std.proofs.lemmas.List.Quantifiers.{position-Some}
use Rattle.std.proofs.lemmas.Slice.Eq.{bytes_eq-Decides}
use Rattle.wm_base.specs.Name.{IsName, continues_name, name_of}
use Rattle.wm_base.specs.declared.qname.QName.{QName}
use Rattle.wm_base.proofs.Names.{name_is}
use Rattle.wm_clwords.specs.declared.reference.Reference.{Reference}
use Rattle.wm_clwords.specs.declared.tree.Item.{Item, Word as ItemWord, Quoted as ItemQuoted, List', Keyed'}
use Rattle.wm_clwords.specs.Grammar.{Token, Blank, Comment, Word, Quoted, Key, Open, Close}
use Rattle.wm_clwords.specs.Call.{IsPlain, IsReference, IsObject, IsOne, IsProgram, item_tokens, program_library}
use Rattle.wm_clwords.specs.CallReading.{is_slash, library_of, alone, joined, by_slash, text_reference, reference_of, reference_at, or_library, object_by, program_by}
use Rattle.wm_clwords.proofs.Tokens.{heads}

-- a reference, of a word or in apostrophes
abbrev IsRead : Bool → List ℕ → List ℕ → QName → Type 0
IsRead is_word library text q =
    IsPlain library text q ⊎ ((is_word ≡ true) × IsName q.name × (text ≡ codes "*LIBL/" ++ q.name) × (q.lib ≡ codes "QGPL"))

-- no slash stands in a name
abbrev is_other : ℕ → Bool
is_other byte = not (is_slash byte)

other_byte : (b : ℕ) → continues_name b ≡ true → is_other b ≡ true
other_byte b h = grind (arith, nat_tests)

all_other : (name : List ℕ) → list_all continues_name name ≡ true → list_all is_other name ≡ true
all_other [] h = refl
all_other (b ∷ name) h =
    let both = and_parts (continues_name b) (list_all continues_name name) h in
    and_from (is_other b) (list_all is_other name) (other_byte b both.0) (all_other name both.1)

no_slash : (name : List ℕ) → IsName name → list_all is_other name ≡ true
no_slash name h = all_other name (and_parts _ (list_all continues_name name) (and_parts _ _ h).0).1

-- the first slash
place_first : (front back : List ℕ) → list_all is_other front ≡ true → position_or_len is_slash (front ++ 47 ∷ back) ≡ length front
place_first [] back h = refl
place_first (b ∷ front) back h =
    let both = and_parts (is_other b) (list_all is_other front) h in
    ap (λ c. cond c (1 + position_or_len is_slash (front ++ 47 ∷ back)) 0) both.0 ∙ omega (arith, place_first front back both.1)

place_none : (front : List ℕ) → list_all is_other front ≡ true → position_or_len is_slash front ≡ length front
place_none [] h = refl
place_none (b ∷ front) h =
    let both = and_parts (is_other b) (list_all is_other front) h in
    ap (λ c. cond c (1 + position_or_len is_slash front) 0) both.0 ∙ omega (arith, place_none front both.1)

abbrev found : ℕ → List ℕ → Option ℕ
found n xs = cond (nat_lt n (length xs)) (Some n) None

position_first : (front back : List ℕ) → list_all is_other front ≡ true → position is_slash (front ++ 47 ∷ back) ≡ Some (length front)
position_first front back h =
    ap (λ n. found n (front ++ 47 ∷ back)) (place_first front back h)
    ∙ ap (λ c. cond c (Some (length front)) None) (lt-ltb (length front) (length (front ++ 47 ∷ back)) (omega (arith, length-append front (47 ∷ back))))

position_none : (front : List ℕ) → list_all is_other front ≡ true → position is_slash front ≡ None
position_none front h =
    ap (λ n. found n front) (place_none front h) ∙ ap (λ c. cond c (Some (length front)) None) (le-ltb (length front) (length front) (omega arith))

split_at : (text : List ℕ) (at : ℕ) → position is_slash text ≡ Some at → text ≡ take at text ++ 47 ∷ drop (at + 1) text
split_at text at e =
    let h = position-Some is_slash text at 0 e in
    sym (take-append-drop at text) ∙ ap (λ l. take at text ++ l) (drop_more text at 0 h.0) ∙ ap (λ b. take at text ++ b ∷ drop (at + 1) text) (eqb-true (get_or text at 0) 47 h.1)

-- names
name_read : (text name : List ℕ) → name_of text ≡ Some name → IsName name × (text ≡ name)
name_read text name e =
    let h = cond_some _ _ _ e in
    (subst IsName h.1 h.0, h.1)

-- libraries
no_libl : (w c : Bool) (l : List ℕ) → pointwise nat_eq l (codes "*LIBL") ≡ c → IsName l → (w && c) ≡ false
no_libl false c l e h = refl
no_libl true false l e h = refl
no_libl true true l e h = absurd (false≢true (subst IsName ((bytes_eq-Decides l (codes "*LIBL")).0 e) h))

library_is : (w : Bool) (l : List ℕ) → IsName l → library_of w l ≡ Some l
library_is w l h =
    ap (λ c. cond c (Some (codes "QGPL")) (name_of l)) (no_libl w (pointwise nat_eq l (codes "*LIBL")) l refl h) ∙ name_is l h

library_libl : library_of true (codes "*LIBL") ≡ Some (codes "QGPL")
library_libl = refl

some_same : (a b : List ℕ) → ◌≡◌ {A = Option (List ℕ)} (Some a) (Some b) → a ≡ b
some_same a b e = cc

library_by : (w c : Bool) (text l : List ℕ) → pointwise nat_eq text (codes "*LIBL") ≡ c → cond (w && c) (Some (codes "QGPL")) (name_of text) ≡ Some l
    → (IsName l × (text ≡ l)) ⊎ ((w ≡ true) × (text ≡ codes "*LIBL") × (l ≡ codes "QGPL"))
library_by true true text l e h = inr (refl, (bytes_eq-Decides text (codes "*LIBL")).0 e, sym (some_same (codes "QGPL") l h))
library_by true false text l e h = inl (name_read text l h)
library_by false c text l e h = inl (name_read text l h)

library_read : (w : Bool) (text l : List ℕ) → library_of w text ≡ Some l → (IsName l × (text ≡ l)) ⊎ ((w ≡ true) × (text ≡ codes "*LIBL") × (l ≡ codes "QGPL"))
library_read w text l h = library_by w (pointwise nat_eq text (codes "*LIBL")) text l refl h

-- what is read, with the library of a name alone
abbrev pub named : List ℕ → Reference → QName
named library r = record { lib = or_library r.library library; name = r.name }

ref_same : (a b : Reference) → ◌≡◌ {A = Option Reference} (Some a) (Some b) → a ≡ b
ref_same a b e = cc

none_some : (b : Reference) → ◌≡◌ {A = Option Reference} None (Some b) → ⊥
none_some b e = cc

read_alone : (w : Bool) (library text : List ℕ) (r : Reference) (o : Option (List ℕ)) → name_of text ≡ o → alone o ≡ Some r → IsRead w library text (named library r)
read_alone w library text r None e h = absurd (none_some r h)
read_alone w library text r (Some name) e h =
    let n = name_read text name e in
    subst (λ (x : Reference). IsRead w library text (named library x)) (ref_same (record { library = None; name = name }) r h) (inl (n.0, inl (n.1, refl)))

read_joined : (w : Bool) (library text front back : List ℕ) (r : Reference) (o p : Option (List ℕ)) → text ≡ front ++ 47 ∷ back → library_of w front ≡ o → name_of back ≡ p → joined o p ≡ Some r
    → IsRead w library text (named library r)
read_joined w library text front back r None p e f g h = absurd (none_some r h)
read_joined w library text front back r (Some l) None e f g h = absurd (none_some r h)
read_joined w library text front back r (Some l) (Some name) e f g h =
    let n = name_read back name g in
    let whole : text ≡ front ++ 47 ∷ name = e ∙ ap (λ b. front ++ 47 ∷ b) n.1 in
    subst (λ (x : Reference). IsRead w library text (named library x)) (ref_same (record { library = Some l; name = name }) r h)
    (elim (library_read w front l f) [
      | inl k ↦ inl (n.0, inr (k.0, whole ∙ ap (λ a. a ++ 47 ∷ name) k.1 ∙ sym (append_assoc l (47 ∷ []) name)))
      | inr k ↦ inr (k.0, n.0, whole ∙ ap (λ a. a ++ 47 ∷ name) k.1, k.2)
    ])

read_by : (w : Bool) (library text : List ℕ) (r : Reference) (o : Option ℕ) → position is_slash text ≡ o → by_slash o w text ≡ Some r → IsRead w library text (named library r)
read_by w library text r None e h = read_alone w library text r (name_of text) refl h
read_by w library text r (Some at) e h =
    read_joined w library text (take at text) (drop (at + 1) text) r (library_of w (take at text)) (name_of (drop (at + 1) text)) (split_at text at e) refl refl h

-- what is read is a reference
text_sound : (w : Bool) (library text : List ℕ) (r : Reference) → text_reference w text ≡ Some r → IsRead w library text (named library r)
text_sound w library text r h = read_by w library text r (position is_slash text) refl h

-- each reference is read
pub record Found (o : Option Reference) (library : List ℕ) (q : QName) : Type 0 where
  pub reference : Reference
  pub is : o ≡ Some reference
  pub lib : or_library reference.library library ≡ q.lib
  pub name : reference.name ≡ q.name

behind_slash : (w : Bool) (front back l : List ℕ) → list_all is_other front ≡ true → library_of w front ≡ Some l → IsName back
    → text_reference w (front ++ 47 ∷ back) ≡ Some (record { library = Some l; name = back })
behind_slash w front back l c f h =
    ap (λ o. by_slash o w (front ++ 47 ∷ back)) (position_first front back c)
    ∙ ap (λ t. joined (library_of w t) (name_of (drop (length front + 1) (front ++ 47 ∷ back)))) (take-append_seam front (47 ∷ back))
    ∙ ap (λ t. joined (library_of w front) (name_of t)) back_is
    ∙ ap (λ o. joined o (name_of back)) f ∙ ap (λ o. joined (Some l) o) (name_is back h)
  where
    back_is : drop (length front + 1) (front ++ 47 ∷ back) ≡ back
    back_is =
        ap (λ l. drop (length front + 1) l) (sym (append_assoc front (47 ∷ []) back))
        ∙ ap (λ n. drop n ((front ++ 47 ∷ []) ++ back)) (sym (length_push front 47)) ∙ drop-append_seam (front ++ 47 ∷ []) back

text_complete : (w : Bool) (library text : List ℕ) (q : QName) → IsRead w library text q → Found (text_reference w text) library q
text_complete w library text q (inl (h, inl (e, f))) =
    record {
      reference = record { library = None; name = q.name };
      is = ap (text_reference w) e ∙ ap (λ o. by_slash o w q.name) (position_none q.name (no_slash q.name h)) ∙ ap alone (name_is q.name h);
      lib = sym f;
      name = refl;
    }
text_complete w library text q (inl (h, inr (k, e))) =
    record {
      reference = record { library = Some q.lib; name = q.name };
      is = ap (text_reference w) (e ∙ append_assoc q.lib (47 ∷ []) q.name) ∙ behind_slash w q.lib q.name q.lib (no_slash q.lib k) (library_is w q.lib k) h;
      lib = refl;
      name = refl;
    }
text_complete w library text q (inr (t, h, e, f)) =
    record {
      reference = record { library = Some (codes "QGPL"); name = q.name };
      is = ap (text_reference w) e ∙ ap (λ c. text_reference c (codes "*LIBL/" ++ q.name)) t ∙ behind_slash true (codes "*LIBL") q.name (codes "QGPL") refl library_libl h;
      lib = sym f;
      name = refl;
    }

-- of a word, and in apostrophes
word_read : (library text : List ℕ) (q : QName) → IsRead true library text q → IsReference library (Word text) q
word_read library text q (inl h) = inl h
word_read library text q (inr h) = inr (h.1, h.2, h.3)

read_word : (library text : List ℕ) (q : QName) → IsReference library (Word text) q → IsRead true library text q
read_word library text q (inl h) = inl h
read_word library text q (inr h) = inr (refl, h.0, h.1, h.2)

quoted_read : (library text : List ℕ) (q : QName) → IsRead false library text q → IsReference library (Quoted text) q
quoted_read library text q (inl h) = h
quoted_read library text q (inr h) = absurd (false≢true h.0)

-- of a token
token_sound : (token : Token) (library : List ℕ) (r : Reference) → reference_at token ≡ Some r → IsReference library token (named library r)
token_sound (Word text) library r e = word_read library text (named library r) (text_sound true library text r e)
token_sound (Quoted text) library r e = quoted_read library text (named library r) (text_sound false library text r e)
token_sound (Key key) library r e = absurd (none_some r e)
token_sound (Blank byte) library r e = absurd (none_some r e)
token_sound (Comment text) library r e = absurd (none_some r e)
token_sound Open library r e = absurd (none_some r e)
token_sound Close library r e = absurd (none_some r e)

token_complete : (token : Token) (library : List ℕ) (q : QName) → IsReference library token q → Found (reference_at token) library q
token_complete (Word text) library q h = text_complete true library text q (read_word library text q h)
token_complete (Quoted text) library q h = text_complete false library text q (inl h)
token_complete (Key key) library q h = absurd h
token_complete (Blank byte) library q h = absurd h
token_complete (Comment text) library q h = absurd h
token_complete Open library q h = absurd h
token_complete Close library q h = absurd h

-- of an item
pub item_sound : (item : Item) (library : List ℕ) (r : Reference) → reference_of item ≡ Some r → IsOne (λ t. IsReference library t (named library r)) (item_tokens item)
item_sound (ItemWord span text) library r e = (Word text, refl, word_read library text (named library r) (text_sound true library text r e))
item_sound (ItemQuoted span text) library r e = (Quoted text, refl, quoted_read library text (named library r) (text_sound false library text r e))
item_sound (List' span shape row) library r e = absurd (none_some r e)
item_sound (Keyed' span key shape row) library r e = absurd (none_some r e)

pub item_complete : (item : Item) (library : List ℕ) (q : QName) → IsOne (λ t. IsReference library t q) (item_tokens item) → Found (reference_of item) library q
item_complete (ItemWord span text) library q h =
    let same = heads (Word text) h.0 [] [] h.1 in
    text_complete true library text q (read_word library text q (subst (λ (t : Token). IsReference library t q) (sym same.0) h.2))
item_complete (ItemQuoted span text) library q h =
    let same = heads (Quoted text) h.0 [] [] h.1 in
    text_complete false library text q (inl (subst (λ (t : Token). IsReference library t q) (sym same.0) h.2))
item_complete (List' span shape row) library q h =
    let same = heads Open h.0 _ [] h.1 in
    absurd (subst (λ (t : Token). IsReference library t q) (sym same.0) h.2)
item_complete (Keyed' span key shape row) library q h =
    let same = heads (Key key) h.0 _ [] h.1 in
    absurd (subst (λ (t : Token). IsReference library t q) (sym same.0) h.2)

-- objects
pub object_some : (item : Item) (o : Option QName) → o ≡ object_by (reference_of item) → IfSome o (λ q. IsOne (λ token. IsObject token q) (item_tokens item))
object_some item o e = subst (λ (o : Option QName). IfSome o (λ q. IsOne (λ token. IsObject token q) (item_tokens item))) (sym e) (by_reference (reference_of item) refl)
  where
    by_reference : (o : Option Reference) → reference_of item ≡ o → IfSome (object_by o) (λ q. IsOne (λ token. IsObject token q) (item_tokens item))
    by_reference None e = tt
    by_reference (Some r) e = item_sound item (codes "QGPL") r e

pub object_all : (item : Item) (o : Option QName) → o ≡ object_by (reference_of item) → (q : QName) → IsOne (λ token. IsObject token q) (item_tokens item) → o ≡ Some q
object_all item o e q h =
    let f = item_complete item (codes "QGPL") q h in
    e ∙ ap object_by f.is ∙ ap (λ l. Some (record { lib = l; name = f.reference.name })) f.lib ∙ ap (λ n. Some (record { lib = q.lib; name = n })) f.name

-- programs
pub program_some : (item : Item) (o : Option QName) → o ≡ program_by (reference_of item) → IfSome o (λ q. IsOne (λ token. IsProgram token q) (item_tokens item))
program_some item o e = subst (λ (o : Option QName). IfSome o (λ q. IsOne (λ token. IsProgram token q) (item_tokens item))) (sym e) (by_reference (reference_of item) refl)
  where
    by_reference : (o : Option Reference) → reference_of item ≡ o → IfSome (program_by o) (λ q. IsOne (λ token. IsProgram token q) (item_tokens item))
    by_reference None e = tt
    by_reference (Some r) e = item_sound item (program_library r.name) r e

pub program_all : (item : Item) (o : Option QName) → o ≡ program_by (reference_of item) → (q : QName) → IsOne (λ token. IsProgram token q) (item_tokens item) → o ≡ Some q
program_all item o e q h =
    let f = item_complete item (program_library q.name) q h in
    e ∙ ap program_by f.is ∙ ap (λ n. Some (record { lib = or_library f.reference.library (program_library n); name = n })) f.name ∙ ap (λ l. Some (record { lib = l; name = q.name })) f.lib

-- the program that a token names
token_program_by : (token : Token) (o : Option Reference) (q : QName) → reference_at token ≡ o → program_by o ≡ Some q → IsProgram token q
token_program_by token None q r e = absurd (none-some q e)
token_program_by token (Some reference) q r e =
    subst (λ (x : QName). IsProgram token x) (same_Some (named (program_library reference.name) reference) q e) (token_sound token (program_library reference.name) reference r)

pub token_program : (token : Token) (q : QName) → program_by (reference_at token) ≡ Some q → IsProgram token q
token_program token q e = token_program_by token (reference_at token) q refl e

pub program_token : (token : Token) (q : QName) → IsProgram token q → program_by (reference_at token) ≡ Some q
program_token token q h =
    let f = token_complete token (program_library q.name) q h in
    ap program_by f.is ∙ ap (λ n. Some (record { lib = or_library f.reference.library (program_library n); name = n })) f.name ∙ ap (λ l. Some (record { lib = l; name = q.name })) f.lib
