-- What is known of tokens, one byte more.
use Rattle.std.proofs.Common.{◌≡◌, ℕ, ◌++◌, ◌&&◌, not, Bool, true, false, List, [], ◌∷◌, eqb, sym, ◌∙◌, ap, refl}
use Rattle.std.specs.List.{list_all}
use Rattle.std.proofs.lemmas.Bool.{and_parts, and_from, eqb-true, false≢true, not-true}
use Rattle.std.proofs.lemmas.List.{append_assoc, append-nil, map-append}
use Rattle.std.proofs.lemmas.List.Folds.{list_all-append}
use Rattle.wm_base.proofs.Tests.{not_both}
use Rattle.wm_clwords.specs.Lines.{is_empty}
use Rattle.wm_clwords.specs.Quote.{doubled, doubled_byte}
use Rattle.wm_clwords.specs.Grammar.{is_word_byte, begins_comment, is_word, is_unended, upper_byte, upper}

-- a byte more at the end
pub all_push : (p : ℕ → Bool) (l : List ℕ) (x : ℕ) → list_all p l ≡ true → p x ≡ true → list_all p (l ++ x ∷ []) ≡ true
all_push p l x h e = list_all-append p l (x ∷ []) ∙ and_from (list_all p l) (p x && true) h (and_from (p x) true e refl)

pub upper-push : (l : List ℕ) (x : ℕ) → upper (l ++ x ∷ []) ≡ upper l ++ upper_byte x ∷ []
upper-push l x = map-append upper_byte l (x ∷ [])

pub doubled-push : (l : List ℕ) (x : ℕ) → doubled (l ++ x ∷ []) ≡ doubled l ++ doubled_byte x
doubled-push [] x = sym_nil (doubled_byte x)
  where
    sym_nil : (d : List ℕ) → d ++ [] ≡ [] ++ d
    sym_nil d = append-nil d
doubled-push (b ∷ l) x = ap (λ t. doubled_byte b ++ t) (doubled-push l x) ∙ sym (append_assoc (doubled_byte b) (doubled l) (doubled_byte x))

-- a word may go on, but `/` not with `*`
no_slash : (l : List ℕ) (x : ℕ) → begins_comment l ≡ false → (l ≡ 47 ∷ [] → x ≡ 42 → ⊥) → begins_comment (l ++ x ∷ []) ≡ false
no_slash [] x h wrong = refl
no_slash (a ∷ []) x h wrong = by_both (eqb a 47) refl (eqb x 42) refl
  where
    by_both : (c : Bool) → eqb a 47 ≡ c → (d : Bool) → eqb x 42 ≡ d → (c && d) ≡ false
    by_both true e true f = absurd (wrong (ap (λ n. n ∷ []) (eqb-true a 47 e)) (eqb-true x 42 f))
    by_both true e false f = refl
    by_both false e d f = refl
no_slash (a ∷ b ∷ l) x h wrong = h

some_push : (l : List ℕ) (x : ℕ) → not (is_empty (l ++ x ∷ [])) ≡ true
some_push [] x = refl
some_push (b ∷ l) x = refl

not_false : (b : Bool) → b ≡ false → not b ≡ true
not_false false e = refl
not_false true e = absurd (false≢true (sym e))

pub word_parts : (l : List ℕ) → is_word l ≡ true → (not (is_empty l) ≡ true) × (list_all is_word_byte l ≡ true) × (begins_comment l ≡ false)
word_parts l h =
    let last = and_parts (not (is_empty l) && list_all is_word_byte l) (not (begins_comment l)) h in
    let front = and_parts (not (is_empty l)) (list_all is_word_byte l) last.0 in
    (front.0, front.1, not-true (begins_comment l) last.1)

pub word_from : (l : List ℕ) → not (is_empty l) ≡ true → list_all is_word_byte l ≡ true → begins_comment l ≡ false → is_word l ≡ true
word_from l a b c = and_from (not (is_empty l) && list_all is_word_byte l) (not (begins_comment l)) (and_from (not (is_empty l)) (list_all is_word_byte l) a b) (not_false (begins_comment l) c)

pub word_push : (l : List ℕ) (x : ℕ) → is_word l ≡ true → is_word_byte x ≡ true → (l ≡ 47 ∷ [] → x ≡ 42 → ⊥) → is_word (l ++ x ∷ []) ≡ true
word_push l x h e wrong =
    let w = word_parts l h in
    word_from (l ++ x ∷ []) (some_push l x) (all_push is_word_byte l x w.1 e) (no_slash l x w.2 wrong)

pub word_one : (x : ℕ) → is_word_byte x ≡ true → is_word (x ∷ []) ≡ true
word_one x e = word_from (x ∷ []) refl (and_from (is_word_byte x) true e refl) refl

-- a longer word isn't `/` alone
pub push_long : (l : List ℕ) (x : ℕ) → is_word l ≡ true → l ++ x ∷ [] ≡ 47 ∷ [] → ⊥
push_long [] x h e = absurd (false≢true h)
push_long (a ∷ []) x h e = cc
push_long (a ∷ b ∷ l) x h e = cc

-- a comment that may go on with any byte
abbrev pub IsOpenEnd : List ℕ → Type 0
IsOpenEnd l = (x : ℕ) → is_unended (l ++ x ∷ []) ≡ true

pub open_nil : IsOpenEnd []
open_nil x = refl

two_push : (l : List ℕ) (a x : ℕ) → is_unended (l ++ a ∷ []) ≡ true → (not (eqb a 42 && eqb x 47)) ≡ true → is_unended (l ++ a ∷ x ∷ []) ≡ true
two_push [] a x h e = and_from (not (eqb a 42 && eqb x 47)) true e refl
two_push (b ∷ []) a x h e =
    let w = and_parts (not (eqb b 42 && eqb a 47)) true h in
    and_from (not (eqb b 42 && eqb a 47)) (not (eqb a 42 && eqb x 47) && true) w.0 (and_from (not (eqb a 42 && eqb x 47)) true e refl)
two_push (b ∷ c ∷ l) a x h e =
    let w = and_parts (not (eqb b 42 && eqb c 47)) (is_unended (c ∷ (l ++ a ∷ []))) h in
    and_from (not (eqb b 42 && eqb c 47)) (is_unended (c ∷ (l ++ a ∷ x ∷ []))) w.0 (two_push (c ∷ l) a x w.1 e)

pair_no : (c d : Bool) → c ≡ false → not (c && d) ≡ true
pair_no true d e = absurd (false≢true (sym e))
pair_no false d e = refl

-- a byte other than `*` leaves the end open
pub open_push : (l : List ℕ) (a : ℕ) → is_unended (l ++ a ∷ []) ≡ true → eqb a 42 ≡ false → IsOpenEnd (l ++ a ∷ [])
open_push l a h e x = ap is_unended (append_assoc l (a ∷ []) (x ∷ [])) ∙ two_push l a x h (pair_no (eqb a 42) (eqb x 47) e)

-- behind a `*` any byte but `/` may come
pub star_push : (l : List ℕ) (a x : ℕ) → is_unended (l ++ a ∷ []) ≡ true → eqb x 47 ≡ false → is_unended ((l ++ a ∷ []) ++ x ∷ []) ≡ true
star_push l a x h e = ap is_unended (append_assoc l (a ∷ []) (x ∷ [])) ∙ two_push l a x h (not_both (eqb a 42) (eqb x 47) e)

-- what was unended before
pub unended_front : (l : List ℕ) (x : ℕ) → is_unended (l ++ x ∷ []) ≡ true → is_unended l ≡ true
unended_front [] x h = refl
unended_front (b ∷ []) x h = refl
unended_front (b ∷ c ∷ l) x h =
    let w = and_parts (not (eqb b 42 && eqb c 47)) (is_unended (c ∷ (l ++ x ∷ []))) h in
    and_from (not (eqb b 42 && eqb c 47)) (is_unended (c ∷ l)) w.0 (unended_front (c ∷ l) x w.1)
