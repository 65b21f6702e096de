-- Names, numbers and references as words: each is a word, stays as it is in capitals, and is no special word.
use Rattle.std.proofs.Common.{◌≡◌, ℕ, ◌+◌, ◌<◌, ◌++◌, ◌&&◌, ◌||◌, not, eqb, Bool, true, false, cond, nat_lt, nat_eq, List, [], ◌∷◌, length, take, drop, take_while, Option, Some, None, sym, ◌∙◌, ap, refl, arith}
use Rattle.std.specs.Cmp.Lexicographic.{pointwise}
use Rattle.std.specs.List.{list_all}
use Rattle.std.proofs.Math.Seq.{take-append_seam, drop-append-add}
use Rattle.std.proofs.lemmas.Bool.{and_parts, and_from, lt-ltb, le-ltb, false≢true}
use Rattle.std.proofs.lemmas.Bool.Decides.{nat_tests}
use Rattle.std.proofs.lemmas.List.{length-append, append-nil}
use Rattle.std.proofs.lemmas.List.Folds.{list_all-append}
use Rattle.std.proofs.lemmas.List.Sums.{take_while-cons}
use Rattle.wm_base.specs.Name.{continues_name, IsName}
use Rattle.wm_base.proofs.Names.{continues-name}
use Rattle.wm_base.specs.Number.{is_digit}
use Rattle.wm_clwords.specs.Grammar.{is_word_byte, is_word, upper_byte, upper}
use Rattle.wm_clwords.proofs.GrammarLemmas.{word_from}
use Rattle.wm_command.specs.Words.{is_no_slash, before_slash, behind_slash}
use Rattle.wm_clwords.proofs.NameWords.{no_comment}

-- a byte of a name or a slash
abbrev pub is_ref : ℕ → Bool
is_ref b = continues_name b || eqb b 47

abbrev pub begins_plain : List ℕ → Bool
begins_plain [] = false
begins_plain (b ∷ bytes) = continues_name b

pub record Plain (bytes : List ℕ) : Type 0 where
  pub begins : begins_plain bytes ≡ true
  pub all : list_all is_ref bytes ≡ true

ref_word : (b : ℕ) → is_ref b ≡ true → is_word_byte b ≡ true
ref_word b h = grind (arith, nat_tests)

ref_upper : (b : ℕ) → is_ref b ≡ true → upper_byte b ≡ b
ref_upper b h = grind (arith, nat_tests)

name_no_slash : (b : ℕ) → continues_name b ≡ true → eqb b 47 ≡ false
name_no_slash b h = grind (arith, nat_tests)

name_no_star : (b : ℕ) → continues_name b ≡ true → eqb b 42 ≡ false
name_no_star b h = grind (arith, nat_tests)

name_other : (b : ℕ) → continues_name b ≡ true → is_no_slash b ≡ true
name_other b h = ap not (name_no_slash b h)

name_ref : (b : ℕ) → continues_name b ≡ true → is_ref b ≡ true
name_ref b h = ap (λ c. c || eqb b 47) h

digit_name : (b : ℕ) → is_digit b ≡ true → continues_name b ≡ true
digit_name b h = grind (arith, nat_tests)

-- what holds of each byte of one kind holds of each of another
all_also : (p q : ℕ → Bool) → ((b : ℕ) → p b ≡ true → q b ≡ true) → (bytes : List ℕ) → list_all p bytes ≡ true → list_all q bytes ≡ true
all_also p q f [] h = refl
all_also p q f (b ∷ bytes) h =
    let both = and_parts (p b) (list_all p bytes) h in
    and_from (q b) (list_all q bytes) (f b both.0) (all_also p q f bytes both.1)

upper_all : (bytes : List ℕ) → list_all is_ref bytes ≡ true → upper bytes ≡ bytes
upper_all [] h = refl
upper_all (b ∷ bytes) h =
    let both = and_parts (is_ref b) (list_all is_ref bytes) h in
    λ i. ref_upper b both.0 i ∷ upper_all bytes both.1 i

pub plain_upper : (bytes : List ℕ) → Plain bytes → upper bytes ≡ bytes
plain_upper bytes p = upper_all bytes p.all

pub plain_word : (bytes : List ℕ) → Plain bytes → is_word bytes ≡ true
plain_word [] p = absurd (false≢true p.begins)
plain_word (b ∷ bytes) p = word_from (b ∷ bytes) refl (all_also is_ref is_word_byte ref_word (b ∷ bytes) p.all) (no_comment b bytes (name_no_slash b p.begins))

-- no word that begins with an asterisk
pub plain_no_star : (bytes word : List ℕ) → Plain bytes → pointwise nat_eq bytes (42 ∷ word) ≡ false
plain_no_star [] word p = absurd (false≢true p.begins)
plain_no_star (b ∷ bytes) word p = ap (λ c. c && pointwise nat_eq bytes word) (name_no_star b p.begins)

begins_with_all : (bytes : List ℕ) → 0 < length bytes → list_all continues_name bytes ≡ true → begins_plain bytes ≡ true
begins_with_all [] some h = absurd (omega arith)
begins_with_all (b ∷ bytes) some h = (and_parts (continues_name b) (list_all continues_name bytes) h).0

plain_all : (bytes : List ℕ) → 0 < length bytes → list_all continues_name bytes ≡ true → Plain bytes
plain_all bytes some h = record { begins = begins_with_all bytes some h; all = all_also continues_name is_ref name_ref bytes h }

name_some : (name : List ℕ) → IsName name → 0 < length name
name_some [] h = absurd (false≢true h)
name_some (b ∷ name) h = omega arith

pub plain_name : (name : List ℕ) → IsName name → Plain name
plain_name name h = plain_all name (name_some name h) (continues-name name h)

pub plain_digits : (bytes : List ℕ) → 0 < length bytes → list_all is_digit bytes ≡ true → Plain bytes
plain_digits bytes some h = plain_all bytes some (all_also is_digit continues_name digit_name bytes h)

begins_more : (bytes more : List ℕ) → begins_plain bytes ≡ true → begins_plain (bytes ++ more) ≡ true
begins_more [] more h = absurd (false≢true h)
begins_more (b ∷ bytes) more h = h

pub plain_join : (a b : List ℕ) → Plain a → Plain b → Plain (a ++ 47 ∷ b)
plain_join a b p q =
    record {
      begins = begins_more a (47 ∷ b) p.begins;
      all = list_all-append is_ref a (47 ∷ b) ∙ and_from (list_all is_ref a) (list_all is_ref b) p.all q.all;
    }

-- where there is no slash
pub name_unslashed : (name : List ℕ) → IsName name → list_all is_no_slash name ≡ true
name_unslashed name h = all_also continues_name is_no_slash name_other name (continues-name name h)

pub digits_unslashed : (bytes : List ℕ) → list_all is_digit bytes ≡ true → list_all is_no_slash bytes ≡ true
digits_unslashed bytes h = all_also continues_name is_no_slash name_other bytes (all_also is_digit continues_name digit_name bytes h)

-- the first slash
taken_first : (a b : List ℕ) → list_all is_no_slash a ≡ true → take_while is_no_slash (a ++ 47 ∷ b) ≡ a
taken_first [] b h = refl
taken_first (x ∷ a) b h =
    let both = and_parts (is_no_slash x) (list_all is_no_slash a) h in
    take_while-cons is_no_slash x (a ++ 47 ∷ b) ∙ ap (λ c. cond c (x ∷ take_while is_no_slash (a ++ 47 ∷ b)) []) both.0 ∙ ap (λ l. x ∷ l) (taken_first a b both.1)

taken_all : (a : List ℕ) → list_all is_no_slash a ≡ true → take_while is_no_slash a ≡ a
taken_all [] h = refl
taken_all (x ∷ a) h =
    let both = and_parts (is_no_slash x) (list_all is_no_slash a) h in
    take_while-cons is_no_slash x a ∙ ap (λ c. cond c (x ∷ take_while is_no_slash a) []) both.0 ∙ ap (λ l. x ∷ l) (taken_all a both.1)

pub before_first : (a b : List ℕ) → list_all is_no_slash a ≡ true → before_slash (a ++ 47 ∷ b) ≡ a
before_first a b h = ap (λ l. take (length l) (a ++ 47 ∷ b)) (taken_first a b h) ∙ take-append_seam a (47 ∷ b)

abbrev behind_at : ℕ → List ℕ → Option (List ℕ)
behind_at n text = cond (nat_lt n (length text)) (Some (drop (n + 1) text)) None

pub behind_first : (a b : List ℕ) → list_all is_no_slash a ≡ true → behind_slash (a ++ 47 ∷ b) ≡ Some b
behind_first a b h =
    ap (λ l. behind_at (length l) (a ++ 47 ∷ b)) (taken_first a b h)
    ∙ ap (λ c. cond c (Some (drop (length a + 1) (a ++ 47 ∷ b))) None) (lt-ltb (length a) (length (a ++ 47 ∷ b)) (omega (arith, length-append a (47 ∷ b))))
    ∙ ap Some (drop-append-add a (47 ∷ b) 1)

pub before_none : (a : List ℕ) → list_all is_no_slash a ≡ true → before_slash a ≡ a
before_none a h = ap (λ l. take (length l) a) (taken_all a h) ∙ ap (take (length a)) (sym (append-nil a)) ∙ take-append_seam a []

pub behind_none : (a : List ℕ) → list_all is_no_slash a ≡ true → behind_slash a ≡ None
behind_none a h =
    ap (λ l. behind_at (length l) a) (taken_all a h) ∙ ap (λ c. cond c (Some (drop (length a + 1) a)) None) (le-ltb (length a) (length a) (omega arith))

-- equal parts give equal wholes
pub ap_two : {A B C : Type 0} (f : A → B → C) {a c : A} {b d : B} → a ≡ c → b ≡ d → f a b ≡ f c d
ap_two f p q = λ i. f (p i) (q i)

pub ap_three : {A B C D : Type 0} (f : A → B → C → D) {a x : A} {b y : B} {c z : C} → a ≡ x → b ≡ y → c ≡ z → f a b c ≡ f x y z
ap_three f p q r = λ i. f (p i) (q i) (r i)
