-- An option with its value, as `clap` looks at its word.
use Rattle.std.proofs.Common.{◌≡◌, ◌∙◌, ℕ, Bool, true, false, cond, ◌&&◌, ◌||◌, ◌==◌, List, [], ◌∷◌, ◌++◌, Some, None, refl, ap, sym, arith}
use Rattle.std.specs.Prelude.{option_and_then}
use Rattle.std.specs.List.{after_first, before_first, list_any}
use Rattle.std.specs.Str.{bytes_eq}
use Rattle.std.proofs.lemmas.Bool.{and_parts, and_from, false≢true}
use Rattle.std.proofs.lemmas.Bool.Decides.{nat_tests}
use Rattle.clap.specs.Lexer.{long_of, long_of_rest, strip_byte}
use Rattle.wm_plan.specs.Options.{has_value, is_option, is_sign, is_whole, name_in, value_in, with_value}

-- it is no word that ends the options, and has its name and its value
pub record IsLong (word : List ℕ) : Type 0 where
  pub no_end : bytes_eq word (45 ∷ 45 ∷ []) ≡ false
  pub long : long_of word ≡ Some (name_in word, Some (value_in word))

longer : (p q : Bool) → (p && (q && false)) ≡ false
longer true true = refl
longer true false = refl
longer false q = refl

-- a hyphen is no sign
no_sign : (byte : ℕ) → (byte == 45) ≡ true → is_sign byte ≡ false
no_sign byte h = grind (arith, nat_tests, h)

-- so the sign stands behind the hyphens
sign_behind : (a b : ℕ) (bytes : List ℕ) → (a == 45) ≡ true → (b == 45) ≡ true → has_value (a ∷ b ∷ bytes) ≡ true → list_any is_sign bytes ≡ true
sign_behind a b bytes first second h =
    sym (ap (λ p. p || (is_sign b || list_any is_sign bytes)) (no_sign a first) ∙ ap (λ p. p || list_any is_sign bytes) (no_sign b second)) ∙ h

pub whole_is_long : (word : List ℕ) → is_whole word ≡ true → IsLong word
whole_is_long [] h = absurd (false≢true h)
whole_is_long (a ∷ []) h = absurd (false≢true h)
whole_is_long (a ∷ b ∷ []) h =
    let parts = and_parts (a == 45 && b == 45) (has_value (a ∷ b ∷ [])) h in
    let hyphens = and_parts (a == 45) (b == 45) parts.0 in
    absurd (false≢true (sign_behind a b [] hyphens.0 hyphens.1 parts.1))
whole_is_long (a ∷ b ∷ x ∷ xs) h =
    let parts = and_parts (a == 45 && b == 45) (has_value (a ∷ b ∷ x ∷ xs)) h in
    let hyphens = and_parts (a == 45) (b == 45) parts.0 in
    let sign = sign_behind a b (x ∷ xs) hyphens.0 hyphens.1 parts.1 in
    record {
      no_end = longer (a == 45) (b == 45);
      long = ap (λ p. option_and_then long_of_rest (option_and_then (strip_byte 45) (cond p (Some (b ∷ x ∷ xs)) None))) hyphens.0
          ∙ ap (λ q. option_and_then long_of_rest (cond q (Some (x ∷ xs)) None)) hyphens.1
          ∙ ap (λ r. Some (before_first is_sign (x ∷ xs), cond r (Some (after_first is_sign (x ∷ xs))) None)) sign;
    }

or_true : (p : Bool) (q : Bool) → q ≡ true → (p || q) ≡ true
or_true true q h = refl
or_true false q h = h

signed : (bytes value : List ℕ) → list_any is_sign (bytes ++ 61 ∷ value) ≡ true
signed [] value = refl
signed (byte ∷ bytes) value = or_true (is_sign byte) _ (signed bytes value)

-- an option with a value behind it is one with its value
pub whole_with : (option value : List ℕ) → is_option option ≡ true → is_whole (with_value option value) ≡ true
whole_with [] value h = absurd (false≢true h)
whole_with (a ∷ []) value h = absurd (false≢true h)
whole_with (a ∷ b ∷ bytes) value h = and_from (a == 45 && b == 45) (list_any is_sign (a ∷ b ∷ bytes ++ 61 ∷ value)) h (signed (a ∷ b ∷ bytes) value)
