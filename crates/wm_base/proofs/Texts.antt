-- Numbers, and what is joined, are texts.
use Rattle.std.proofs.Common.{ℕ, ◌+◌, ◌-◌, ◌<◌, ◌^◌, ◌%◌, ◌++◌, List, [], ◌∷◌, length, replicate, zero, suc, refl, append_assoc, arith}
use Rattle.std.specs.Fmt.{decimal}
use Rattle.std.specs.List.{list_all}
use Rattle.std.proofs.lemmas.Fmt.{decimal_by_steps}
use Rattle.std.proofs.lemmas.Bool.{and_parts, and_from}
use Rattle.std.proofs.lemmas.Bool.Decides.{nat_tests}
use Rattle.wm_base.specs.Text.{is_printable, IsText}
use Rattle.wm_base.specs.Number.{zero_padded}
use Rattle.wm_base.proofs.Numbers.{padded_integral-zeros}

pub IsText-append : (xs ys : List ℕ) → IsText xs → IsText ys → IsText (xs ++ ys)
IsText-append [] ys h g = g
IsText-append (x ∷ xs) ys h g =
    let both = and_parts (is_printable x) (list_all is_printable xs) h in
    and_from (is_printable x) (list_all is_printable (xs ++ ys)) both.0 (IsText-append xs ys both.1 g)

IsText-digit : (n : ℕ) → n < 10 → IsText ((48 + n) ∷ [])
IsText-digit n h = grind (arith, nat_tests)

pub IsText-decimal : (n : ℕ) → n < 2 ^ 64 → IsText (decimal n)
IsText-decimal n h =
    decimal_by_steps (λ m ds. IsText ds) (λ m small. IsText-digit m small)
    (λ m ds big text. IsText-append ds _ text (IsText-digit (m % 10) (omega arith))) n h

IsText-zeros : (n : ℕ) → IsText (replicate n 48)
IsText-zeros zero = refl
IsText-zeros (suc n) = IsText-zeros n

pub IsText-zero_padded : (width n : ℕ) → n < 2 ^ 64 → IsText (zero_padded width n)
unfolding zero_padded
IsText-zero_padded width n h = IsText-append (replicate (width - length (decimal n)) 48) (decimal n) (IsText-zeros (width - length (decimal n))) (IsText-decimal n h)

-- a number with zeros before it is a text
pub ruleset padded = (padded_integral-zeros, IsText-zero_padded, append_assoc)
