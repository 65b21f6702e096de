-- A number's digits are read as that number.
use Rattle.std.proofs.Common.{◌≡◌, ℕ, ◌+◌, ◌-◌, ◌*◌, ◌/◌, ◌%◌, ◌<◌, ◌≤◌, ◌^◌, cond, nat_lt, nat_le, [], ◌∷◌, fold, Some, None, ◌∙◌, ap, arith}
use Rattle.std.specs.Fmt.{decimal}
use Rattle.std.proofs.lemmas.Bool.{and_from, lt-ltb, le-leb}
use Rattle.std.proofs.lemmas.Bool.Decides.{nat_tests}
use Rattle.std.proofs.lemmas.Fmt.{decimal_by_steps}
use Rattle.std.proofs.lemmas.List.Sums.{fold-append}
use Rattle.wm_rows.specs.Reading.{push_digit, number_of, kept}
use Rattle.wm_rows.proofs.Seams.{Lacks, Lacks-append}
use Rattle.wm_base.specs.Number.{is_digit}
use Rattle.wm_base.proofs.Numbers.{digit_of}

push_step : (n d : ℕ) → d < 10 → n * 10 + d < 2 ^ 64 → push_digit (Some n) (48 + d) ≡ Some (n * 10 + d)
push_step n d h g =
    let e : 48 + d - 48 ≡ d = omega arith in
    let small : n * 10 + (48 + d - 48) < 2 ^ 64 = omega arith in
    ap (λ c. cond c (Some (n * 10 + (48 + d - 48))) None) (and_from (is_digit (48 + d)) (nat_lt (n * 10 + (48 + d - 48)) (2 ^ 64)) (digit_of d h) (lt-ltb (n * 10 + (48 + d - 48)) (2 ^ 64) small))
    ∙ ap (λ m. Some (n * 10 + m)) e

-- a number is read back
pub number_back : (n : ℕ) → n < 2 ^ 64 → number_of (decimal n) ≡ Some n
unfolding number_of
number_back n h =
    decimal_by_steps (λ m ds. m < 2 ^ 64 → fold push_digit (Some 0) ds ≡ Some m)
    (λ m small g. let e : 0 * 10 + m ≡ m = omega arith in push_step 0 m small (omega arith) ∙ ap Some e)
    (λ m ds big p g.
    let e : m / 10 * 10 + m % 10 ≡ m = omega arith in
    fold-append push_digit (Some 0) ds ((48 + m % 10) ∷ []) ∙ ap (λ o. push_digit o (48 + m % 10)) (p (omega arith)) ∙ push_step (m / 10) (m % 10) (omega arith) (omega arith) ∙ ap Some e)
    n h h

-- it is kept where it is in its range
pub kept_back : (low high n : ℕ) → low ≤ n → n ≤ high → kept low high (Some n) ≡ Some n
kept_back low high n h g = ap (λ c. cond c (Some n) None) (and_from (nat_le low n) (nat_le n high) (le-leb low n h) (le-leb n high g))

-- and is written without blanks and parentheses
lacks_digit : (byte d : ℕ) → byte < 48 → d < 10 → Lacks byte ((48 + d) ∷ [])
lacks_digit byte d h g = grind (arith, nat_tests)

pub lacks_decimal : (byte n : ℕ) → byte < 48 → n < 2 ^ 64 → Lacks byte (decimal n)
lacks_decimal byte n h g =
    decimal_by_steps (λ m ds. Lacks byte ds) (λ m small. lacks_digit byte m h small)
    (λ m ds big p. Lacks-append byte ds ((48 + m % 10) ∷ []) p (lacks_digit byte (m % 10) h (omega arith))) n g
