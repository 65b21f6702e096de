-- Digits are read as the number that they write.
use Rattle.std.proofs.Common.{◌≡◌, ℕ, ◌+◌, ◌-◌, ◌*◌, ◌/◌, ◌%◌, ◌<◌, ◌≤◌, ◌^◌, ◌++◌, ◌&&◌, true, cond, nat_lt, nat_le, List, [], ◌∷◌, length, replicate, fold, zero, suc, Some, None, sym, ◌∙◌, ap, refl, arith}
use Rattle.std.specs.Fmt.{decimal}
use Rattle.std.specs.List.{list_all}
use Rattle.std.proofs.lemmas.Bool.{and_parts, and_from, lt-ltb}
use Rattle.std.proofs.lemmas.Bool.Decides.{nat_tests}
use Rattle.std.proofs.lemmas.Fmt.{decimal_by_steps, decimal_nonempty, length-decimal-le}
use Rattle.std.proofs.lemmas.List.{length-append, length-replicate}
use Rattle.std.proofs.lemmas.List.Sums.{fold-append}
use Rattle.std.proofs.lemmas.List.Folds.{list_all-append}
use Rattle.wm_base.specs.Number.{is_digit, zero_padded}
use Rattle.wm_base.proofs.Numbers.{digit_of}
use Rattle.wm_clwords.proofs.GrammarLemmas.{all_push}
use Rattle.wm_when.specs.Schedule.{within}
use Rattle.wm_when.specs.declared.schedule.TimeSpec.TheVariants as time
use Rattle.wm_command.specs.Texts.{second_text}
use Rattle.wm_command.specs.Words.{push_digit, digits, kept_within, number_of, second_of}

-- ranges
pub within_from : (low high n : ℕ) → low ≤ n → n ≤ high → within low high n ≡ true
within_from low high n h g = grind (arith, nat_tests)

pub within_high : (low high n : ℕ) → within low high n ≡ true → n ≤ high
within_high low high n h = let both = and_parts (nat_le low n) (nat_le n high) h in let second = both.1 in grind (arith, nat_tests)

pub push_step : (n d : ℕ) → d < 10 → n < 100000000 → push_digit (Some n) (48 + d) ≡ Some (n * 10 + d)
push_step n d h g =
    let e : 48 + d - 48 ≡ d = omega arith in
    ap (λ c. cond c (Some (n * 10 + (48 + d - 48))) None) (and_from (is_digit (48 + d)) (nat_lt n 100000000) (digit_of d h) (lt-ltb n 100000000 g)) ∙ ap (λ m. Some (n * 10 + m)) e

next_digit : (n d : ℕ) (rest : List ℕ) → d < 10 → n < 100000000 → fold push_digit (Some n) ((48 + d) ∷ rest) ≡ fold push_digit (Some (n * 10 + d)) rest
next_digit n d rest h g = ap (λ o. fold push_digit o rest) (push_step n d h g)

-- a number's decimal digits
read_decimal : (n : ℕ) → n < 1000000000 → fold push_digit (Some 0) (decimal n) ≡ Some n
read_decimal n h =
    decimal_by_steps (λ m ds. m < 1000000000 → fold push_digit (Some 0) ds ≡ Some m)
    (λ m small g. let e : 0 * 10 + m ≡ m = omega arith in push_step 0 m small (omega arith) ∙ ap Some e)
    (λ m ds big p g.
    let e : m / 10 * 10 + m % 10 ≡ m = omega arith in
    fold-append push_digit (Some 0) ds ((48 + m % 10) ∷ []) ∙ ap (λ o. push_digit o (48 + m % 10)) (p (omega arith)) ∙ push_step (m / 10) (m % 10) (omega arith) (omega arith) ∙ ap Some e)
    n (omega arith) h

pub decimal_digits : (n : ℕ) → n < 1000000000 → list_all is_digit (decimal n) ≡ true
decimal_digits n h =
    decimal_by_steps (λ m ds. list_all is_digit ds ≡ true)
    (λ m small. and_from (is_digit (48 + m)) true (digit_of m small) refl)
    (λ m ds big p. all_push is_digit ds (48 + m % 10) p (digit_of (m % 10) (omega arith)))
    n (omega arith)

pub decimal_some : (n : ℕ) → n < 1000000000 → 0 < length (decimal n)
decimal_some n h = decimal_nonempty n (omega arith)

-- the same with zeros before them
zeros_digits : (k : ℕ) → list_all is_digit (replicate k 48) ≡ true
zeros_digits zero = refl
zeros_digits (suc k) = zeros_digits k

read_zeros : (k : ℕ) → fold push_digit (Some 0) (replicate k 48) ≡ Some 0
read_zeros zero = refl
read_zeros (suc k) = read_zeros k

read_padded : (w n : ℕ) → n < 1000000000 → fold push_digit (Some 0) (zero_padded w n) ≡ Some n
unfolding zero_padded
read_padded w n h =
    fold-append push_digit (Some 0) (replicate (w - length (decimal n)) 48) (decimal n)
    ∙ ap (λ o. fold push_digit o (decimal n)) (read_zeros (w - length (decimal n))) ∙ read_decimal n h

pub padded_digits : (w n : ℕ) → n < 1000000000 → list_all is_digit (zero_padded w n) ≡ true
unfolding zero_padded
padded_digits w n h =
    list_all-append is_digit (replicate (w - length (decimal n)) 48) (decimal n)
    ∙ and_from (list_all is_digit (replicate (w - length (decimal n)) 48)) (list_all is_digit (decimal n)) (zeros_digits (w - length (decimal n))) (decimal_digits n h)

pub padded_some : (w n : ℕ) → n < 1000000000 → 0 < length (zero_padded w n)
unfolding zero_padded
padded_some w n h =
    omega (arith, length-append (replicate (w - length (decimal n)) 48) (decimal n), decimal_some n h)

pub padded_length : (w n : ℕ) → length (decimal n) ≤ w → length (zero_padded w n) ≡ w
unfolding zero_padded
padded_length w n h =
    length-append (replicate (w - length (decimal n)) 48) (decimal n)
    ∙ omega (arith, length-replicate {A = ℕ} (w - length (decimal n)) 48)

-- numbers that are read
number_read : (fewest most low high : ℕ) (text : List ℕ) (n : ℕ) → fewest ≤ length text → length text ≤ most → fold push_digit (Some 0) text ≡ Some n → within low high n ≡ true
    → number_of fewest most low high text ≡ Some n
unfolding number_of digits
number_read fewest most low high text n f m e h =
    ap (λ c. cond c (kept_within low high (fold push_digit (Some 0) text)) None) (within_from fewest most (length text) f m)
    ∙ ap (kept_within low high) e ∙ ap (λ c. cond c (Some n) None) h

pub number_decimal : (low high n : ℕ) → high < 1000000000 → within low high n ≡ true → number_of 1 9 low high (decimal n) ≡ Some n
number_decimal low high n small h =
    let top = within_high low high n h in
    number_read 1 9 low high (decimal n) n (omega (arith, decimal_some n (omega arith))) (length-decimal-le 9 n (omega arith) (omega arith) (omega arith)) (read_decimal n (omega arith)) h

pub number_six : (n : ℕ) → within 1 999999 n ≡ true → number_of 1 6 1 999999 (zero_padded 6 n) ≡ Some n
number_six n h =
    let top = within_high 1 999999 n h in
    let long = padded_length 6 n (length-decimal-le 6 n (omega arith) (omega arith) (omega arith)) in
    number_read 1 6 1 999999 (zero_padded 6 n) n (omega arith) (omega arith) (read_padded 6 n (omega arith)) h

pub number_eight : (n : ℕ) → n ≤ 99999999 → number_of 8 8 0 99999999 (zero_padded 8 n) ≡ Some n
number_eight n h =
    let long = padded_length 8 n (length-decimal-le 8 n (omega arith) (omega arith) (omega arith)) in
    number_read 8 8 0 99999999 (zero_padded 8 n) n (omega arith) (omega arith) (read_padded 8 n (omega arith)) (within_from 0 99999999 n (omega arith) h)

-- times
two_both : (n : ℕ) → n < 2 ^ 64 → n < 100 → (replicate (2 - length (decimal n)) 48 ++ decimal n ≡ (48 + n / 10) ∷ (48 + n % 10) ∷ []) × (n < 10 → decimal n ≡ (48 + n) ∷ [])
two_both n h =
    decimal_by_steps (λ m ds. m < 100 → (replicate (2 - length ds) 48 ++ ds ≡ (48 + m / 10) ∷ (48 + m % 10) ∷ []) × (m < 10 → ds ≡ (48 + m) ∷ []))
    (λ m small g.
    let tens : 48 ≡ 48 + m / 10 = omega arith in
    let ones : 48 + m ≡ 48 + m % 10 = omega arith in
    (λ i. tens i ∷ ones i ∷ [], λ s. refl))
    (λ m ds big p g.
    let q : ds ≡ (48 + m / 10) ∷ [] = (p (omega arith)).1 (omega arith) in
    (ap (λ d. replicate (2 - length (d ++ (48 + m % 10) ∷ [])) 48 ++ (d ++ (48 + m % 10) ∷ [])) q, λ s. absurd (omega arith)))
    n h

two : (n : ℕ) → n < 100 → zero_padded 2 n ≡ (48 + n / 10) ∷ (48 + n % 10) ∷ []
unfolding zero_padded
two n h = (two_both n (omega arith) h).0

abbrev six : ℕ → ℕ → ℕ → List ℕ
six h m s = (48 + h / 10) ∷ (48 + h % 10) ∷ (48 + m / 10) ∷ (48 + m % 10) ∷ (48 + s / 10) ∷ (48 + s % 10) ∷ []

pub second_six : (n : ℕ) → n < 86400 → second_text n ≡ six (n / 3600) (n / 60 % 60) (n % 60)
second_six n h =
    let hour = two (n / 3600) (omega arith) in
    let minute = two (n / 60 % 60) (omega arith) in
    let second = two (n % 60) (omega arith) in
    λ i. (hour i ++ minute i) ++ second i

read_digits : (a b c d e f : ℕ) → a < 10 → b < 10 → c < 10 → d < 10 → e < 10 → f < 10
    → fold push_digit (Some 0) ((48 + a) ∷ (48 + b) ∷ (48 + c) ∷ (48 + d) ∷ (48 + e) ∷ (48 + f) ∷ []) ≡ Some (a * 100000 + b * 10000 + c * 1000 + d * 100 + e * 10 + f)
read_digits a b c d e f ha hb hc hd he hf =
    let last : (((((0 * 10 + a) * 10 + b) * 10 + c) * 10 + d) * 10 + e) * 10 + f ≡ a * 100000 + b * 10000 + c * 1000 + d * 100 + e * 10 + f = omega arith in
    next_digit 0 a ((48 + b) ∷ (48 + c) ∷ (48 + d) ∷ (48 + e) ∷ (48 + f) ∷ []) ha (omega arith)
    ∙ next_digit (0 * 10 + a) b ((48 + c) ∷ (48 + d) ∷ (48 + e) ∷ (48 + f) ∷ []) hb (omega arith)
    ∙ next_digit ((0 * 10 + a) * 10 + b) c ((48 + d) ∷ (48 + e) ∷ (48 + f) ∷ []) hc (omega arith)
    ∙ next_digit (((0 * 10 + a) * 10 + b) * 10 + c) d ((48 + e) ∷ (48 + f) ∷ []) hd (omega arith)
    ∙ next_digit ((((0 * 10 + a) * 10 + b) * 10 + c) * 10 + d) e ((48 + f) ∷ []) he (omega arith)
    ∙ next_digit (((((0 * 10 + a) * 10 + b) * 10 + c) * 10 + d) * 10 + e) f [] hf (omega arith)
    ∙ ap Some last

read_six : (h m s : ℕ) → h < 24 → m < 60 → s < 60 → fold push_digit (Some 0) (six h m s) ≡ Some (h * 10000 + m * 100 + s)
read_six h m s x y z =
    let e : h / 10 * 100000 + h % 10 * 10000 + m / 10 * 1000 + m % 10 * 100 + s / 10 * 10 + s % 10 ≡ h * 10000 + m * 100 + s = omega arith in
    read_digits (h / 10) (h % 10) (m / 10) (m % 10) (s / 10) (s % 10) (omega arith) (omega arith) (omega arith) (omega arith) (omega arith) (omega arith) ∙ ap Some e

number_six_of : (h m s : ℕ) → h < 24 → m < 60 → s < 60 → number_of 6 6 0 999999 (six h m s) ≡ Some (h * 10000 + m * 100 + s)
number_six_of h m s x y z =
    number_read 6 6 0 999999 (six h m s) (h * 10000 + m * 100 + s) (omega arith) (omega arith) (read_six h m s x y z) (within_from 0 999999 (h * 10000 + m * 100 + s) (omega arith) (omega arith))

second_at : (h m s n : ℕ) → h < 24 → m < 60 → s < 60 → n ≡ h * 3600 + m * 60 + s → second_of (Some (h * 10000 + m * 100 + s)) ≡ Some (time.At n)
second_at h m s n x y z e =
    let hour : (h * 10000 + m * 100 + s) / 10000 ≡ h = omega arith in
    let minute : (h * 10000 + m * 100 + s) / 100 % 100 ≡ m = omega arith in
    let second : (h * 10000 + m * 100 + s) % 100 ≡ s = omega arith in
    let parts : second_of (Some (h * 10000 + m * 100 + s)) ≡ cond (nat_lt h 24 && nat_lt m 60 && nat_lt s 60) (Some (time.At (h * 3600 + m * 60 + s))) None =
    λ i. cond (nat_lt (hour i) 24 && nat_lt (minute i) 60 && nat_lt (second i) 60) (Some (time.At (hour i * 3600 + minute i * 60 + second i))) None in
    parts
    ∙ ap (λ c. cond c (Some (time.At (h * 3600 + m * 60 + s))) None)
    (and_from (nat_lt h 24 && nat_lt m 60) (nat_lt s 60) (and_from (nat_lt h 24) (nat_lt m 60) (lt-ltb h 24 x) (lt-ltb m 60 y)) (lt-ltb s 60 z))
    ∙ ap (λ k. Some (time.At k)) (sym e)

pub second_back : (n : ℕ) → n < 86400 → second_of (number_of 6 6 0 999999 (second_text n)) ≡ Some (time.At n)
second_back n h =
    let hour : n / 3600 < 24 = omega arith in
    let minute : n / 60 % 60 < 60 = omega arith in
    let second : n % 60 < 60 = omega arith in
    let whole : n ≡ n / 3600 * 3600 + n / 60 % 60 * 60 + n % 60 = omega arith in
    ap (λ t. second_of (number_of 6 6 0 999999 t)) (second_six n h)
    ∙ ap second_of (number_six_of (n / 3600) (n / 60 % 60) (n % 60) hour minute second)
    ∙ second_at (n / 3600) (n / 60 % 60) (n % 60) n hour minute second whole

pub six_digits : (n : ℕ) → n < 86400 → list_all is_digit (second_text n) ≡ true
six_digits n h =
    ap (list_all is_digit) (second_six n h)
    ∙ all_six (n / 3600) (n / 60 % 60) (n % 60) (omega arith) (omega arith) (omega arith)
  where
    all_six : (h m s : ℕ) → h < 24 → m < 60 → s < 60 → list_all is_digit (six h m s) ≡ true
    all_six h m s x y z = λ i. digit_of (h / 10) (omega arith) i && (digit_of (h % 10) (omega arith) i && (digit_of (m / 10) (omega arith) i && (digit_of (m % 10) (omega arith) i && (digit_of (s / 10) (omega arith) i && (digit_of (s % 10) (omega arith) i && true)))))

pub six_some : (n : ℕ) → n < 86400 → 0 < length (second_text n)
six_some n h = omega (arith, ap length (second_six n h))
