-- Digits of one length stand in the order of their numbers.
use Rattle.std.proofs.Common.{◌≡◌, ℕ, zero, suc, ◌+◌, ◌-◌, ◌/◌, ◌%◌, ◌^◌, ◌<◌, ◌≤◌, ◌++◌, List, [], ◌∷◌, length, replicate, refl, sym, ap, ◌∙◌, inl, inr, append_assoc, arith}
use Rattle.std.specs.Cmp.Lexicographic.{slice_cmp}
use Rattle.std.specs.Ordering.{nat_cmp, ordering_then}
use Rattle.std.specs.declared.cmp.Ordering.{Ordering}
use Rattle.std.specs.declared.cmp.Ordering.TheVariants.{Less, Equal, Greater}
use Rattle.std.proofs.lemmas.Cmp.{nat_list_cmp_total, tied_itself}
use Rattle.std.proofs.lemmas.Fmt.{decimal_by_steps}
use Rattle.std.proofs.lemmas.List.{length-append}
use Rattle.std.proofs.lemmas.Bool.{cases_lt}
use Rattle.wm_base.specs.Number.{zero_padded}
use Rattle.wm_base.proofs.Orderings.{Less-lt}

-- so many digits of a number, the last of them
abbrev digits : ℕ → ℕ → List ℕ
digits zero n = []
digits (suc width) n = digits width (n / 10) ++ (48 + n % 10) ∷ []

length_digits : (width n : ℕ) → length (digits width n) ≡ width
length_digits zero n = refl
length_digits (suc width) n =
    let rest = length_digits width (n / 10) in
    let all = length-append (digits width (n / 10)) ((48 + n % 10) ∷ []) in
    omega arith

then_none : (r : Ordering) → ordering_then r Equal ≡ r
then_none Less = refl
then_none Equal = refl
then_none Greater = refl

then_both : (r whole most last : Ordering) → whole ≡ ordering_then most last → ordering_then r whole ≡ ordering_then (ordering_then r most) last
then_both Less whole most last h = refl
then_both Equal whole most last h = h
then_both Greater whole most last h = refl

-- texts of one length, with a byte more each
with_last : (xs ys : List ℕ) (a b : ℕ) → length xs ≡ length ys → slice_cmp nat_cmp (xs ++ a ∷ []) (ys ++ b ∷ []) ≡ ordering_then (slice_cmp nat_cmp xs ys) (nat_cmp a b)
with_last [] [] a b e = then_none (nat_cmp a b)
with_last [] (y ∷ ys) a b e = absurd (omega arith)
with_last (x ∷ xs) [] a b e = absurd (omega arith)
with_last (x ∷ xs) (y ∷ ys) a b e = then_both (nat_cmp x y) (slice_cmp nat_cmp (xs ++ a ∷ []) (ys ++ b ∷ [])) (slice_cmp nat_cmp xs ys) (nat_cmp a b) (with_last xs ys a b (omega arith))

digits_less : (width a b : ℕ) → a < b → b < 10 ^ width → slice_cmp nat_cmp (digits width a) (digits width b) ≡ Less
digits_less zero a b less top = absurd (omega arith)
digits_less (suc width) a b less top =
    let same : length (digits width (a / 10)) ≡ length (digits width (b / 10)) = length_digits width (a / 10) ∙ sym (length_digits width (b / 10)) in
    with_last (digits width (a / 10)) (digits width (b / 10)) (48 + a % 10) (48 + b % 10) same
    ∙ (elim (cases_lt (a / 10) (b / 10)) [
      | inl front ↦ ap (λ (r : Ordering). ordering_then r (nat_cmp (48 + a % 10) (48 + b % 10))) (digits_less width (a / 10) (b / 10) front (omega arith))
      | inr back ↦
          let equal : a / 10 ≡ b / 10 = omega arith in
          let last : 48 + a % 10 < 48 + b % 10 = omega arith in
          ap (λ (n : ℕ). ordering_then (slice_cmp nat_cmp (digits width n) (digits width (b / 10))) (nat_cmp (48 + a % 10) (48 + b % 10))) equal
          ∙ ap (λ (r : Ordering). ordering_then r (nat_cmp (48 + a % 10) (48 + b % 10))) (tied_itself nat_list_cmp_total (digits width (b / 10)))
          ∙ Less-lt (48 + a % 10) (48 + b % 10) last
    ])

zero_more : (n : ℕ) → ◌++◌ {A = ℕ} (replicate n 48) (48 ∷ []) ≡ replicate (suc n) 48
zero_more zero = refl
zero_more (suc n) = ap (λ (ds : List ℕ). 48 ∷ ds) (zero_more n)

zeros : (width : ℕ) → digits width 0 ≡ replicate width 48
zeros zero = refl
zeros (suc width) = ap (λ (ds : List ℕ). ds ++ 48 ∷ []) (zeros width) ∙ zero_more width

abbrev IsPadded : ℕ → List ℕ → Type 0
IsPadded n ds = (width : ℕ) → n < 10 ^ suc width → replicate (suc width - length ds) 48 ++ ds ≡ digits (suc width) n

padded_one : (n : ℕ) → n < 10 → IsPadded n ((48 + n) ∷ [])
padded_one n small width h =
    let none : n / 10 ≡ 0 = omega arith in
    let all : n % 10 ≡ n = omega arith in
    let few : suc width - 1 ≡ width = omega arith in
    ap (λ (k : ℕ). replicate k 48 ++ (48 + n) ∷ []) few
    ∙ ap (λ (ds : List ℕ). ds ++ (48 + n) ∷ []) (sym (zeros width))
    ∙ ap (λ (k : ℕ). digits width 0 ++ (48 + k) ∷ []) (sym all)
    ∙ ap (λ (k : ℕ). digits width k ++ (48 + n % 10) ∷ []) (sym none)

padded_more : (n : ℕ) (ds : List ℕ) → 10 ≤ n → IsPadded (n / 10) ds → IsPadded n (ds ++ (48 + n % 10) ∷ [])
padded_more n ds big p zero h = absurd (omega arith)
padded_more n ds big p (suc width) h =
    let long = length-append ds ((48 + n % 10) ∷ []) in
    let few : suc (suc width) - length (ds ++ (48 + n % 10) ∷ []) ≡ suc width - length ds = omega arith in
    ap (λ (k : ℕ). replicate k 48 ++ (ds ++ (48 + n % 10) ∷ [])) few
    ∙ sym (append_assoc (replicate (suc width - length ds) 48) ds ((48 + n % 10) ∷ []))
    ∙ ap (λ (es : List ℕ). es ++ (48 + n % 10) ∷ []) (p width (omega arith))

pub padded_is : (width n : ℕ) → n < 2 ^ 64 → n < 10 ^ suc width → zero_padded (suc width) n ≡ digits (suc width) n
unfolding zero_padded
padded_is width n fits h = decimal_by_steps IsPadded padded_one padded_more n fits width h

-- digits with zeros before them stand in the order of their numbers
pub padded_less : (width a b : ℕ) → a < b → b < 2 ^ 64 → b < 10 ^ suc width → slice_cmp nat_cmp (zero_padded (suc width) a) (zero_padded (suc width) b) ≡ Less
padded_less width a b less fits top =
    ap (λ (ds : List ℕ). slice_cmp nat_cmp ds (zero_padded (suc width) b)) (padded_is width a (omega arith) (omega arith))
    ∙ ap (λ (ds : List ℕ). slice_cmp nat_cmp (digits (suc width) a) ds) (padded_is width b fits top)
    ∙ digits_less (suc width) a b less top
