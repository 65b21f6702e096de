-- Routing data are extended with blanks.
use Rattle.std.proofs.Common.{◌≡◌, ℕ, ◌-◌, ◌+◌, ◌≤◌, ◌++◌, min, List, length, take, drop, replicate, sym, ap, ◌∙◌, inl, inr, arith}
use Rattle.std.proofs.lemmas.Grind.{common_steps}
use Rattle.std.proofs.lemmas.List.{append-nil, drop-replicate, take-replicate, take-append-le}
use Rattle.std.proofs.lemmas.Bool.{cases_lt}
use Rattle.std.proofs.Math.Seq.{take-append-add}

-- what is shorter is written over the front of the blanks
shorter : (xs : List ℕ) (size n b : ℕ) → n ≡ length xs → length xs ≤ size → take n xs ++ drop n (replicate size b) ≡ take size (xs ++ replicate size b)
shorter xs size n b e h =
    let rest : ℕ = size - n in
    let whole : n + rest ≡ size = omega arith in
    let behind = drop-replicate n size b in
    let front : take n xs ≡ xs = grind (arith, common_steps) in
    let all : take size (xs ++ replicate size b) ≡ xs ++ take rest (replicate size b) = ap (λ (m : ℕ). take m (xs ++ replicate size b)) (sym whole) ∙ (ap (λ (m : ℕ). take (m + rest) (xs ++ replicate size b)) e ∙ take-append-add xs (replicate size b) rest) in
    let blanks = take-replicate rest size b (omega arith) in
    ap (λ (l : List ℕ). l ++ drop n (replicate size b)) front ∙ ap (λ (l : List ℕ). xs ++ l) (behind ∙ sym blanks) ∙ sym all

-- of what is longer as much as the blanks
longer : (xs : List ℕ) (size n b : ℕ) → n ≡ size → size ≤ length xs → take n xs ++ drop n (replicate size b) ≡ take size (xs ++ replicate size b)
longer xs size n b e h =
    let zero : size - n ≡ 0 = omega arith in
    let none = drop-replicate n size b ∙ ap (λ (m : ℕ). replicate m b) zero in
    let all = take-append-le size xs (replicate size b) h in
    ap (λ (l : List ℕ). take n xs ++ l) none ∙ append-nil (take n xs) ∙ ap (λ (m : ℕ). take m xs) e ∙ sym all

pub extended_is : (xs : List ℕ) (size n b : ℕ) → n ≡ min (length xs) size → take n xs ++ drop n (replicate size b) ≡ take size (xs ++ replicate size b)
extended_is xs size n b e =
    elim (cases_lt (length xs) size) as (λ _. take n xs ++ drop n (replicate size b) ≡ take size (xs ++ replicate size b)) [
      | inl h ↦ shorter xs size n b (e ∙ omega arith) (omega arith)
      | inr h ↦ longer xs size n b (e ∙ omega arith) h
    ]
