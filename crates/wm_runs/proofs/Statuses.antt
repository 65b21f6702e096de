-- Which statuses are left.
use Rattle.std.proofs.Common.{◌≡◌, ℕ, true, [], ◌∷◌, nat_eq, arith}
use Rattle.std.specs.List.{list_any}
use Rattle.std.proofs.lemmas.Bool.Decides.{nat_tests}

pub left_statuses : (n : ℕ) → list_any (nat_eq n) (0 ∷ 1 ∷ 2 ∷ 3 ∷ 4 ∷ 5 ∷ 6 ∷ 7 ∷ 8 ∷ 9 ∷ 11 ∷ []) ≡ true → (n ≡ 2 → ⊥) → (n ≡ 3 → ⊥) → (n ≡ 4 → ⊥) → (n ≡ 5 → ⊥) → (n ≡ 8 → ⊥) → (n ≡ 9 → ⊥) → (n ≡ 11 → ⊥) → list_any (nat_eq n) (0 ∷ 1 ∷ 6 ∷ 7 ∷ []) ≡ true
left_statuses n is a b c d e f g = grind (arith, nat_tests)
