-- Lists without the first item that passes.
use Rattle.std.proofs.Common.{◌≡◌, ℕ, ◌+◌, ◌<◌, ◌≤◌, suc, Bool, true, false, not, cond, nat_lt, List, [], ◌∷◌, length, Some, None, inl, inr, refl, ap, arith}
use Rattle.std.proofs.Math.Numerals.{one-add}
use Rattle.std.proofs.lemmas.Bool.{cases_Bool, ltb-true, ltb-false}
use Rattle.std.specs.List.{position, position_or_len, remove}
use Rattle.wm_traits.specs.Spawner.{without_first}

-- the place of the first that passes is where it is left out
at_first : {A : Type 0} (test : A → Bool) (xs : List A) → position_or_len test xs < length xs → remove xs (position_or_len test xs) ≡ without_first test xs
at_first test [] below = absurd (omega arith)
at_first test (x ∷ xs) below =
    elim (test x) as (λ b. cond (not b) (1 + position_or_len test xs) 0 < suc (length xs) → remove (x ∷ xs) (cond (not b) (1 + position_or_len test xs) 0) ≡ cond b xs (x ∷ without_first test xs)) [
      | true ↦ λ _. refl
      | false ↦ λ h. rw one-add (ap (λ (l : List _). x ∷ l) (at_first test xs (omega arith)))
    ] below

-- with none that passes nothing is left out
nowhere : {A : Type 0} (test : A → Bool) (xs : List A) → length xs ≤ position_or_len test xs → xs ≡ without_first test xs
nowhere test [] past = refl
nowhere test (x ∷ xs) past =
    elim (test x) as (λ b. suc (length xs) ≤ cond (not b) (1 + position_or_len test xs) 0 → x ∷ xs ≡ cond b xs (x ∷ without_first test xs)) [
      | true ↦ λ h. absurd (omega arith)
      | false ↦ λ h. ap (λ (l : List _). x ∷ l) (nowhere test xs (omega arith))
    ] past

pub removed_first : {A : Type 0} (test : A → Bool) (xs : List A) (at : ℕ) → position test xs ≡ Some at → remove xs at ≡ without_first test xs
removed_first test xs at is = elim (cases_Bool (nat_lt (position_or_len test xs) (length xs))) [
  | inl found ↦
      let place : Some (position_or_len test xs) ≡ Some at = rw found at is in
      let same : position_or_len test xs ≡ at = cc in
      rw (← same) (at_first test xs (ltb-true _ _ found))
  | inr missing ↦
      let none : None ≡ Some at = rw missing at is in
      cc
]

pub none_removed : {A : Type 0} (test : A → Bool) (xs : List A) → ((at : ℕ) → position test xs ≡ Some at → ⊥) → xs ≡ without_first test xs
none_removed test xs never = elim (cases_Bool (nat_lt (position_or_len test xs) (length xs))) [
  | inl found ↦ absurd (never (position_or_len test xs) (rw found refl))
  | inr missing ↦ nowhere test xs (ltb-false _ _ missing)
]
