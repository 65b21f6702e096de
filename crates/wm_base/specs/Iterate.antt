-- Doing a step while there is a next.
use Rattle.std.specs.Prelude.{◌≡◌, ℕ, zero, suc, ◌<◌, Option, None, Some}

-- while `next` gives something, `step` takes it, at most `fuel` times
unfoldable pub iterate : {A S : Type 0} (next : S → Option A) (step : A → S → S) → ℕ → S → S
iterate next step zero s = s
iterate next step (suc fuel) s = elim (next s) [ None ↦ s | Some a ↦ iterate next step fuel (step a s) ]

-- each step lessens the measure
pub record IsLessened {A S : Type 0} (next : S → Option A) (step : A → S → S) (measure : S → ℕ) : Type 0 where
  pub by_step : (s : S) (a : A) → next s ≡ Some a → measure (step a s) < measure s

-- each step keeps P
pub record IsKept {A S : Type 0} (next : S → Option A) (step : A → S → S) (P : S → Type 0) : Type 0 where
  pub by_step : (s : S) (a : A) → next s ≡ Some a → P s → P (step a s)
