-- What is known of a step that is done while there is a next.
use Rattle.std.proofs.Common.{◌≡◌, ℕ, zero, suc, ◌≤◌, Option, None, Some, refl, sym, ◌∙◌, arith}
use Rattle.wm_base.specs.Iterate.{iterate, IsLessened, IsKept}

-- there is a next or none
next_cases : {A : Type 0} (o : Option A) (P : Type 0) → (o ≡ None → P) → ((a : A) → o ≡ Some a → P) → P
next_cases None P none some = none refl
next_cases (Some a) P none some = some a refl

-- where there is no next, nothing is done
pub iterate-none : {A S : Type 0} (next : S → Option A) (step : A → S → S) (fuel : ℕ) (s : S) → next s ≡ None → iterate next step fuel s ≡ s
unfolding iterate
iterate-none next step zero s e = refl
iterate-none next step (suc fuel) s e = rw (e, iterate)

iterate-some : {A S : Type 0} (next : S → Option A) (step : A → S → S) (fuel : ℕ) (s : S) (a : A) → next s ≡ Some a → iterate next step (suc fuel) s ≡ iterate next step fuel (step a s)
unfolding iterate
iterate-some next step fuel s a e = rw (e, iterate)

iterate-zero : {A S : Type 0} (next : S → Option A) (step : A → S → S) (s : S) → iterate next step 0 s ≡ s
unfolding iterate
iterate-zero next step s = refl

-- with the measure as fuel, none is left
pub next-iterate : {A S : Type 0} {next : S → Option A} {step : A → S → S} {measure : S → ℕ} → IsLessened next step measure → (fuel : ℕ) (s : S) → measure s ≤ fuel → next (iterate next step fuel s) ≡ None
next-iterate {next = next} {step = step} {measure = measure} h zero s enough =
    next_cases (next s) _
    (λ e. rw iterate-zero e)
    (λ a e. let less = h.by_step s a e in absurd (omega arith))
next-iterate {next = next} {step = step} {measure = measure} h (suc fuel) s enough =
    next_cases (next s) _
    (λ e. rw (iterate-none next step (suc fuel) s e) e)
    (λ a e. let less = h.by_step s a e in rw (iterate-some next step fuel s a e) (next-iterate h fuel (step a s) (omega arith)))

-- more fuel than the measure changes nothing
pub iterate-fuel : {A S : Type 0} {next : S → Option A} {step : A → S → S} {measure : S → ℕ} → IsLessened next step measure → (fuel more : ℕ) (s : S) → measure s ≤ fuel → measure s ≤ more → iterate next step fuel s ≡ iterate next step more s
iterate-fuel {next = next} {step = step} {measure = measure} h zero more s enough enough_too =
    next_cases (next s) _
    (λ e. iterate-none next step 0 s e ∙ sym (iterate-none next step more s e))
    (λ a e. let less = h.by_step s a e in absurd (omega arith))
iterate-fuel {next = next} {step = step} {measure = measure} h (suc fuel) zero s enough enough_too =
    next_cases (next s) _
    (λ e. iterate-none next step (suc fuel) s e ∙ sym (iterate-none next step 0 s e))
    (λ a e. let less = h.by_step s a e in absurd (omega arith))
iterate-fuel {next = next} {step = step} {measure = measure} h (suc fuel) (suc more) s enough enough_too =
    next_cases (next s) _
    (λ e. iterate-none next step (suc fuel) s e ∙ sym (iterate-none next step (suc more) s e))
    (λ a e. let less = h.by_step s a e in
    iterate-some next step fuel s a e ∙ iterate-fuel h fuel more (step a s) (omega arith) (omega arith) ∙ sym (iterate-some next step more s a e))

-- one step: what is left to do is done from there
pub iterate-step : {A S : Type 0} {next : S → Option A} {step : A → S → S} {measure : S → ℕ} → IsLessened next step measure → (fuel rest : ℕ) (s : S) (a : A) → next s ≡ Some a → measure s ≤ fuel → measure (step a s) ≤ rest → iterate next step fuel s ≡ iterate next step rest (step a s)
iterate-step {next = next} {step = step} {measure = measure} h zero rest s a e enough enough_too =
    let less = h.by_step s a e in absurd (omega arith)
iterate-step {next = next} {step = step} {measure = measure} h (suc fuel) rest s a e enough enough_too =
    let less = h.by_step s a e in
    iterate-some next step fuel s a e ∙ iterate-fuel h fuel rest (step a s) (omega arith) enough_too

-- what each step keeps holds at the end
pub iterate-keeps : {A S : Type 0} {next : S → Option A} {step : A → S → S} (P : S → Type 0) → IsKept next step P → (fuel : ℕ) (s : S) → P s → P (iterate next step fuel s)
iterate-keeps {next = next} {step = step} P h zero s p = rw iterate-zero p
iterate-keeps {next = next} {step = step} P h (suc fuel) s p =
    next_cases (next s) _
    (λ e. rw (iterate-none next step (suc fuel) s e) p)
    (λ a e. rw (iterate-some next step fuel s a e) (iterate-keeps P h fuel (step a s) (h.by_step s a e p)))
