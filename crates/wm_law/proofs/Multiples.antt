-- The least multiple of a number that is at least another.
use Rattle.std.proofs.Common.{◌≡◌, ℕ, suc, ◌+◌, ◌-◌, ◌*◌, ◌/◌, ◌%◌, ◌<◌, ◌≤◌, inl, inr, refl, ap, ◌∙◌, arith}
use Rattle.std.proofs.Math.Nat.{add-mul, add-mul-div_right, one-mul, suc-mul}
use Rattle.std.proofs.lemmas.Bool.{cases_lt}
use Rattle.std.proofs.lemmas.Nat.{div-add-mod', div-mul-add, mod_below, mul-le}
use Rattle.wm_law.specs.Prestart.{least_multiple, LeastMultipleIsLeast}

module _ (step : ℕ) (some : 0 < step) where
  parts : (n : ℕ) → n / step * step + n % step ≡ n
  parts n = div-add-mod' n step

  -- it is at least the other number
  pub multiple-enough : (least : ℕ) → least ≤ least_multiple step least
  multiple-enough least = omega (arith, parts (least + (step - 1)), mod_below (least + (step - 1)) step some)

  fewer-times : (least n q : ℕ) → q ≡ (least + (step - 1)) / step → least ≤ n * step → n < q → ⊥
  fewer-times least n q is le lt =
      let more : suc n * step ≤ q * step = mul-le (suc n) step q step lt (omega arith) in
      let whole : q * step + (least + (step - 1)) % step ≡ least + (step - 1) = ap (λ k. k * step + (least + (step - 1)) % step) is ∙ parts (least + (step - 1)) in
      omega (arith, more, suc-mul n step, whole, le, some)

  -- no other multiple is less
  pub multiple-least : (least n : ℕ) → least ≤ n * step → least_multiple step least ≤ n * step
  multiple-least least n le =
      elim (cases_lt n ((least + (step - 1)) / step)) [
        | inr ge ↦ mul-le ((least + (step - 1)) / step) step n step ge (omega arith)
        | inl lt ↦ absurd (fewer-times least n ((least + (step - 1)) / step) refl le lt)
      ]

  -- for one step more it is one step more
  pub multiple-more : (least : ℕ) → least_multiple step (least + step) ≡ least_multiple step least + step
  multiple-more least =
      let x : ℕ = least + (step - 1) in
      let same : least + step + (step - 1) ≡ x + 1 * step = omega (arith, one-mul step) in
      let q : (x + 1 * step) / step ≡ x / step + 1 = add-mul-div_right x 1 some in
      ap (λ n. n / step * step) same ∙ (ap (λ n. n * step) q ∙ (add-mul (x / step) 1 step ∙ ap (λ n. x / step * step + n) (one-mul step)))

  -- for at most one step it is one step
  pub multiple-one : (least : ℕ) → 0 < least → least ≤ step → least_multiple step least ≡ step
  multiple-one least more le =
      let same : least + (step - 1) ≡ 1 * step + (least - 1) = omega (arith, one-mul step) in
      ap (λ n. n / step * step) same ∙ (ap (λ n. n * step) (div-mul-add 1 step (least - 1) (omega arith)) ∙ one-mul step)

pub least_multiple_is_least : LeastMultipleIsLeast
least_multiple_is_least step least some = record {
  times = (least + (step - 1)) / step;
  multiple = refl;
  enough = multiple-enough step some least;
  none_less = λ n le. multiple-least step some least n le;
}
