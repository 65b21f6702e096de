-- Rows of which each stands before the next one are in order.
use Rattle.std.proofs.Common.{◌≡◌, ℕ, zero, suc, ◌+◌, ◌<◌, Bool, true, false, List, [], ◌∷◌, length, get_or, inl, inr, refl, sym, ◌∙◌, subst, arith}
use Rattle.std.specs.List.{AllAdjacentBelow, IsAllAdjacentAnswer}
use Rattle.std.proofs.lemmas.Bool.{cases_lt, false≢true}
use Rattle.wm_traits.specs.declared.row.Row.{Row}
use Rattle.wm_traits.specs.InOrder.{before_later}
use Rattle.wm_traits.specs.Rows.{is_before, IsInOrder}

upto : (xs : List Row) → AllAdjacentBelow (λ x y. is_before x y ≡ true) xs (length xs) → (i j : ℕ) (d : Row) → i < j → j < length xs → is_before (get_or xs i d) (get_or xs j d) ≡ true
upto xs steps i zero d lt in_range = absurd (omega arith)
upto xs steps i (suc j) d lt in_range =
    let last : is_before (get_or xs j d) (get_or xs (suc j) d) ≡ true = subst (λ q. is_before (get_or xs j d) (get_or xs q d) ≡ true) {x = j + 1} (omega arith) (steps j d (omega arith)) in
    elim (cases_lt i j) [
      | inl before ↦ before_later (get_or xs i d) (get_or xs j d) (get_or xs (suc j) d) (upto xs steps i j d before (omega arith)) last
      | inr at_j ↦ let same : j ≡ i = omega arith in subst (λ q. is_before (get_or xs q d) (get_or xs (suc j) d) ≡ true) same last
    ]

-- the answer for each row and the next one is that for the whole list
pub adjacent : (xs : List Row) (r : Bool) → IsAllAdjacentAnswer (λ x y b. b ≡ is_before x y) xs r → (r ≡ true → IsInOrder xs) × (IsInOrder xs → r ≡ true)
adjacent xs true answer = (λ _. upto xs (λ k d lt. sym (answer k d lt)), λ _. refl)
adjacent [] false (k, lt, unsorted) = absurd (omega arith)
adjacent (x ∷ xs) false (k, lt, unsorted) = (λ e. absurd (false≢true e), λ sorted. unsorted x ∙ sorted k (k + 1) x (omega arith) lt)
