-- How rows are gone through, one after the other.
use Rattle.std.proofs.Common.{◌≡◌, ℕ, zero, suc, ◌+◌, Bool, true, false, ◌==◌, cond, List, [], ◌∷◌, drop, Some, inl, inr, ap, sym, ◌∙◌, arith}
use Rattle.std.specs.List.{find, count_by, slice_get}
use Rattle.std.proofs.lemmas.Bool.{cases_Bool, eq-eqb, eqb-true}
use Rattle.std.proofs.lemmas.List.Sums.{sum_by-cons}

pub differs : (a b : ℕ) → (a ≡ b → ⊥) → (a == b) ≡ false
differs a b ne = elim (cases_Bool (a == b)) [ inl e ↦ absurd (ne (eqb-true a b e)) | inr e ↦ e ]

pub is-same : (a b : ℕ) → a ≡ b → (a == b) ≡ true
is-same a b e = eq-eqb a b e

module _ {X : Type 0} where
  -- what is left begins with the one at its place
  rest-at : (xs : List X) (k : ℕ) (x : X) → slice_get xs k ≡ Some x → drop k xs ≡ x ∷ drop (suc k) xs
  rest-at [] k x at = absurd (cc at)
  rest-at (y ∷ ys) zero x at = let here : y ≡ x = cc at in ap (λ (z : X). z ∷ ys) here
  rest-at (y ∷ ys) (suc k) x at = rest-at ys k x at

  module _ (p : X → Bool) (xs : List X) (k : ℕ) where
    abbrev rest : ℕ → List X
    rest n = drop n xs

    next : suc k ≡ k + 1
    next = omega arith

    -- the one at the place is found, or the search goes on behind it
    pub found-at : (x : X) → slice_get xs k ≡ Some x → p x ≡ true → find p (drop k xs) ≡ Some x
    found-at x at hit = ap (find p) (rest-at xs k x at) ∙ ap (λ b. cond b (Some x) (find p (drop (suc k) xs))) hit

    pub found-later : (x : X) → slice_get xs k ≡ Some x → p x ≡ false → find p (drop (k + 1) xs) ≡ find p (drop k xs)
    found-later x at other =
        sym (ap (find p) (rest-at xs k x at) ∙ (ap (λ b. cond b (Some x) (find p (drop (suc k) xs))) other ∙ ap (λ n. find p (rest n)) next))

    -- the one at the place is counted, and then those behind it
    counted : (x : X) → slice_get xs k ≡ Some x → count_by p (drop k xs) ≡ cond (p x) 1 0 + count_by p (drop (k + 1) xs)
    counted x at =
        ap (count_by p) (rest-at xs k x at) ∙ (sum_by-cons (λ y. cond (p y) 1 0) x (drop (suc k) xs) ∙ ap (λ n. cond (p x) 1 0 + count_by p (rest n)) next)

    module _ (count n total : ℕ) (x : X) (at : slice_get xs k ≡ Some x) (so_far : count + count_by p (drop k xs) ≡ total) where
      pub counted-more : p x ≡ true → n ≡ count + 1 → n + count_by p (drop (k + 1) xs) ≡ total
      counted-more hit is = let one = ap (λ b. cond {A = ℕ} b 1 0) hit in omega (arith, counted x at, one, is, so_far)

      pub counted-same : p x ≡ false → n ≡ count → n + count_by p (drop (k + 1) xs) ≡ total
      counted-same other is = let none = ap (λ b. cond {A = ℕ} b 1 0) other in omega (arith, counted x at, none, is, so_far)
