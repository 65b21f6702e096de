-- Two lists that are in one order and have the same elements are one.
use Rattle.std.proofs.Common.{◌≡◌, ◌⊎◌, List, [], ◌∷◌, inl, inr, refl, ap, sym, ◌∙◌, subst, Contains}
use Rattle.std.specs.List.{AllPairs}
use Rattle.wm_ordered.proofs.Members.{AllPairs-head, AllPairs-tail, Contains-cases, Contains-cons, Contains-head, Contains-nil}

module _ {X : Type 0} (R : X → X → Type 0) (one_way : (a b : X) → R a b → R b a → ⊥) where
  -- what stands behind the first of one list stands behind that of the other
  behind : (x y : X) (xs ys : List X) → x ≡ y → AllPairs R (x ∷ xs) → (z : X) → Contains xs z → Contains (y ∷ ys) z → Contains ys z
  behind x y xs ys same sorted z there in_other =
      elim (Contains-cases y z ys in_other) [
        | inl e ↦ (let after : R x z = AllPairs-head R x z xs sorted there in absurd (one_way x z after (subst (λ q. R q x) (same ∙ e) (subst (λ q. R x q) (sym (same ∙ e)) after))))
        | inr later ↦ later
      ]

  pub one_list : (xs ys : List X) → AllPairs R xs → AllPairs R ys → ((x : X) → Contains xs x → Contains ys x) → ((y : X) → Contains ys y → Contains xs y) → xs ≡ ys
  one_list [] [] sorted in_order to from = refl
  one_list [] (y ∷ ys) sorted in_order to from = absurd (Contains-nil y (from y (Contains-head y ys)))
  one_list (x ∷ xs) [] sorted in_order to from = absurd (Contains-nil x (to x (Contains-head x xs)))
  one_list (x ∷ xs) (y ∷ ys) sorted in_order to from =
      let same = first (Contains-cases y x ys (to x (Contains-head x xs))) (Contains-cases x y xs (from y (Contains-head y ys))) in
      let rest = one_list xs ys (AllPairs-tail R x xs sorted) (AllPairs-tail R y ys in_order) (λ z h. behind x y xs ys same sorted z h (to z (Contains-cons x z xs h))) (λ z h. behind y x ys xs (sym same) in_order z h (from z (Contains-cons y z ys h))) in
      ap (λ q. q ∷ xs) same ∙ ap (λ l. y ∷ l) rest
    where
      first : (y ≡ x) ⊎ Contains ys x → (x ≡ y) ⊎ Contains xs y → x ≡ y
      first (inl e) other = sym e
      first (inr later) (inl e) = e
      first (inr later) (inr after) = absurd (one_way x y (AllPairs-head R x y xs sorted after) (AllPairs-head R y x ys in_order later))
