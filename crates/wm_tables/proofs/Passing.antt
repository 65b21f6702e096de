-- What of a list passes one test and another.
use Rattle.std.proofs.Common.{◌≡◌, ◌⊎◌, ◌<◌, ◌++◌, ◌||◌, Bool, true, false, cond, List, [], ◌∷◌, length, filter, refl, sym, ap, subst, ◌∙◌, inl, inr, arith}
use Rattle.std.specs.List.{list_any}
use Rattle.std.proofs.lemmas.Bool.{or_right}
use Rattle.wm_law.specs.Laws.{IsIn}
use Rattle.wm_base.proofs.Lists.{length-filter_few}

module _ {X : Type 0} where
  passed_by : (p : X → Bool) (t : Bool) (y x : X) (ys : List X) → p y ≡ t → (IsIn x ys → p x ≡ true) → IsIn x (cond t (y ∷ ys) ys) → p x ≡ true
  passed_by p true y x ys e h (inl same) = subst (λ (z : X). p z ≡ true) (sym same) e
  passed_by p true y x ys e h (inr i) = h i
  passed_by p false y x ys e h i = h i

  -- what a filter leaves passes the test
  pub left_passes : (p : X → Bool) (xs : List X) (x : X) → IsIn x (filter p xs) → p x ≡ true
  left_passes p [] x i = absurd i
  left_passes p (y ∷ ys) x i = passed_by p (p y) y x (filter p ys) refl (left_passes p ys x) i

  -- where no element passes, none is found to pass
  pub none_passes : (p : X → Bool) (xs : List X) → ((x : X) → IsIn x xs → p x ≡ false) → list_any p xs ≡ false
  none_passes p [] h = refl
  none_passes p (x ∷ xs) h = ap (λ (t : Bool). t || list_any p xs) (h x (inl refl)) ∙ none_passes p xs (λ y i. h y (inr i))

  -- where one passes, it is found
  pub one_passes : (p : X → Bool) (xs : List X) (x : X) → IsIn x xs → p x ≡ true → list_any p xs ≡ true
  one_passes p [] x i e = absurd i
  one_passes p (y ∷ ys) x (inl same) e = ap (λ (t : Bool). t || list_any p ys) (ap p (sym same) ∙ e)
  one_passes p (y ∷ ys) x (inr i) e = or_right (p y) (list_any p ys) (one_passes p ys x i e)

  -- tests that agree on each element leave the same
  pub left_all : (p : X → Bool) (xs : List X) → ((x : X) → IsIn x xs → p x ≡ true) → filter p xs ≡ xs
  left_all p [] h = refl
  left_all p (x ∷ xs) h =
      ap (λ (t : Bool). cond t (x ∷ filter p xs) (filter p xs)) (h x (inl refl))
      ∙ ap (λ (ys : List X). x ∷ ys) (left_all p xs (λ y i. h y (inr i)))

  pub left_none : (p : X → Bool) (xs : List X) → ((x : X) → IsIn x xs → p x ≡ false) → filter p xs ≡ []
  left_none p [] h = refl
  left_none p (x ∷ xs) h =
      ap (λ (t : Bool). cond t (x ∷ filter p xs) (filter p xs)) (h x (inl refl))
      ∙ left_none p xs (λ y i. h y (inr i))

  fewer_by : (t : Bool) (x : X) (ys xs : List X) → length ys < length xs → length (cond t (x ∷ ys) ys) < length (x ∷ xs)
  fewer_by true x ys xs h = omega arith
  fewer_by false x ys xs h = omega arith

  -- where an element doesn't pass, fewer are left
  pub fewer : (p : X → Bool) (xs : List X) (x : X) → IsIn x xs → p x ≡ false → length (filter p xs) < length xs
  fewer p [] x i e = absurd i
  fewer p (y ∷ ys) x (inl same) e =
      let not : p y ≡ false = ap p (sym same) ∙ e in
      let less = length-filter_few p ys in
      subst (λ (t : Bool). length (cond t (y ∷ filter p ys) (filter p ys)) < length (y ∷ ys)) (sym not) (omega arith)
  fewer p (y ∷ ys) x (inr i) e = fewer_by (p y) y (filter p ys) ys (fewer p ys x i e)

  -- which elements two lists have
  pub in_left_part : (xs ys : List X) (x : X) → IsIn x xs → IsIn x (xs ++ ys)
  in_left_part [] ys x i = absurd i
  in_left_part (z ∷ xs) ys x (inl e) = inl e
  in_left_part (z ∷ xs) ys x (inr i) = inr (in_left_part xs ys x i)

  pub in_right_part : (xs ys : List X) (x : X) → IsIn x ys → IsIn x (xs ++ ys)
  in_right_part [] ys x i = i
  in_right_part (z ∷ xs) ys x i = inr (in_right_part xs ys x i)

  pub of_parts : (xs ys : List X) (x : X) → IsIn x (xs ++ ys) → IsIn x xs ⊎ IsIn x ys
  of_parts [] ys x i = inr i
  of_parts (z ∷ xs) ys x (inl e) = inl (inl e)
  of_parts (z ∷ xs) ys x (inr i) = elim (of_parts xs ys x i) as (λ _. IsIn x (z ∷ xs) ⊎ IsIn x ys) [ inl m ↦ inl (inr m) | inr m ↦ inr m ]
