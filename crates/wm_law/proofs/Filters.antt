-- A filter of what another filter left, and of a list without its first element that passes.
use Rattle.std.proofs.Common.{◌≡◌, ◌||◌, Bool, true, false, cond, List, [], ◌∷◌, filter, refl, sym, ap, ◌∙◌, inl, inr}
use Rattle.std.specs.List.{list_any}
use Rattle.wm_law.specs.Laws.{IsIn}
use Rattle.wm_law.proofs.FirstGone.{first_gone}

module _ {X : Type 0} (q : X → Bool) where
  passed : (x : X) (ys zs : List X) (t : Bool) → q x ≡ t → filter q ys ≡ zs → filter q (x ∷ ys) ≡ cond t (x ∷ zs) zs
  passed x ys zs t e h = ap (λ (b : Bool). cond b (x ∷ filter q ys) (filter q ys)) e ∙ ap (λ (l : List X). cond t (x ∷ l) l) h

  module _ (r : X → Bool) where
    stay_by : (x : X) (ys zs : List X) (t u : Bool) → q x ≡ t → (t ≡ true → u ≡ true) → filter q ys ≡ zs → filter q (cond u (x ∷ ys) ys) ≡ cond t (x ∷ zs) zs
    stay_by x ys zs t true e k h = passed x ys zs t e h
    stay_by x ys zs true false e k h = let wrong = k refl in absurd (cc)
    stay_by x ys zs false false e k h = h

    -- where what passes the one passes the other, that one leaves what it would
    pub all_stay : (xs : List X) → ((x : X) → q x ≡ true → r x ≡ true) → filter q (filter r xs) ≡ filter q xs
    all_stay [] k = refl
    all_stay (x ∷ xs) k = stay_by x (filter r xs) (filter q xs) (q x) (r x) refl (k x) (all_stay xs k)

    go_by : (x : X) (ys : List X) (t u : Bool) → q x ≡ t → (t ≡ true → u ≡ false) → filter q ys ≡ [] → filter q (cond u (x ∷ ys) ys) ≡ []
    go_by x ys true true e k h = let wrong = k refl in absurd (cc)
    go_by x ys false true e k h = passed x ys [] false e h
    go_by x ys t false e k h = h

    -- where what passes the one fails the other, that one leaves nothing
    pub all_go : (xs : List X) → ((x : X) → q x ≡ true → r x ≡ false) → filter q (filter r xs) ≡ []
    all_go [] k = refl
    all_go (x ∷ xs) k = go_by x (filter r xs) (q x) (r x) refl (k x) (all_go xs k)

    other_by : (x : X) (xs ys : List X) (t u : Bool) → q x ≡ t → (t ≡ true → u ≡ false) → filter q ys ≡ filter q xs → filter q (cond u xs (x ∷ ys)) ≡ cond t (x ∷ filter q xs) (filter q xs)
    other_by x xs ys true true e k h = let wrong = k refl in absurd (cc)
    other_by x xs ys false true e k h = refl
    other_by x xs ys t false e k h = passed x ys (filter q xs) t e h

    -- where what passes the one fails the other, the other's first takes nothing from the one
    pub others_stay : (xs : List X) → ((x : X) → q x ≡ true → r x ≡ false) → filter q (first_gone r xs) ≡ filter q xs
    others_stay [] k = refl
    others_stay (x ∷ xs) k = other_by x xs (first_gone r xs) (q x) (r x) refl (k x) (others_stay xs k)

  -- the first that passes comes before what is left without it
  abbrev pub HasFirst : List X → List X → Type 0
  HasFirst xs ys = (x : X) × (xs ≡ x ∷ ys)

  first_by : (x : X) (xs : List X) (t : Bool) → q x ≡ t → (t || list_any q xs) ≡ true → (list_any q xs ≡ true → HasFirst (filter q xs) (filter q (first_gone q xs))) → HasFirst (cond t (x ∷ filter q xs) (filter q xs)) (filter q (cond t xs (x ∷ first_gone q xs)))
  first_by x xs true e some h = (x, refl)
  first_by x xs false e some h =
      let rest = h some in
      (rest.0, rest.1 ∙ ap (λ (l : List X). rest.0 ∷ l) (sym (passed x (first_gone q xs) (filter q (first_gone q xs)) false e refl)))

  pub first_before : (xs : List X) → list_any q xs ≡ true → HasFirst (filter q xs) (filter q (first_gone q xs))
  first_before [] some = absurd (cc)
  first_before (x ∷ xs) some = first_by x xs (q x) refl some (first_before xs)

  in_by : (x y : X) (xs ys : List X) (t : Bool) → (IsIn y ys → IsIn y xs) → IsIn y (cond t xs (x ∷ ys)) → IsIn y (x ∷ xs)
  in_by x y xs ys true h i = inr i
  in_by x y xs ys false h (inl e) = inl e
  in_by x y xs ys false h (inr i) = inr (h i)

  -- what is left stood there
  pub in_whole : (xs : List X) (y : X) → IsIn y (first_gone q xs) → IsIn y xs
  in_whole [] y i = i
  in_whole (x ∷ xs) y i = in_by x y xs (first_gone q xs) (q x) (in_whole xs y) i
