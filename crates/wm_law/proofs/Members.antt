-- What stands in lists that are made from others.
use Rattle.std.proofs.Common.{◌≡◌, ◌⊎◌, ◌++◌, Bool, true, false, cond, List, [], ◌∷◌, map, filter, Some, None, refl, sym, ap, subst, ◌∙◌, inl, inr, All}
use Rattle.std.specs.List.{find}
use Rattle.std.proofs.lemmas.List.Elements.{All-head, All-tail}
use Rattle.wm_law.specs.Laws.{IsIn}

pub of_last : {X : Type 0} (xs : List X) (y x : X) → IsIn x (xs ++ y ∷ []) → IsIn x xs ⊎ (x ≡ y)
of_last [] y x (inl e) = inr e
of_last [] y x (inr i) = absurd i
of_last (z ∷ xs) y x (inl e) = inl (inl e)
of_last (z ∷ xs) y x (inr i) = elim (of_last xs y x i) as (λ _. IsIn x (z ∷ xs) ⊎ (x ≡ y)) [ inl m ↦ inl (inr m) | inr e ↦ inr e ]

pub in_longer : {X : Type 0} (xs : List X) (y x : X) → IsIn x xs → IsIn x (xs ++ y ∷ [])
in_longer [] y x i = absurd i
in_longer (z ∷ xs) y x (inl e) = inl e
in_longer (z ∷ xs) y x (inr i) = inr (in_longer xs y x i)

pub last_in : {X : Type 0} (xs : List X) (y : X) → IsIn y (xs ++ y ∷ [])
last_in [] y = inl refl
last_in (z ∷ xs) y = inr (last_in xs y)

pub of_mapped : {X Y : Type 0} (f : X → Y) (xs : List X) (y : Y) → IsIn y (map f xs) → (x : X) × IsIn x xs × (y ≡ f x)
of_mapped f [] y i = absurd i
of_mapped f (x ∷ xs) y (inl e) = (x, inl refl, e)
of_mapped f (x ∷ xs) y (inr i) = let m = of_mapped f xs y i in (m.0, inr m.1, m.2)

pub in_mapped : {X Y : Type 0} (f : X → Y) (xs : List X) (x : X) → IsIn x xs → IsIn (f x) (map f xs)
in_mapped f [] x i = absurd i
in_mapped f (z ∷ xs) x (inl e) = inl (ap f e)
in_mapped f (z ∷ xs) x (inr i) = inr (in_mapped f xs x i)

-- a change that leaves a key of each element leaves the list of the keys
pub map_same : {X A : Type 0} (key : X → A) (f : X → X) → ((x : X) → key (f x) ≡ key x) → (xs : List X) → map key (map f xs) ≡ map key xs
map_same key f h [] = refl
map_same key f h (x ∷ xs) = cc (h x, map_same key f h xs)

in_more : {X : Type 0} (t : Bool) (y : X) (ys xs : List X) (x : X) → (IsIn x ys → IsIn x xs) → IsIn x (cond t (y ∷ ys) ys) → IsIn x (y ∷ xs)
in_more true y ys xs x h (inl e) = inl e
in_more true y ys xs x h (inr i) = inr (h i)
in_more false y ys xs x h i = inr (h i)

-- what a filter leaves stood in the list
pub left_in : {X : Type 0} (p : X → Bool) (xs : List X) (x : X) → IsIn x (filter p xs) → IsIn x xs
left_in p [] x i = i
left_in p (y ∷ xs) x i = in_more (p y) y (filter p xs) xs x (left_in p xs x) i

left_first : {X : Type 0} (p : X → Bool) (t : Bool) (z x : X) (xs : List X) → p z ≡ t → p x ≡ true → x ≡ z → IsIn x (cond t (z ∷ xs) xs)
left_first p true z x xs h k e = inl e
left_first p false z x xs h k e = let same = ap p e in absurd (cc)

left_later : {X : Type 0} (t : Bool) (z x : X) (xs : List X) → IsIn x xs → IsIn x (cond t (z ∷ xs) xs)
left_later true z x xs i = inr i
left_later false z x xs i = i

passed_by : {X : Type 0} (p : X → Bool) (t : Bool) (y x : X) (ys : List X) → p y ≡ t → (IsIn x ys → p x ≡ true) → IsIn x (cond t (y ∷ ys) ys) → p x ≡ true
passed_by p true y x ys e h (inl same) = ap p same ∙ e
passed_by p true y x ys e h (inr i) = h i
passed_by p false y x ys e h i = h i

-- what a filter leaves passes its test
pub left_passes : {X : Type 0} (p : X → Bool) (xs : List X) (x : X) → IsIn x (filter p xs) → p x ≡ true
left_passes p [] x i = absurd i
left_passes p (y ∷ xs) x i = passed_by p (p y) y x (filter p xs) refl (left_passes p xs x) i

-- what passes the test is left
pub in_left : {X : Type 0} (p : X → Bool) (xs : List X) (x : X) → p x ≡ true → IsIn x xs → IsIn x (filter p xs)
in_left p [] x h i = absurd i
in_left p (z ∷ xs) x h (inl e) = left_first p (p z) z x (filter p xs) refl h e
in_left p (z ∷ xs) x h (inr i) = left_later (p z) z x (filter p xs) (in_left p xs x h i)

found_by : {X : Type 0} (p : X → Bool) (y : X) (ys : List X) (t : Bool) → p y ≡ t → (x : X) → cond t (Some y) (find p ys) ≡ Some x → ((find p ys ≡ Some x) → IsIn x ys × (p x ≡ true)) → IsIn x (y ∷ ys) × (p x ≡ true)
found_by p y ys true e x h rest = let same : y ≡ x = cc in (inl (sym same), subst (λ z. p z ≡ true) same e)
found_by p y ys false e x h rest = let r = rest h in (inr r.0, r.1)

-- what is found stands in the list, and passes the test
pub found_among : {X : Type 0} (p : X → Bool) (xs : List X) (x : X) → find p xs ≡ Some x → IsIn x xs × (p x ≡ true)
found_among p [] x h = absurd (cc)
found_among p (y ∷ ys) x h = found_by p y ys (p y) refl x h (found_among p ys x)

none_by : {X : Type 0} (p : X → Bool) (y : X) (ys : List X) (t : Bool) → p y ≡ t → cond t (Some y) (find p ys) ≡ None → (find p ys ≡ None → (x : X) → IsIn x ys → p x ≡ true → ⊥) → (x : X) → IsIn x (y ∷ ys) → p x ≡ true → ⊥
none_by p y ys true e f h x i m = absurd (cc)
none_by p y ys false e f h x (inl same) m = let not : p x ≡ false = ap p same ∙ e in absurd (cc)
none_by p y ys false e f h x (inr i) m = h f x i m

-- where nothing is found, nothing passes the test
pub none_among : {X : Type 0} (p : X → Bool) (xs : List X) → find p xs ≡ None → (x : X) → IsIn x xs → p x ≡ true → ⊥
none_among p [] f x i m = i
none_among p (y ∷ ys) f x i m = none_by p y ys (p y) refl f (none_among p ys) x i m

-- what holds of each element holds of one
pub All-in : {X : Type 0} (P : X → Type 0) (xs : List X) (x : X) → All P xs → IsIn x xs → P x
All-in P [] x all i = absurd i
All-in P (y ∷ ys) x all (inl e) = subst P (sym e) (All-head P y ys all)
All-in P (y ∷ ys) x all (inr i) = All-in P ys x (All-tail P y ys all) i

-- a change that leaves each element as it is
pub each_stays : {X : Type 0} (f : X → X) (xs : List X) → ((x : X) → IsIn x xs → f x ≡ x) → map f xs ≡ xs
each_stays f [] h = refl
each_stays f (x ∷ xs) h = cc (h x (inl refl), each_stays f xs (λ y i. h y (inr i)))

-- two tests that say the same of each element leave the same
pub left_same : {X : Type 0} (p q : X → Bool) (xs : List X) → ((x : X) → IsIn x xs → q x ≡ p x) → filter q xs ≡ filter p xs
left_same p q [] h = refl
left_same p q (x ∷ xs) h = cc (h x (inl refl), left_same p q xs (λ y i. h y (inr i)))
