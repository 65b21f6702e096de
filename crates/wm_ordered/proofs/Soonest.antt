-- The least moment of the elements that pass a test, by what stands among them.
use Rattle.std.proofs.Common.{◌≡◌, ℕ, ◌≤◌, Bool, true, false, cond, List, [], ◌∷◌, fold, Option, Some, None, inl, inr, refl, ap, sym, ◌∙◌, subst, arith, Contains}
use Rattle.std.proofs.lemmas.Bool.{cases_Bool}
use Rattle.wm_ordered.specs.Least.{sooner}
use Rattle.wm_ordered.proofs.Members.{Contains-head, Contains-cons, Contains-nil, Contains-cases}

-- the best so far is none, or isn't sooner than m
abbrev Later : ℕ → Option ℕ → Type 0
Later m None = Unit {0}
Later m (Some n) = m ≤ n

sooner-stays : (m n : ℕ) → m ≤ n → sooner (Some m) n ≡ Some m
sooner-stays m n le = ap Some (omega arith)

sooner-takes : (m : ℕ) (a : Option ℕ) → Later m a → sooner a m ≡ Some m
sooner-takes m None h = refl
sooner-takes m (Some n) h = ap Some (omega arith)

sooner-later : (m n : ℕ) (a : Option ℕ) → m ≤ n → Later m a → Later m (sooner a n)
sooner-later m n None le h = le
sooner-later m n (Some k) le h = omega arith

module _ {X : Type 0} (test : X → Bool) (moment : X → ℕ) where
  -- the best so far, with one element more
  abbrev pass : Option ℕ → X → Option ℕ
  pass least x = cond (test x) (sooner least (moment x)) least

  skips : (a : Option ℕ) (x : X) → test x ≡ false → pass a x ≡ a
  skips a x fails = ap (λ b. cond b (sooner a (moment x)) a) fails

  passes : (a : Option ℕ) (x : X) → test x ≡ true → pass a x ≡ sooner a (moment x)
  passes a x holds = ap (λ b. cond b (sooner a (moment x)) a) holds

  -- none passes
  pub soonest-None : (xs : List X) (a : Option ℕ) → ((x : X) → Contains xs x → test x ≡ false) → fold (λ least x. cond (test x) (sooner least (moment x)) least) a xs ≡ a
  soonest-None [] a none = refl
  soonest-None (x ∷ xs) a none =
      ap (λ b. fold pass b xs) (skips a x (none x (Contains-head x xs))) ∙ soonest-None xs a (λ y h. none y (Contains-cons x y xs h))

  pass-later : (m : ℕ) (a : Option ℕ) (x : X) → (test x ≡ true → m ≤ moment x) → Later m a → Later m (pass a x)
  pass-later m a x le h = elim (cases_Bool (test x)) [
    | inl holds ↦ subst (λ b. Later m b) (sym (passes a x holds)) (sooner-later m (moment x) a (le holds) h)
    | inr fails ↦ subst (λ b. Later m b) (sym (skips a x fails)) h
  ]

  stays : (xs : List X) (m : ℕ) → ((x : X) → Contains xs x → test x ≡ true → m ≤ moment x) → fold pass (Some m) xs ≡ Some m
  stays [] m least = refl
  stays (x ∷ xs) m least = ap (λ b. fold pass b xs) here ∙ stays xs m (λ y h. least y (Contains-cons x y xs h))
    where
      here : pass (Some m) x ≡ Some m
      here = elim (cases_Bool (test x)) [
        | inl holds ↦ passes (Some m) x holds ∙ sooner-stays m (moment x) (least x (Contains-head x xs) holds)
        | inr fails ↦ skips (Some m) x fails
      ]

  by_later : (xs : List X) (a : Option ℕ) (w : X) → Contains xs w → test w ≡ true → ((x : X) → Contains xs x → test x ≡ true → moment w ≤ moment x) → Later (moment w) a → fold pass a xs ≡ Some (moment w)
  by_later [] a w there holds least later = absurd (Contains-nil w there)
  by_later (x ∷ xs) a w there holds least later =
      elim (Contains-cases x w xs there) [
        | inl same ↦ ap (λ (z : X). fold pass (pass a z) xs) same ∙ (ap (λ b. fold pass b xs) (passes a w holds ∙ sooner-takes (moment w) a later) ∙ stays xs (moment w) (λ y h. least y (Contains-cons x y xs h)))
        | inr rest ↦ by_later xs (pass a x) w rest holds (λ y h. least y (Contains-cons x y xs h)) (pass-later (moment w) a x (least x (Contains-head x xs)) later)
      ]

  -- one passes, and no other that passes is sooner
  pub soonest-Some : (xs : List X) (w : X) → Contains xs w → test w ≡ true → ((x : X) → Contains xs x → test x ≡ true → moment w ≤ moment x) → fold (λ least x. cond (test x) (sooner least (moment x)) least) None xs ≡ Some (moment w)
  soonest-Some xs w there holds least = by_later xs None w there holds least tt
