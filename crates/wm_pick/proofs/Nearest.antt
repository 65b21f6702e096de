-- The job of least place.
use Rattle.std.proofs.Common.{◌≡◌, ◌⊎◌, ℕ, ◌≤◌, Bool, true, false, cond, List, [], ◌∷◌, Option, Some, None, filter, fold, nat_lt, refl, sym, ap, subst, ◌∙◌, inl, inr, arith}
use Rattle.std.proofs.lemmas.Bool.Decides.{nat_tests}
use Rattle.std.proofs.lemmas.Bool.{ltb-false}
use Rattle.wm_law.specs.declared.job.Job.{Job}
use Rattle.wm_law.specs.Laws.{IsIn}
use Rattle.wm_pick.specs.Heads.{nearer}

less_by : (a b : ℕ) → nat_lt a b ≡ true → a ≤ b
less_by a b h = grind (arith, nat_tests)

-- which of two is kept
record IsNearer (best : Option Job) (x m : Job) : Type 0 where
  pub kept : nearer best x ≡ Some m
  pub there : (best ≡ Some m) ⊎ (m ≡ x)
  pub before_best : (b : Job) → best ≡ Some b → m.place ≤ b.place
  pub before_other : m.place ≤ x.place

of_two : (b x : Job) (t : Bool) → nat_lt x.place b.place ≡ t → (m : Job) × (cond t (Some x) (Some b) ≡ Some m) × ((m ≡ b) ⊎ (m ≡ x)) × (m.place ≤ b.place) × (m.place ≤ x.place)
of_two b x true e = (x, refl, inr refl, less_by x.place b.place e, omega arith)
of_two b x false e = (b, refl, inl refl, omega arith, ltb-false x.place b.place e)

kept_one : (b x m : Job) → ((m ≡ b) ⊎ (m ≡ x)) → (Some b ≡ Some m) ⊎ (m ≡ x)
kept_one b x m (inl e) = inl (ap (λ (j : Job). Some j) (sym e))
kept_one b x m (inr e) = inr e

before_this : (b c m : Job) → Some b ≡ Some c → m.place ≤ b.place → m.place ≤ c.place
before_this b c m e h = let same : b ≡ c = cc in subst (λ (j : Job). m.place ≤ j.place) same h

is_nearer : (best : Option Job) (x : Job) → (m : Job) × IsNearer best x m
is_nearer None x = (x, record { kept = refl; there = inr refl; before_best = λ b e. absurd (cc); before_other = omega arith })
is_nearer (Some b) x =
    let t = of_two b x (nat_lt x.place b.place) refl in
    (t.0, record { kept = t.1; there = kept_one b x t.0 t.2; before_best = λ c e. before_this b c t.0 e t.3; before_other = t.4 })

-- the job is the best so far or stands in the list, and none of these has a lesser place
pub record IsNearest (best : Option Job) (xs : List Job) (j : Job) : Type 0 where
  pub there : (best ≡ Some j) ⊎ IsIn j xs
  pub before_best : (b : Job) → best ≡ Some b → j.place ≤ b.place
  pub before_others : (k : Job) → IsIn k xs → j.place ≤ k.place

there_by : (x : Job) (xs : List Job) (best : Option Job) (m j : Job) → IsNearer best x m → ((nearer best x ≡ Some j) ⊎ IsIn j xs) → (best ≡ Some j) ⊎ IsIn j (x ∷ xs)
there_by x xs best m j n (inr i) = inr (inr i)
there_by x xs best m j n (inl e) =
    let whole : Some m ≡ Some j = sym n.kept ∙ e in
    let same : m ≡ j = cc in
    elim n.there as (λ _. (best ≡ Some j) ⊎ IsIn j (x ∷ xs)) [
      | inl b ↦ inl (b ∙ ap (λ (k : Job). Some k) same)
      | inr o ↦ inr (inl (sym same ∙ o))
    ]

before_all : (x : Job) (xs : List Job) (j m k : Job) → j.place ≤ m.place → m.place ≤ x.place → ((k : Job) → IsIn k xs → j.place ≤ k.place) → IsIn k (x ∷ xs) → j.place ≤ k.place
before_all x xs j m k a b rest (inl same) =
    let level : k.place ≡ x.place = ap (λ (i : Job). i.place) same in
    omega arith
before_all x xs j m k a b rest (inr i) = rest k i

pub nearest : (xs : List Job) (best : Option Job) (j : Job) → fold nearer best xs ≡ Some j → IsNearest best xs j
nearest [] best j e = record { there = inl e; before_best = λ b h. before_this j b j (sym e ∙ h) (omega arith); before_others = λ k i. absurd i }
nearest (x ∷ xs) best j e =
    let n = is_nearer best x in
    let r = nearest xs (nearer best x) j e in
    let first : j.place ≤ n.0.place = r.before_best n.0 n.1.kept in
    record {
      there = there_by x xs best n.0 j n.1 r.there;
      before_best = λ b h. let second : n.0.place ≤ b.place = n.1.before_best b h in omega arith;
      before_others = λ k i. before_all x xs j n.0 k first n.1.before_other r.before_others i;
    }

none_begun : (xs : List Job) (best : Option Job) (b : Job) → best ≡ Some b → fold nearer best xs ≡ None → ⊥
none_begun [] best b h e = cc
none_begun (x ∷ xs) best b h e = let n = is_nearer best x in none_begun xs (nearer best x) n.0 n.1.kept e

-- where there is no nearest, there is no job
pub none_nearest : (xs : List Job) → fold nearer None xs ≡ None → (k : Job) → IsIn k xs → ⊥
none_nearest [] e k i = i
none_nearest (x ∷ xs) e k i = none_begun xs (Some x) x refl e

passes_by : (p : Job → Bool) (t : Bool) (z x : Job) (xs : List Job) → p z ≡ t → (IsIn x xs → p x ≡ true) → IsIn x (cond t (z ∷ xs) xs) → p x ≡ true
passes_by p true z x xs h rest (inl e) = ap p e ∙ h
passes_by p true z x xs h rest (inr i) = rest i
passes_by p false z x xs h rest i = rest i

-- what a filter leaves passes the test
pub passes : (p : Job → Bool) (xs : List Job) (x : Job) → IsIn x (filter p xs) → p x ≡ true
passes p [] x i = absurd i
passes p (z ∷ xs) x i = passes_by p (p z) z x (filter p xs) refl (passes p xs x) i
