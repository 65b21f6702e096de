-- Where one of a list goes before all others, it is the first of the list in its order, and the others follow in theirs.
use Rattle.std.proofs.Common.{◌≡◌, ◌∙◌, ◌&&◌, ◌⊎◌, ℕ, suc, ◌<◌, Bool, true, false, cond, List, [], ◌∷◌, filter, fold, map, refl, sym, ap, subst, inl, inr, arith}
use Rattle.std.specs.Ordering.{nat_cmp}
use Rattle.std.specs.Cmp.{IsStrictWeakOrder}
use Rattle.wm_views.specs.Sorted.{put_in, sorted}
use Rattle.wm_desc.specs.Sorted.{IsSortedOnce}
use Rattle.wm_law.specs.Laws.{IsIn}
use Rattle.wm_jobs.proofs.Splits.{above-head}
use Rattle.wm_views.proofs.Stable.{Up, AllFrom, ins, put_is_ins, up_ins, never_less}
use Rattle.wm_law.proofs.Members.{All-in}

module _ {E : Type 0} (lt : E → E → Bool) (o : IsStrictWeakOrder lt) (m : E) where
  -- it goes before each of them
  abbrev pub AllBehind : List E → Type 0
  AllBehind [] = Unit {0}
  AllBehind (x ∷ xs) = (lt m x ≡ true) × AllBehind xs

  -- it stands there once, and goes before each of the others
  abbrev pub IsFirst : List E → Type 0
  IsFirst [] = ⊥
  IsFirst (x ∷ xs) = ((x ≡ m) × AllBehind xs) ⊎ ((lt m x ≡ true) × IsFirst xs)

  all_kept : (xs : List E) → AllBehind xs → filter (lt m) xs ≡ xs
  all_kept [] h = refl
  all_kept (x ∷ xs) h = ap (λ (b : Bool). cond b (x ∷ filter (lt m) xs) (filter (lt m) xs)) h.0 ∙ ap (λ (l : List E). x ∷ l) (all_kept xs h.1)

  from_behind : (xs : List E) → AllBehind xs → AllFrom lt m xs
  from_behind [] h = tt
  from_behind (x ∷ xs) h = (o.one_way m x h.0, from_behind xs h.1)

  behind_by : (b : Bool) (x y : E) (ys : List E) → lt m x ≡ true → AllBehind (y ∷ ys) → AllBehind (ins lt x ys) → AllBehind (cond b (x ∷ y ∷ ys) (y ∷ ins lt x ys))
  behind_by true x y ys h all rest = (h, all)
  behind_by false x y ys h all rest = (all.0, rest)

  behind_ins : (x : E) (ys : List E) → lt m x ≡ true → AllBehind ys → AllBehind (ins lt x ys)
  behind_ins x [] h all = (h, tt)
  behind_ins x (y ∷ ys) h all = behind_by (lt x y) x y ys h all (behind_ins x ys h all.1)

  ins_first : (ys : List E) → AllBehind ys → ins lt m ys ≡ m ∷ ys
  ins_first [] h = refl
  ins_first (y ∷ ys) h = ap (λ (b : Bool). cond b (m ∷ y ∷ ys) (y ∷ ins lt m ys)) h.0

  up_first : (ys : List E) → Up lt ys → AllBehind ys → Up lt (m ∷ ys)
  up_first ys up h = (from_behind ys h, up)

  up_put : (x : E) (ys : List E) → Up lt ys → Up lt (put_in lt ys x)
  up_put x ys up = subst (Up lt) (sym (put_is_ins lt o x ys up)) (up_ins lt o x ys up)

  behind_put : (x : E) (ys : List E) → Up lt ys → lt m x ≡ true → AllBehind ys → AllBehind (put_in lt ys x)
  behind_put x ys up h all = subst AllBehind (sym (put_is_ins lt o x ys up)) (behind_ins x ys h all)

  -- what comes later goes behind it
  put_behind : (x : E) (ys : List E) → Up lt ys → lt m x ≡ true → AllBehind ys → put_in lt (m ∷ ys) x ≡ m ∷ put_in lt ys x
  put_behind x ys up h all =
      put_is_ins lt o x (m ∷ ys) (up_first ys up all)
      ∙ ap (λ (b : Bool). cond b (x ∷ m ∷ ys) (m ∷ ins lt x ys)) (o.one_way m x h)
      ∙ ap (λ (l : List E). m ∷ l) (sym (put_is_ins lt o x ys up))

  stays_first : (ys xs : List E) → Up lt ys → AllBehind ys → AllBehind xs → fold (put_in lt) (m ∷ ys) xs ≡ m ∷ fold (put_in lt) ys xs
  stays_first ys [] up all h = refl
  stays_first ys (x ∷ xs) up all h =
      ap (λ (l : List E). fold (put_in lt) l xs) (put_behind x ys up h.0 all)
      ∙ stays_first (put_in lt ys x) xs (up_put x ys up) (behind_put x ys up h.0 all) h.1

  comes_first : (ys xs : List E) → Up lt ys → AllBehind ys → IsFirst xs → fold (put_in lt) ys xs ≡ m ∷ fold (put_in lt) ys (filter (lt m) xs)
  comes_first ys [] up all h = absurd h
  comes_first ys (x ∷ xs) up all (inl h) =
      let here : put_in lt ys m ≡ m ∷ ys = put_is_ins lt o m ys up ∙ ins_first ys all in
      let itself : filter (lt m) (m ∷ xs) ≡ xs = ap (λ (b : Bool). cond b (m ∷ filter (lt m) xs) (filter (lt m) xs)) (never_less lt o m) ∙ all_kept xs h.1 in
      ap (λ (z : E). fold (put_in lt) ys (z ∷ xs)) h.0
      ∙ ap (λ (l : List E). fold (put_in lt) l xs) here
      ∙ stays_first ys xs up all h.1
      ∙ sym (ap (λ (l : List E). m ∷ fold (put_in lt) ys l) (ap (λ (z : E). filter (lt m) (z ∷ xs)) h.0 ∙ itself))
  comes_first ys (x ∷ xs) up all (inr h) =
      comes_first (put_in lt ys x) xs (up_put x ys up) (behind_put x ys up h.0 all) h.1
      ∙ sym (ap (λ (b : Bool). m ∷ fold (put_in lt) ys (cond b (x ∷ filter (lt m) xs) (filter (lt m) xs))) h.0)

  pub first_then : (xs : List E) → IsFirst xs → sorted lt xs ≡ m ∷ sorted lt (filter (lt m) xs)
  first_then xs h = comes_first [] xs tt tt h

-- of a sorted list of which some are kept, each as something, one comes first
module _ {X E : Type 0} (serial : X → ℕ) (f : X → E) (lt : E → E → Bool) (o : IsStrictWeakOrder lt) (kept : X → Bool) (m : X) where
  more_behind : (b : Bool) (x : X) (xs : List E) → (b ≡ true → lt (f m) (f x) ≡ true) → AllBehind lt o (f m) xs → AllBehind lt o (f m) (cond b (f x ∷ xs) xs)
  more_behind true x xs h rest = (h refl, rest)
  more_behind false x xs h rest = rest

  more_first : (b : Bool) (x : X) (xs : List E) → (b ≡ true → lt (f m) (f x) ≡ true) → IsFirst lt o (f m) xs → IsFirst lt o (f m) (cond b (f x ∷ xs) xs)
  more_first true x xs h rest = inr (h refl, rest)
  more_first false x xs h rest = rest

  mapped_by : (b : Bool) (x : X) (xs : List X) → map f (cond b (x ∷ xs) xs) ≡ cond b (f x ∷ map f xs) (map f xs)
  mapped_by true x xs = refl
  mapped_by false x xs = refl

  all_behind : (xs : List X) → ((x : X) → IsIn x xs → kept x ≡ true → lt (f m) (f x) ≡ true) → AllBehind lt o (f m) (map f (filter kept xs))
  all_behind [] h = tt
  all_behind (x ∷ xs) h = subst (AllBehind lt o (f m)) (sym (mapped_by (kept x) x (filter kept xs))) (more_behind (kept x) x (map f (filter kept xs)) (h x (inl refl)) (all_behind xs (λ y i. h y (inr i))))

  here_first : (b : Bool) (x : X) (xs : List E) → b ≡ true → m ≡ x → AllBehind lt o (f m) xs → IsFirst lt o (f m) (cond b (f x ∷ xs) xs)
  here_first true x xs e same rest = inl (ap f (sym same), rest)
  here_first false x xs e same rest = absurd (cc e)

  is_first : (xs : List X) → IsSortedOnce serial nat_cmp xs → IsIn m xs → kept m ≡ true → ((x : X) → IsIn x xs → (serial m ≡ serial x → ⊥) → kept x ≡ true → lt (f m) (f x) ≡ true) → IsFirst lt o (f m) (map f (filter kept xs))
  is_first [] order i k h = absurd i
  is_first (x ∷ xs) order (inl e) k h =
      subst (IsFirst lt o (f m)) (sym (mapped_by (kept x) x (filter kept xs)))
      (here_first (kept x) x (map f (filter kept xs)) (ap kept (sym e) ∙ k) e
      (all_behind xs (λ y i. h y (inr i) (λ same. let up : serial x < serial y = All-in (λ (z : X). serial x < serial z) xs y (above-head serial 0 x xs order) i in let at = ap serial e in omega (arith, up, at, same)))))
  is_first (x ∷ xs) order (inr i) k h =
      let up : serial x < serial m = All-in (λ (z : X). serial x < serial z) xs m (above-head serial 0 x xs order) i in
      subst (IsFirst lt o (f m)) (sym (mapped_by (kept x) x (filter kept xs)))
      (more_first (kept x) x (map f (filter kept xs)) (h x (inl refl) (λ same. omega (arith, up, same)))
      (is_first xs (λ a b d less in_range. order (suc a) (suc b) d (omega arith) (omega arith)) i k (λ y j. h y (inr j))))

  rest_by : (b : Bool) (x : X) (xs : List X) (ys : List E) → filter (lt (f m)) (map f xs) ≡ ys → filter (lt (f m)) (map f (cond b (x ∷ xs) xs)) ≡ cond (b && lt (f m) (f x)) (f x ∷ ys) ys
  rest_by true x xs ys h = ap (λ (l : List E). cond (lt (f m) (f x)) (f x ∷ l) l) h
  rest_by false x xs ys h = h

  rest_is : (left : X → Bool) (xs : List X) → ((x : X) → IsIn x xs → (kept x && lt (f m) (f x)) ≡ left x) → filter (lt (f m)) (map f (filter kept xs)) ≡ map f (filter left xs)
  rest_is left [] h = refl
  rest_is left (x ∷ xs) h =
      rest_by (kept x) x (filter kept xs) (map f (filter left xs)) (rest_is left xs (λ y i. h y (inr i)))
      ∙ ap (λ (b : Bool). cond b (f x ∷ map f (filter left xs)) (map f (filter left xs))) (h x (inl refl))
      ∙ sym (mapped_by (left x) x (filter left xs))

  -- it is the first of them in their order, and those that are left follow in theirs
  pub one_then : (left : X → Bool) (xs : List X) → IsSortedOnce serial nat_cmp xs → IsIn m xs → kept m ≡ true
      → ((x : X) → IsIn x xs → (serial m ≡ serial x → ⊥) → kept x ≡ true → lt (f m) (f x) ≡ true)
      → ((x : X) → IsIn x xs → (kept x && lt (f m) (f x)) ≡ left x)
      → sorted lt (map f (filter kept xs)) ≡ f m ∷ sorted lt (map f (filter left xs))
  one_then left xs order i k first rest =
      first_then lt o (f m) (map f (filter kept xs)) (is_first xs order i k first)
      ∙ ap (λ (l : List E). f m ∷ sorted lt l) (rest_is left xs rest)
