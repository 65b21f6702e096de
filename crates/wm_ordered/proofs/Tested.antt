-- What a test finds and leaves out of a list, where it is known on both sides of an element.
use Rattle.std.proofs.Common.{◌≡◌, Bool, true, false, not, cond, List, [], ◌∷◌, ◌++◌, All, map, filter, find, Option, Some, None, option_map, is_some, slice_get, refl, ap, ◌∙◌, arith}
use Rattle.std.specs.List.{list_any}
use Rattle.std.specs.Option.{option_or}
use Rattle.std.proofs.lemmas.Bool.{or_parts}
use Rattle.std.proofs.lemmas.List.Elements.{All-head, All-tail, All-cons, AllWithin-from_all, filter-append}
use Rattle.std.proofs.lemmas.List.Folds.{find-append}
use Rattle.wm_desc.proofs.Places.{find-none, filter-none, list_any-find}

module _ {X : Type 0} (p : X → Bool) where
  abbrev Fails : X → Type 0
  Fails x = p x ≡ false

  pub fails-none : (xs : List X) → list_any p xs ≡ false → All (λ x. p x ≡ false) xs
  fails-none [] none = λ k d lt. absurd (omega arith)
  fails-none (x ∷ xs) none = All-cons Fails x xs (or_parts (p x) (list_any p xs) none).0 (fails-none xs (or_parts (p x) (list_any p xs) none).1)

  none_found : (xs : List X) → All (λ x. p x ≡ false) xs → find p xs ≡ None
  none_found xs none = find-none p xs (AllWithin-from_all Fails xs none)

  all_kept : (xs : List X) → All (λ x. p x ≡ false) xs → filter (λ x. not (p x)) xs ≡ xs
  all_kept xs none = filter-none p xs (AllWithin-from_all Fails xs none)

  pub find-right : (l : List X) (e : X) (r : List X) → All (λ x. p x ≡ false) l → p e ≡ false → find p (l ++ e ∷ r) ≡ find p r
  find-right [] e r none here = rw here refl
  find-right (x ∷ l) e r none here = rw (All-head Fails x l none) (find-right l e r (All-tail Fails x l none) here)

  pub find-left : (l : List X) (e : X) (r : List X) → p e ≡ false → All (λ x. p x ≡ false) r → find p (l ++ e ∷ r) ≡ find p l
  find-left [] e r here none = rw here (none_found r none)
  find-left (x ∷ l) e r here none = ap (λ o. cond (p x) (Some x) o) (find-left l e r here none)

  pub find-here : (l : List X) (e : X) (r : List X) → All (λ x. p x ≡ false) l → p e ≡ true → find p (l ++ e ∷ r) ≡ Some e
  find-here [] e r none here = rw here refl
  find-here (x ∷ l) e r none here = rw (All-head Fails x l none) (find-here l e r (All-tail Fails x l none) here)

  found_here : (e : X) (r : List X) → p e ≡ true → find p (e ∷ r) ≡ Some e
  found_here e r here = rw here refl

  pub find-left_or : (l : List X) (e : X) (r : List X) → p e ≡ true → find p (l ++ e ∷ r) ≡ option_or (find p l) (Some e)
  find-left_or l e r here = find-append p l (e ∷ r) ∙ ap (λ o. option_or (find p l) o) (found_here e r here)

  pub filter-right : (l : List X) (e : X) (r : List X) → All (λ x. p x ≡ false) l → p e ≡ false → filter (λ x. not (p x)) (l ++ e ∷ r) ≡ l ++ e ∷ filter (λ x. not (p x)) r
  filter-right [] e r none here = rw here refl
  filter-right (x ∷ l) e r none here = rw (All-head Fails x l none) (ap (λ ys. x ∷ ys) (filter-right l e r (All-tail Fails x l none) here))

  kept_here : (e : X) (r : List X) → p e ≡ false → All (λ x. p x ≡ false) r → filter (λ x. not (p x)) (e ∷ r) ≡ e ∷ r
  kept_here e r here none = rw here (ap (λ ys. e ∷ ys) (all_kept r none))

  pub filter-left : (l : List X) (e : X) (r : List X) → p e ≡ false → All (λ x. p x ≡ false) r → filter (λ x. not (p x)) (l ++ e ∷ r) ≡ filter (λ x. not (p x)) l ++ e ∷ r
  filter-left l e r here none = filter-append (λ x. not (p x)) l (e ∷ r) ∙ ap (λ ys. filter (λ x. not (p x)) l ++ ys) (kept_here e r here none)

  pub filter-here : (l : List X) (e : X) (r : List X) → All (λ x. p x ≡ false) l → p e ≡ true → All (λ x. p x ≡ false) r → filter (λ x. not (p x)) (l ++ e ∷ r) ≡ l ++ r
  filter-here [] e r low here high = rw here (all_kept r high)
  filter-here (x ∷ l) e r low here high = rw (All-head Fails x l low) (ap (λ ys. x ∷ ys) (filter-here l e r (All-tail Fails x l low) here high))

  -- one element changes, and the others stay
  module _ (g : X → X) where
    pub all_same : (xs : List X) → All (λ x. p x ≡ false) xs → map (λ x. cond (p x) (g x) x) xs ≡ xs
    all_same [] none = refl
    all_same (x ∷ xs) none = rw (All-head Fails x xs none) (ap (λ ys. x ∷ ys) (all_same xs (All-tail Fails x xs none)))

    pub map-right : (l : List X) (e : X) (r : List X) → All (λ x. p x ≡ false) l → p e ≡ false → map (λ x. cond (p x) (g x) x) (l ++ e ∷ r) ≡ l ++ e ∷ map (λ x. cond (p x) (g x) x) r
    map-right [] e r none here = rw here refl
    map-right (x ∷ l) e r none here = rw (All-head Fails x l none) (ap (λ ys. x ∷ ys) (map-right l e r (All-tail Fails x l none) here))

    pub map-left : (l : List X) (e : X) (r : List X) → p e ≡ false → All (λ x. p x ≡ false) r → map (λ x. cond (p x) (g x) x) (l ++ e ∷ r) ≡ map (λ x. cond (p x) (g x) x) l ++ e ∷ r
    map-left [] e r here none = rw here (ap (λ ys. e ∷ ys) (all_same r none))
    map-left (x ∷ l) e r here none = ap (λ ys. cond (p x) (g x) x ∷ ys) (map-left l e r here none)

    pub map-here : (l : List X) (e : X) (r : List X) → All (λ x. p x ≡ false) l → p e ≡ true → All (λ x. p x ≡ false) r → map (λ x. cond (p x) (g x) x) (l ++ e ∷ r) ≡ l ++ g e ∷ r
    map-here [] e r low here high = rw here (ap (λ ys. g e ∷ ys) (all_same r high))
    map-here (x ∷ l) e r low here high = rw (All-head Fails x l low) (ap (λ ys. x ∷ ys) (map-here l e r (All-tail Fails x l low) here high))

some_part : {X Y : Type 0} (f : X → Y) (found : Option X) → is_some found ≡ is_some (option_map f found)
some_part f None = refl
some_part f (Some x) = refl

-- whether an element passes is whether a part of the found one is there
pub list_any-part : {X Y : Type 0} (p : X → Bool) (f : X → Y) (xs : List X) → list_any p xs ≡ is_some (option_map f (find p xs))
list_any-part p f xs = list_any-find p xs ∙ some_part f (find p xs)

-- the first of what lies around an element
pub slice_get-left_or : {X : Type 0} (l : List X) (e : X) (r : List X) → slice_get (l ++ e ∷ r) 0 ≡ option_or (slice_get l 0) (Some e)
slice_get-left_or [] e r = refl
slice_get-left_or (x ∷ l) e r = refl
