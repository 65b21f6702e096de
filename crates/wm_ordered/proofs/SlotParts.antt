-- Slots before a place, there and behind it, and their pairs.
use Rattle.std.proofs.Common.{◌≡◌, ℕ, zero, suc, ◌+◌, ◌<◌, ◌≤◌, List, [], ◌∷◌, ◌++◌, length, get_or, set, take, drop, All, Some, None, Option, option_map, is_some, filter, if◌then◌else◌, refl, ap, sym, subst, arith, length-take, length-drop, get_or-take, get_or-drop}
use Rattle.std.specs.List.{AllWithin, cons_option}
use Rattle.wm_ordered.specs.declared.slot.Slot.{Slot}
use Rattle.wm_ordered.specs.Slots.{pairs_in}

module _ {X : Type 0} where
  pub split : (xs : List X) (i : ℕ) (d : X) → i < length xs → xs ≡ take i xs ++ get_or xs i d ∷ drop (suc i) xs
  split [] i d lt = absurd (omega arith)
  split (x ∷ xs) zero d lt = refl
  split (x ∷ xs) (suc i) d lt = ap (λ ys. x ∷ ys) (split xs i d (omega arith))

  pub split-set : (xs : List X) (i : ℕ) (y : X) → i < length xs → set xs i y ≡ take i xs ++ y ∷ drop (suc i) xs
  split-set [] i y lt = absurd (omega arith)
  split-set (x ∷ xs) zero y lt = refl
  split-set (x ∷ xs) (suc i) y lt = ap (λ ys. x ∷ ys) (split-set xs i y (omega arith))

  pub all_taken : (P : X → Type 0) (xs : List X) (i : ℕ) → i ≤ length xs → AllWithin P xs 0 i → All P (take i xs)
  all_taken P xs i le all j d lt =
      let below : j < i = omega (arith, length-take i xs) in
      subst P (sym (get_or-take i xs j d below)) (all j d (omega arith) below)

  pub all_dropped : (P : X → Type 0) (xs : List X) (i : ℕ) → i ≤ length xs → AllWithin P xs i (length xs) → All P (drop i xs)
  all_dropped P xs i le all j d lt = subst P (sym (get_or-drop i xs j d)) (all (i + j) d (omega arith) (omega (arith, length-drop i xs)))

module _ {V : Type 0} where
  kept_pairs : (s : Slot V) (o : Option V) (ys : List (Slot V)) (zs : List (ℕ × V)) → s.value ≡ o → pairs_in ys ≡ zs → pairs_in (if is_some o then s ∷ ys else ys) ≡ cons_option (option_map (λ v. (s.serial, v)) o) zs
  kept_pairs s None ys zs is h = h
  kept_pairs s (Some v) ys zs is h = rw is (ap (λ l. (s.serial, v) ∷ l) h)

  pub pairs-full : (xs : List (Slot V)) → pairs_in (filter (λ s. is_some s.value) xs) ≡ pairs_in xs
  pairs-full [] = refl
  pairs-full (s ∷ xs) = kept_pairs s s.value (filter (λ s. is_some s.value) xs) (pairs_in xs) refl (pairs-full xs)

  kept_length : (s : Slot V) (o : Option V) (ys : List (Slot V)) → s.value ≡ o → length ys ≡ length (pairs_in ys) → length (if is_some o then s ∷ ys else ys) ≡ length (pairs_in (if is_some o then s ∷ ys else ys))
  kept_length s None ys is h = h
  kept_length s (Some v) ys is h = rw is (ap suc h)

  pub length-full : (xs : List (Slot V)) → length (filter (λ s. is_some s.value) xs) ≡ length (pairs_in (filter (λ s. is_some s.value) xs))
  length-full [] = refl
  length-full (s ∷ xs) = kept_length s s.value (filter (λ s. is_some s.value) xs) refl (length-full xs)
