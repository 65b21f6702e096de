-- Two parts of a list, and what was done at each place.
use Rattle.std.proofs.Common.{◌≡◌, ℕ, suc, ◌<◌, List, [], ◌∷◌, ◌++◌, get_or, length, subst, arith}
use Rattle.std.specs.List.{AllZip}

module _ {X : Type 0} (R : X → X → Type 0) where
  -- what holds of the values that a call was given and left holds of those that stood there
  pub related : {a b x y : X} → a ≡ x → b ≡ y → R a b → R x y
  related {a} {b} {x} {y} p q r = subst (λ u. R u y) p (subst (λ v. R a v) q r)

  pub zip_places : (xs ys : List X) → length ys ≡ length xs → ((i : ℕ) (d : X) → i < length xs → R (get_or xs i d) (get_or ys i d)) → AllZip R xs ys
  zip_places [] [] len h = tt
  zip_places [] (y ∷ ys) len h = absurd (omega arith)
  zip_places (x ∷ xs) [] len h = absurd (omega arith)
  zip_places (x ∷ xs) (y ∷ ys) len h = (h 0 x (omega arith), zip_places xs ys (omega arith) (λ i d lt. h (suc i) d (omega arith)))

  pub zip_parts : (ps qs cs ds : List X) → AllZip R ps qs → AllZip R cs ds → AllZip R (ps ++ cs) (qs ++ ds)
  zip_parts [] [] cs ds h k = k
  zip_parts [] (q ∷ qs) cs ds h k = absurd h
  zip_parts (p ∷ ps) [] cs ds h k = absurd h
  zip_parts (p ∷ ps) (q ∷ qs) cs ds h k = (h.0, zip_parts ps qs cs ds h.1 k)
