-- Lists in the order of a number.
use Rattle.std.proofs.Common.{◌≡◌, ℕ, ◌<◌, ◌+◌, List, [], ◌∷◌, length, slice_index_or, sym, ap, subst, ◌∙◌, inl, inr, arith}
use Rattle.std.specs.Prelude.{⊤}
use Rattle.std.specs.Ordering.{nat_cmp}
use Rattle.std.specs.declared.cmp.Ordering.TheVariants.{Less}
use Rattle.std.proofs.lemmas.Grind.{common_steps}
use Rattle.wm_base.proofs.Orderings.{lt-Less}
use Rattle.wm_desc.specs.Sorted.{IsSortedOnce}
use Rattle.wm_law.specs.Laws.{IsIn}

-- each element's number is below those of the elements behind it
abbrev pub IsAscending : {X : Type 0} → (X → ℕ) → List X → Type 0
IsAscending key [] = ⊤
IsAscending {X} key (x ∷ xs) = ((y : X) → IsIn y xs → key x < key y) × IsAscending key xs

module _ {X : Type 0} where
  behind : (x : X) (xs : List X) (k : ℕ) (d : X) → slice_index_or (x ∷ xs) (k + 1) d ≡ slice_index_or xs k d
  behind x xs k d = grind (arith, common_steps)

  longer : (x : X) (xs : List X) → length (x ∷ xs) ≡ length xs + 1
  longer x xs = grind (arith, common_steps)

  -- where an element stands
  place : (y : X) (xs : List X) → IsIn y xs → (k : ℕ) × (k < length xs) × (slice_index_or xs k y ≡ y)
  place y [] i = absurd i
  place y (x ∷ xs) (inl e) = let more = longer x xs in (0, omega arith, sym e)
  place y (x ∷ xs) (inr i) =
      let p = place y xs i in
      let more = longer x xs in
      let less : p.0 < length xs = p.1 in
      (p.0 + 1, omega arith, behind x xs p.0 y ∙ p.2)

  module _ (key : X → ℕ) where
    pub rest_sorted : (x : X) (xs : List X) → IsSortedOnce key nat_cmp (x ∷ xs) → IsSortedOnce key nat_cmp xs
    rest_sorted x xs s i j d less h =
        let more = longer x xs in
        let whole = s (i + 1) (j + 1) d (omega arith) (omega arith) in
        subst (λ (e : X). nat_cmp (key e) (key (slice_index_or xs j d)) ≡ Less) (behind x xs i d) (subst (λ (e : X). nat_cmp (key (slice_index_or (x ∷ xs) (i + 1) d)) (key e) ≡ Less) (behind x xs j d) whole)

    pub first_less : (x : X) (xs : List X) → IsSortedOnce key nat_cmp (x ∷ xs) → (y : X) → IsIn y xs → key x < key y
    first_less x xs s y i =
        let p = place y xs i in
        let less : p.0 < length xs = p.1 in
        let more = longer x xs in
        let whole = s 0 (p.0 + 1) y (omega arith) (omega arith) in
        lt-Less (key x) (key y) (subst (λ (e : X). nat_cmp (key x) (key e) ≡ Less) (behind x xs p.0 y ∙ p.2) whole)

    -- a sorted list ascends
    pub ascends : (xs : List X) → IsSortedOnce key nat_cmp xs → IsAscending key xs
    ascends [] s = tt
    ascends (x ∷ xs) s = (first_less x xs s, ascends xs (rest_sorted x xs s))

    -- two elements of one number are one
    pub same_numbered : (xs : List X) → IsAscending key xs → (x y : X) → IsIn x xs → IsIn y xs → key x ≡ key y → x ≡ y
    same_numbered [] a x y i j e = absurd i
    same_numbered (z ∷ xs) a x y (inl h) (inl k) e = h ∙ sym k
    same_numbered (z ∷ xs) a x y (inl h) (inr k) e =
        let level : key x ≡ key z = ap key h in
        let more : key z < key y = a.0 y k in
        absurd (omega arith)
    same_numbered (z ∷ xs) a x y (inr h) (inl k) e =
        let level : key y ≡ key z = ap key k in
        let more : key z < key x = a.0 x h in
        absurd (omega arith)
    same_numbered (z ∷ xs) a x y (inr h) (inr k) e = same_numbered xs a.1 x y h k e
