-- The two sides of an element in a list whose pairs all meet a relation.
use Rattle.std.proofs.Common.{◌≡◌, ℕ, suc, ◌+◌, ◌<◌, Bool, true, false, cond, List, ◌∷◌, ◌++◌, length, get_or, All, AllPairs, map, ap, sym, refl, ◌∙◌, subst, arith, length-append, get_or-append-add}
use Rattle.std.proofs.lemmas.List.{get_or_append_left, get_or-map, length-map}
use lib.Seq.{get_or-append_seam}

-- what each side is, and how it stands to the element between
pub record Sides {X : Type 0} (R : X → X → Type 0) (l : List X) (e : X) (r : List X) : Type 0 where
  pub left : AllPairs R l
  pub right : AllPairs R r
  pub below : All (λ x. R x e) l
  pub above : All (λ x. R e x) r

module _ {X : Type 0} (R : X → X → Type 0) where
  module _ (l : List X) (e : X) (r : List X) where
    before : (j : ℕ) (d : X) → j < length l → get_or (l ++ e ∷ r) j d ≡ get_or l j d
    before j d lt = get_or_append_left l (e ∷ r) d j lt

    seam : (d : X) → get_or (l ++ e ∷ r) (length l) d ≡ e
    seam d = get_or-append_seam l e r d

    after : (j : ℕ) (d : X) → get_or (l ++ e ∷ r) (length l + suc j) d ≡ get_or r j d
    after j d = get_or-append-add l (e ∷ r) (suc j) d

    long : length (l ++ e ∷ r) ≡ length l + suc (length r)
    long = length-append l (e ∷ r)

    pair : (i j : ℕ) (d x y : X) → get_or (l ++ e ∷ r) i d ≡ x → get_or (l ++ e ∷ r) j d ≡ y → i < j → j < length (l ++ e ∷ r) → AllPairs R (l ++ e ∷ r) → R x y
    pair i j d x y a b lt in_range all =
        subst (λ u. R u y) a (subst (λ u. R (get_or (l ++ e ∷ r) i d) u) b (all i j d lt in_range))

    pub sides : AllPairs R (l ++ e ∷ r) → Sides R l e r
    sides all = record {
      left = λ i j d lt b. pair i j d _ _ (before i d (omega arith)) (before j d b) lt (omega (arith, long)) all;
      right = λ i j d lt b. pair (length l + suc i) (length l + suc j) d _ _ (after i d) (after j d) (omega arith) (omega (arith, long)) all;
      below = λ j d b. pair j (length l) d _ _ (before j d b) (seam d) b (omega (arith, long)) all;
      above = λ j d b. pair (length l) (length l + suc j) d _ _ (seam d) (after j d) (omega arith) (omega (arith, long)) all;
    }

-- what a relation of keys holds of, it holds of with other values at these keys
module _ {K V : Type 0} (R : K → K → Type 0) (f : K × V → K × V) (same : (x : K × V) → (f x).0 ≡ x.0) where
  all_pairs_map : (xs : List (K × V)) → AllPairs (λ x y. R x.0 y.0) xs → AllPairs (λ x y. R x.0 y.0) (map f xs)
  all_pairs_map xs all i j d lt b =
      let n = length-map xs f in
      subst (λ k. R k (get_or (map f xs) j d).0) (sym (key_at i (omega arith))) (subst (λ k. R (get_or xs i d).0 k) (sym (key_at j (omega arith))) (all i j d lt (omega arith)))
    where
      key_at : (k : ℕ) → k < length xs → (get_or (map f xs) k d).0 ≡ (get_or xs k d).0
      key_at k below = ap (λ x. x.0) (get_or-map f xs k d d below) ∙ same (get_or xs k d)

own_key : {K V : Type 0} (b : Bool) (x : K × V) (v : V) → (cond b (x.0, v) x).0 ≡ x.0
own_key true x v = refl
own_key false x v = refl

-- another value at a key leaves the order as it was
pub all_pairs_with_value : {K V : Type 0} (R : K → K → Type 0) (p : K → Bool) (v : V) (xs : List (K × V)) → AllPairs (λ x y. R x.0 y.0) xs → AllPairs (λ x y. R x.0 y.0) (map (λ x. cond (p x.0) (x.0, v) x) xs)
all_pairs_with_value R p v xs all = all_pairs_map R (λ x. cond (p x.0) (x.0, v) x) (λ x. own_key (p x.0) x v) xs all
