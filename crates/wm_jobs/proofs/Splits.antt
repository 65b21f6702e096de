-- A sorted list around the element of a key, and the change of that element.
use Rattle.std.proofs.Common.{◌≡◌, ℕ, zero, suc, ◌+◌, ◌<◌, Bool, true, false, cond, List, [], ◌∷◌, ◌++◌, length, get_or, set, take, drop, map, Option, Some, None, refl, ap, sym, ◌∙◌, subst, arith, nat_eq, All}
use Rattle.std.specs.List.{find}
use Rattle.std.specs.declared.cmp.Ordering.TheVariants.{Less}
use Rattle.std.specs.Ordering.{nat_cmp, is_eq}
use Rattle.std.proofs.Math.Seq.{split_at}
use Rattle.std.proofs.lemmas.Bool.{eq-eqb}
use Rattle.std.proofs.lemmas.Bool.Decides.{nat_tests}
use Rattle.std.proofs.lemmas.Cmp.{nat_cmp_total}
use Rattle.std.proofs.lemmas.List.{get_or-take, get_or-drop, length-drop, length-take, length-map, map-append}
use Rattle.std.proofs.lemmas.List.Elements.{All-head, All-tail}
use Rattle.std.proofs.lemmas.List.Quantifiers.{all_pairs_push}
use Rattle.wm_base.proofs.Orderings.{lt-Less, Less-lt, eq-Equal, gt-Greater}
use Rattle.wm_base.proofs.Tests.{eqb-lt}
use Rattle.wm_desc.specs.Sorted.{IsSortedOnce}
use Rattle.wm_desc.specs.Place.{IsAt, IsGap}
use Rattle.wm_desc.proofs.Places.{map-one}
use Rattle.wm_desc.proofs.SortedLists.{with_key-at, with_key-gap}
use Rattle.wm_jobs.proofs.Sifted.{higher_differs}

nat_ties : (a b : ℕ) → nat_eq a b ≡ is_eq (nat_cmp a b)
nat_ties a b = grind (arith, nat_tests)

-- a list around its element of a key, with lesser keys before it and greater ones after it
pub record IsSplit {X : Type 0} (serial : X → ℕ) (s : ℕ) (xs l r : List X) (x : X) : Type 0 where
  pub whole : xs ≡ l ++ x ∷ r
  pub here : serial x ≡ s
  pub lower : All (λ y. serial y < s) l
  pub higher : All (λ y. s < serial y) r

module _ {X : Type 0} (serial : X → ℕ) (s : ℕ) where
  pub split-at : (xs : List X) (i : ℕ) (d : X) → IsAt serial nat_cmp s xs i → IsSplit serial s xs (take i xs) (drop (suc i) xs) (get_or xs i d)
  split-at xs i d h = record {
    whole = split_at xs i d h.in_range;
    here = eq-Equal (serial (get_or xs i d)) s (h.here d);
    lower = λ k e lt. (let below : k < i = (let n = length-take i xs in omega arith) in
        rw (get_or-take i xs k e below) (lt-Less (serial (get_or xs k e)) s (h.before k e (omega arith) below)));
    higher = λ k e lt. (let in_range : suc i + k < length xs = (let n = length-drop (suc i) xs in let b = h.in_range in omega arith) in
        rw (get_or-drop (suc i) xs k e) (gt-Greater (serial (get_or xs (suc i + k) e)) s (h.after (suc i + k) e (omega arith) in_range)));
  }

  -- a search finds that element
  pub found-at : (xs : List X) (i : ℕ) (d : X) → IsAt serial nat_cmp s xs i → find (λ y. nat_eq (serial y) s) xs ≡ Some (get_or xs i d)
  found-at xs i d h = with_key-at serial nat_cmp nat_cmp_total s xs i nat_eq nat_ties d h

  pub found-none : (xs : List X) (i : ℕ) → IsGap serial nat_cmp s xs i → find (λ y. nat_eq (serial y) s) xs ≡ None
  found-none xs i h = with_key-gap serial nat_cmp nat_cmp_total s xs i nat_eq nat_ties h

  module _ (change : X → X) where
    pub map-apart : (xs : List X) → All (λ y. nat_eq (serial y) s ≡ false) xs → map (λ y. cond (nat_eq (serial y) s) (change y) y) xs ≡ xs
    map-apart [] all = refl
    map-apart (x ∷ xs) all = rw (All-head (λ y. nat_eq (serial y) s ≡ false) x xs all) (ap (λ ys. x ∷ ys) (map-apart xs (All-tail (λ y. nat_eq (serial y) s ≡ false) x xs all)))

    -- the element is changed in its place
    pub map-split : (xs l r : List X) (x : X) → IsSplit serial s xs l r x → map (λ y. cond (nat_eq (serial y) s) (change y) y) xs ≡ l ++ change x ∷ r
    map-split xs l r x h =
        let f : X → X = λ y. cond (nat_eq (serial y) s) (change y) y in
        let left : map f l ≡ l = map-apart l (λ k d lt. eqb-lt (serial (get_or l k d)) s (h.lower k d lt)) in
        let right : map f r ≡ r = map-apart r (λ k d lt. higher_differs (serial (get_or r k d)) s (h.higher k d lt)) in
        let this : f x ≡ change x = ap (λ b. cond b (change x) x) (eq-eqb (serial x) s h.here) in
        ap (map f) h.whole
        ∙ (map-append f l (x ∷ r)
        ∙ (ap (λ ys. ys ++ f x ∷ map f r) left ∙ (ap (λ y. l ++ y ∷ map f r) this ∙ ap (λ ys. l ++ change x ∷ ys) right)))

    -- an element that stands there is changed in its place
    pub changed-one : (xs : List X) (i : ℕ) (x : X) → IsAt serial nat_cmp s xs i → x ≡ get_or xs i x → set xs i (change x) ≡ map (λ y. cond (nat_eq (serial y) s) (change y) y) xs
    changed-one xs i x h is =
        ap (λ y. set xs i (change y)) is
        ∙ sym (map-one (λ y. nat_eq (serial y) s) change xs i x h.in_range (λ k d le lt. nat_ties (serial (get_or xs k d)) s ∙ ap is_eq (h.before k d le lt)) (λ d. nat_ties (serial (get_or xs i d)) s ∙ ap is_eq (h.here d)) (λ k d le lt. nat_ties (serial (get_or xs k d)) s ∙ ap is_eq (h.after k d le lt)))

    -- none has the key, and none is changed
    pub map-gap : (xs : List X) (i : ℕ) → IsGap serial nat_cmp s xs i → map (λ y. cond (nat_eq (serial y) s) (change y) y) xs ≡ xs
    map-gap xs i h = map-apart xs (λ k d lt. none k d lt (find_none xs (found-none xs i h)))
      where
        first-none : (b : Bool) (x : X) (o : Option X) → cond b (Some x) o ≡ None → (b ≡ false) × (o ≡ None)
        first-none true x o e = absurd (cc e)
        first-none false x o e = (refl, e)

        find_none : (ys : List X) → find (λ y. nat_eq (serial y) s) ys ≡ None → All (λ y. nat_eq (serial y) s ≡ false) ys
        find_none [] e k d lt = absurd (omega arith)
        find_none (y ∷ ys) e zero d lt = (first-none (nat_eq (serial y) s) y (find (λ z. nat_eq (serial z) s) ys) e).0
        find_none (y ∷ ys) e (suc k) d lt = find_none ys (first-none (nat_eq (serial y) s) y (find (λ z. nat_eq (serial z) s) ys) e).1 k d (omega arith)

        none : (k : ℕ) (d : X) → k < length xs → All (λ y. nat_eq (serial y) s ≡ false) xs → nat_eq (serial (get_or xs k d)) s ≡ false
        none k d lt all = all k d lt

    pub gap-unchanged : (xs ys : List X) (i : ℕ) → ys ≡ xs → IsGap serial nat_cmp s ys i → xs ≡ map (λ y. cond (nat_eq (serial y) s) (change y) y) xs
    gap-unchanged xs ys i same h = sym (map-gap xs i (subst (λ (zs : List X). IsGap serial nat_cmp s zs i) same h))

  -- a change that keeps the key keeps the order
  pub sorted-changed : (xs l r : List X) (x y : X) → IsSplit serial s xs l r x → serial y ≡ serial x → IsSortedOnce serial nat_cmp xs → IsSortedOnce serial nat_cmp (l ++ y ∷ r)
  sorted-changed xs l r x y h same sorted = sorted-like (l ++ x ∷ r) (l ++ y ∷ r) (keys l) (subst (λ zs. IsSortedOnce serial nat_cmp zs) h.whole sorted)
    where
      keys : (l : List X) → map serial (l ++ x ∷ r) ≡ map serial (l ++ y ∷ r)
      keys [] = ap (λ k. k ∷ map serial r) (sym same)
      keys (z ∷ zs) = ap (λ ks. serial z ∷ ks) (keys zs)

      nth : (us vs : List X) (k : ℕ) (d : X) → map serial us ≡ map serial vs → serial (get_or us k d) ≡ serial (get_or vs k d)
      nth [] [] k d e = refl
      nth [] (v ∷ vs) k d e = absurd (cc e)
      nth (u ∷ us) [] k d e = absurd (cc e)
      nth (u ∷ us) (v ∷ vs) zero d e = cc e
      nth (u ∷ us) (v ∷ vs) (suc k) d e = nth us vs k d (cc e)

      sorted-like : (us vs : List X) → map serial us ≡ map serial vs → IsSortedOnce serial nat_cmp us → IsSortedOnce serial nat_cmp vs
      sorted-like us vs e sorted i j d lt in_range =
          let n : length us ≡ length vs = sym (length-map us serial) ∙ (ap length e ∙ length-map vs serial) in
          ap (λ k. nat_cmp k (serial (get_or vs j d))) (sym (nth us vs i d e)) ∙ (ap (λ k. nat_cmp (serial (get_or us i d)) k) (sym (nth us vs j d e)) ∙ sorted i j d lt (omega arith))

  -- and so does an element behind that has a greater key than all
  pub sorted-pushed : (xs : List X) (x : X) → serial x ≡ s → All (λ y. serial y < s) xs → IsSortedOnce serial nat_cmp xs → IsSortedOnce serial nat_cmp (xs ++ x ∷ [])
  sorted-pushed xs x same below sorted =
      all_pairs_push (λ a b. nat_cmp (serial a) (serial b) ≡ Less) xs x sorted (λ k d lt. Less-lt (serial (get_or xs k d)) (serial x) (rw same (below k d lt)))

  -- all behind an element have greater keys
  pub above-head : (x : X) (xs : List X) → IsSortedOnce serial nat_cmp (x ∷ xs) → All (λ y. serial x < serial y) xs
  above-head x xs sorted k d lt = lt-Less (serial x) (serial (get_or xs k d)) (sorted 0 (suc k) d (omega arith) (omega arith))
