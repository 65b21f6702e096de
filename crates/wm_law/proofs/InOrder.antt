-- Elements stay in the order of their keys where one more comes or one goes.
use Rattle.std.proofs.Common.{◌≡◌, ◌⊎◌, ℕ, zero, suc, ◌+◌, Bool, true, false, cond, List, [], ◌∷◌, length, get_or, nat_eq, take, drop, refl, sym, ap, subst, ◌∙◌, inl, inr, arith}
use Rattle.std.specs.Cmp.{IsTotalOrder, unsigned_ties}
use Rattle.std.specs.List.{All, insert, list_any}
use Rattle.std.specs.Ordering.{is_eq, is_lt, nat_cmp, ordering_reverse}
use Rattle.std.specs.declared.cmp.Ordering.{Ordering}
use Rattle.std.specs.declared.cmp.Ordering.TheVariants.{Less}
use Rattle.std.proofs.lemmas.Cmp.{nat_cmp_total}
use Rattle.std.proofs.lemmas.Grind.{common_steps}
use Rattle.std.proofs.lemmas.List.Elements.{All-nil, All-cons, All-head, All-tail, All-append, All-take, All-drop, All-weaker}
use Rattle.std.proofs.lemmas.List.Kept.{AllPairs-cons}
use Rattle.std.proofs.lemmas.List.Sums.{sum_by-cons}
use Rattle.std.proofs.lemmas.Bool.{or_parts}
use Rattle.wm_base.proofs.Orderings.{is_lt-Less, neither-Greater}
use Rattle.wm_desc.specs.Refusals.{seq_used}
use Rattle.wm_desc.specs.Sorted.{IsSortedOnce, place_of, has_key, added}
use Rattle.wm_law.specs.Laws.{IsIn}

module _ {E K : Type 0} (key : E → K) (cmp : K → K → Ordering) (o : IsTotalOrder cmp) where
  abbrev IsBelow : E → E → Type 0
  IsBelow x y = cmp (key x) (key y) ≡ Less

  abbrev IsSorted : List E → Type 0
  IsSorted xs = IsSortedOnce key cmp xs

  pub behind : (x : E) (xs : List E) (k : ℕ) (d : E) → get_or (x ∷ xs) (k + 1) d ≡ get_or xs k d
  behind x xs k d = grind (arith, common_steps)

  pub longer : (x : E) (xs : List E) → length (x ∷ xs) ≡ length xs + 1
  longer x xs = grind (arith, common_steps)

  pub first_below : (x : E) (xs : List E) → IsSorted (x ∷ xs) → All (IsBelow x) xs
  first_below x xs s k d less =
      let more = longer x xs in
      subst (IsBelow x) (behind x xs k d) (s 0 (k + 1) d (omega arith) (omega arith))

  pub rest_sorted : (x : E) (xs : List E) → IsSorted (x ∷ xs) → IsSorted xs
  rest_sorted x xs s i j d less h =
      let more = longer x xs in
      let whole = s (i + 1) (j + 1) d (omega arith) (omega arith) in
      subst (λ (e : E). IsBelow e (get_or xs j d)) (behind x xs i d) (subst (λ (e : E). IsBelow (get_or (x ∷ xs) (i + 1) d) e) (behind x xs j d) whole)

  -- what holds of each element and of one more
  all_inserted : (P : E → Type 0) (xs : List E) (i : ℕ) (x : E) → All P xs → P x → All P (insert xs i x)
  all_inserted P xs i x h k = All-append P (take i xs) (x ∷ drop i xs) (All-take P i xs h) (All-cons P x (drop i xs) k (All-drop P i xs h))

  abbrev place : K → List E → ℕ
  place k xs = place_of key cmp k xs

  abbrev one : K → E → ℕ
  one k e = cond (is_lt (cmp (key e) k)) 1 0

  pub not_less : (a b : K) → cmp b a ≡ Less → is_lt (cmp a b) ≡ false
  not_less a b h = ap is_lt (o.antisymm a b) ∙ ap (λ (r : Ordering). is_lt (ordering_reverse r)) h

  other_way : (a b : K) → is_lt (cmp a b) ≡ false → is_eq (cmp a b) ≡ false → cmp b a ≡ Less
  other_way a b h k = o.antisymm b a ∙ ap ordering_reverse (neither-Greater (cmp a b) h k)

  -- where all keys are greater, none stands before
  none_before : (k : K) (xs : List E) → All (λ e. cmp k (key e) ≡ Less) xs → place k xs ≡ 0
  none_before k [] h = refl
  none_before k (x ∷ xs) h =
      let this : one k x ≡ 0 = ap (λ (t : Bool). cond t 1 0) (not_less (key x) k (All-head (λ (e : E). cmp k (key e) ≡ Less) x xs h)) in
      let rest = none_before k xs (All-tail (λ (e : E). cmp k (key e) ≡ Less) x xs h) in
      rw (sum_by-cons (one k) x xs) (omega arith)

  place_behind : (k : K) (x : E) (xs : List E) → is_lt (cmp (key x) k) ≡ true → place k (x ∷ xs) ≡ suc (place k xs)
  place_behind k x xs h =
      let this : one k x ≡ 1 = ap (λ (t : Bool). cond t 1 0) h in
      rw (sum_by-cons (one k) x xs) (omega arith)

  sorted_by : (x y : E) (xs : List E) (t : Bool) → is_lt (cmp (key y) (key x)) ≡ t → is_eq (cmp (key y) (key x)) ≡ false → IsSorted (y ∷ xs) → IsSorted (insert xs (place (key x) xs) x) → IsSorted (insert (y ∷ xs) (place (key x) (y ∷ xs)) x)
  sorted_by x y xs true e n s h =
      subst
      (λ (k : ℕ). IsSorted (insert (y ∷ xs) k x))
      (sym (place_behind (key x) y xs e))
      (AllPairs-cons IsBelow y (insert xs (place (key x) xs) x) (all_inserted (IsBelow y) xs (place (key x) xs) x (first_below y xs s) (is_lt-Less _ e)) h)
  sorted_by x y xs false e n s h =
      let less : cmp (key x) (key y) ≡ Less = other_way (key y) (key x) e n in
      let all : All (IsBelow x) (y ∷ xs) = All-cons (IsBelow x) y xs less (All-weaker (IsBelow y) (IsBelow x) (λ z l. o.trans (key x) (key y) (key z) less l) xs (first_below y xs s)) in
      subst (λ (k : ℕ). IsSorted (insert (y ∷ xs) k x)) (sym (none_before (key x) (y ∷ xs) all)) (AllPairs-cons IsBelow x (y ∷ xs) all s)

  module _ (eq : K → K → Bool) (ties : (a b : K) → eq a b ≡ is_eq (cmp a b)) where
    -- an element with a key of its own goes to its place
    pub sorted_added : (x : E) (xs : List E) → IsSorted xs → has_key key eq (key x) xs ≡ false → IsSorted (added key cmp x xs)
    sorted_added x [] s new = AllPairs-cons IsBelow x [] (All-nil (IsBelow x)) s
    sorted_added x (y ∷ xs) s new =
        let n = or_parts (eq (key y) (key x)) (list_any (λ (e : E). eq (key e) (key x)) xs) new in
        sorted_by x y xs (is_lt (cmp (key y) (key x))) refl (sym (ties (key y) (key x)) ∙ n.0) s (sorted_added x xs (rest_sorted y xs s) n.1)

-- so an entry with a number of its own
pub number_added : {E : Type 0} (number : E → ℕ) (x : E) (xs : List E) → IsSortedOnce number nat_cmp xs → seq_used number (number x) xs ≡ false → IsSortedOnce number nat_cmp (added number nat_cmp x xs)
number_added number x xs s new = sorted_added number nat_cmp nat_cmp_total nat_eq unsigned_ties x xs s new

-- what stands in a list with one element more
pub in_inserted : {X : Type 0} (xs : List X) (i : ℕ) (x y : X) → IsIn y (insert xs i x) → (y ≡ x) ⊎ IsIn y xs
in_inserted xs zero x y (inl e) = inl e
in_inserted xs zero x y (inr m) = inr m
in_inserted [] (suc i) x y (inl e) = inl e
in_inserted [] (suc i) x y (inr m) = absurd m
in_inserted (z ∷ xs) (suc i) x y (inl e) = inr (inl e)
in_inserted (z ∷ xs) (suc i) x y (inr m) = elim (in_inserted xs i x y m) as (λ _. (y ≡ x) ⊎ IsIn y (z ∷ xs)) [ inl e ↦ inl e | inr k ↦ inr (inr k) ]

-- how long it is
pub inserted_length : {X : Type 0} (xs : List X) (i : ℕ) (x : X) → length (insert xs i x) ≡ suc (length xs)
inserted_length xs zero x = refl
inserted_length [] (suc i) x = refl
inserted_length (z ∷ xs) (suc i) x = ap suc (inserted_length xs i x)
