-- How sorted pairs are cut at a key, and that a pair between the two parts stands in its place.
use Rattle.std.proofs.Common.{◌≡◌, ℕ, ◌+◌, ◌<◌, ◌≤◌, ◌-◌, Bool, true, false, List, [], ◌∷◌, ◌++◌, length, get_or, All, insert, refl, ap, sym, ◌∙◌, subst, arith, length-append, append_assoc, get_or-append-add}
use Rattle.std.specs.declared.cmp.Ordering.{Ordering}
use Rattle.std.specs.declared.cmp.Ordering.TheVariants.{Less, Equal, Greater}
use Rattle.std.specs.Cmp.{IsTotalOrder}
use Rattle.std.specs.Ordering.{is_lt, is_eq}
use Rattle.std.proofs.lemmas.Bool.{true≢false}
use Rattle.std.proofs.lemmas.List.{get_or_append_left}
use Rattle.std.proofs.lemmas.List.Elements.{All-append, All-cons}
use Rattle.wm_base.proofs.Orderings.{is_lt-Less, neither-Greater}
use Rattle.wm_desc.specs.Place.{IsGap}
use Rattle.wm_desc.specs.Sorted.{IsSortedOnce, has_key, place_of, added}
use Rattle.wm_desc.proofs.Places.{count_by-split}
use Rattle.wm_desc.proofs.SortedLists.{sorted-insert}
use Rattle.wm_ordered.specs.Ordered.{key_of}
use Rattle.wm_ordered.specs.Tree.{IsCut}
use Rattle.wm_ordered.proofs.Found.{left_sorted, right_sorted, left_of_less, right_of_equal, right_of_greater}
use Rattle.wm_ordered.proofs.Tested.{fails-none}

insert_between : {X : Type 0} (low high : List X) (x : X) → insert (low ++ high) (length low) x ≡ low ++ x ∷ high
insert_between [] high x = refl
insert_between (y ∷ low) high x = ap (λ ys. y ∷ ys) (insert_between low high x)

-- pairs d are those of a node: l is what lies left of e, and r what lies right of it
module _ {K V : Type 0} (cmp : K → K → Ordering) (o : IsTotalOrder cmp) (k : K) (d l : List (K × V)) (e : K × V) (r : List (K × V)) (is : d ≡ l ++ e ∷ r) (sorted : IsSortedOnce key_of cmp d) (low high : List (K × V)) where
  -- the key lies right of the element
  pub cut-right : is_lt (cmp e.0 k) ≡ true → IsCut cmp k r low high → IsCut cmp k d (l ++ e ∷ low) high
  cut-right h cut =
      let less = left_of_less cmp o k d l e r is sorted (is_lt-Less _ h) in
      let part : All (λ x. is_lt (cmp x.0 k) ≡ true) l = λ j d lt. ap is_lt (less j d lt) in
      record {
        whole = is ∙ (ap (λ ys. l ++ e ∷ ys) cut.whole ∙ sym (append_assoc l (e ∷ low) high));
        below = All-append (λ (x : K × V). is_lt (cmp x.0 k) ≡ true) l (e ∷ low) part (All-cons (λ (x : K × V). is_lt (cmp x.0 k) ≡ true) e low h cut.below);
        rest = cut.rest;
      }

  greater_right : (c : Ordering) → is_lt c ≡ false → cmp e.0 k ≡ c → All (λ x. cmp x.0 k ≡ Greater) r
  greater_right Less h here = absurd (true≢false h)
  greater_right Equal h here = right_of_equal cmp o k d l e r is sorted here
  greater_right Greater h here = right_of_greater cmp o k d l e r is sorted here

  -- the element isn't below the key
  pub cut-left : is_lt (cmp e.0 k) ≡ false → IsCut cmp k l low high → IsCut cmp k d low (high ++ e ∷ r)
  cut-left h cut =
      let more = greater_right _ h refl in
      let part : All (λ x. is_lt (cmp x.0 k) ≡ false) r = λ j d lt. ap is_lt (more j d lt) in
      record {
        whole = is ∙ (ap (λ ys. ys ++ e ∷ r) cut.whole ∙ append_assoc low high (e ∷ r));
        below = cut.below;
        rest = All-append (λ (x : K × V). is_lt (cmp x.0 k) ≡ false) high (e ∷ r) cut.rest (All-cons (λ (x : K × V). is_lt (cmp x.0 k) ≡ false) e r h part);
      }

module _ {K V : Type 0} (cmp : K → K → Ordering) (o : IsTotalOrder cmp) where
  module _ (eq : K → K → Bool) (ties : (a b : K) → eq a b ≡ is_eq (cmp a b)) (pair : K × V) (low high : List (K × V)) where
    -- where no pair has the key, its place is between the parts
    gap : (whole : List (K × V)) → whole ≡ low ++ high → All (λ x. is_lt (cmp x.0 pair.0) ≡ true) low → All (λ x. is_lt (cmp x.0 pair.0) ≡ false) high → All (λ x. eq x.0 pair.0 ≡ false) whole → IsGap key_of cmp pair.0 (low ++ high) (length low)
    gap whole is below rest new = record {
      in_range = omega (arith, length-append low high);
      before = λ j d _ lt. is_lt-Less _ (subst (λ (x : K × V). is_lt (cmp x.0 pair.0) ≡ true) (sym (get_or_append_left low high d j lt)) (below j d lt));
      after = λ j d le lt. neither-Greater _ (above j d le (omega (arith, length-append low high))) (sym (ties _ _) ∙ subst (λ xs. eq (get_or xs j d).0 pair.0 ≡ false) is (new j d (omega (arith, ap length is))));
    }
      where
        above : (j : ℕ) (d : K × V) → length low ≤ j → j < length low + length high → is_lt (cmp (get_or (low ++ high) j d).0 pair.0) ≡ false
        above j d le lt =
            let there : get_or (low ++ high) j d ≡ get_or high (j - length low) d = subst (λ n. get_or (low ++ high) n d ≡ get_or high (j - length low) d) {x = length low + (j - length low)} (omega arith) (get_or-append-add low high (j - length low) d) in
            subst (λ (x : K × V). is_lt (cmp x.0 pair.0) ≡ false) (sym there) (rest (j - length low) d (omega arith))

    module _ (items : List (K × V)) (cut : IsCut cmp pair.0 items low high) (new : has_key key_of eq pair.0 items ≡ false) where
      in_gap : IsGap key_of cmp pair.0 (low ++ high) (length low)
      in_gap = gap items cut.whole cut.below cut.rest (fails-none (λ x. eq x.0 pair.0) items new)

      pub sorted-cut : IsSortedOnce key_of cmp items → IsSortedOnce key_of cmp (low ++ pair ∷ high)
      sorted-cut sorted =
          subst (λ xs. IsSortedOnce key_of cmp xs) (insert_between low high pair) (sorted-insert key_of cmp o pair (low ++ high) (length low) (subst (λ xs. IsSortedOnce key_of cmp xs) cut.whole sorted) in_gap)

-- a pair stands between those below its key and the rest
module _ {K V : Type 0} (cmp : K → K → Ordering) (pair : K × V) (items low high : List (K × V)) (cut : IsCut cmp pair.0 items low high) where
  rest_above : (j : ℕ) (d : K × V) → length low ≤ j → j < length (low ++ high) → is_lt (cmp (get_or (low ++ high) j d).0 pair.0) ≡ false
  rest_above j d le lt =
      let there : get_or (low ++ high) j d ≡ get_or high (j - length low) d = subst (λ n. get_or (low ++ high) n d ≡ get_or high (j - length low) d) {x = length low + (j - length low)} (omega arith) (get_or-append-add low high (j - length low) d) in
      subst (λ (x : K × V). is_lt (cmp x.0 pair.0) ≡ false) (sym there) (cut.rest (j - length low) d (omega (arith, length-append low high)))

  placed : place_of key_of cmp pair.0 (low ++ high) ≡ length low
  placed = count_by-split (λ x. is_lt (cmp x.0 pair.0)) (low ++ high) (length low) (omega (arith, length-append low high)) (λ j d _ lt. subst (λ (x : K × V). is_lt (cmp x.0 pair.0) ≡ true) (sym (get_or_append_left low high d j lt)) (cut.below j d lt)) (λ j d le lt. rest_above j d le lt)

  pub added-cut : low ++ pair ∷ high ≡ added key_of cmp pair items
  added-cut =
      sym (insert_between low high pair) ∙ (ap (λ n. insert (low ++ high) n pair) (sym placed) ∙ ap (λ xs. added key_of cmp pair xs) (sym cut.whole))

-- the two parts that a key has
pub record HasCut {K V : Type 0} (cmp : K → K → Ordering) (k : K) (items : List (K × V)) : Type 0 where
  pub low : List (K × V)
  pub high : List (K × V)
  pub is : IsCut cmp k items low high

module _ {K V : Type 0} (cmp : K → K → Ordering) (o : IsTotalOrder cmp) where
  nothing-cut : (k : K) → IsCut {V = V} cmp k [] [] []
  nothing-cut k = record { whole = refl; below = λ j d lt. absurd (omega arith); rest = λ j d lt. absurd (omega arith) }

  parts_of : (k : K) (x : K × V) (xs : List (K × V)) (b : Bool) → is_lt (cmp x.0 k) ≡ b → IsSortedOnce key_of cmp (x ∷ xs) → HasCut cmp k xs → HasCut cmp k (x ∷ xs)
  parts_of k x xs true h sorted c = record { low = x ∷ c.low; high = c.high; is = cut-right cmp o k (x ∷ xs) [] x xs refl sorted c.low c.high h c.is }
  parts_of k x xs false h sorted c = record { low = []; high = x ∷ xs; is = cut-left cmp o k (x ∷ xs) [] x xs refl sorted [] [] h (nothing-cut k) }

  pub cuts : (k : K) (items : List (K × V)) → IsSortedOnce key_of cmp items → HasCut cmp k items
  cuts k [] sorted = record { low = []; high = []; is = nothing-cut k }
  cuts k (x ∷ xs) sorted = parts_of k x xs (is_lt (cmp x.0 k)) refl sorted (cuts k xs (right_sorted cmp o k (x ∷ xs) [] x xs refl sorted))

  module _ (pair : K × V) where
    -- pairs d are those of a node: l is what lies left of e, and r what lies right of it
    module _ (d l : List (K × V)) (e : K × V) (r : List (K × V)) (is : d ≡ l ++ e ∷ r) (sorted : IsSortedOnce key_of cmp d) where
      pub added-right : is_lt (cmp e.0 pair.0) ≡ true → added key_of cmp pair d ≡ l ++ e ∷ added key_of cmp pair r
      added-right h =
          let c = cuts pair.0 r (right_sorted cmp o pair.0 d l e r is sorted) in
          sym (added-cut cmp pair d (l ++ e ∷ c.low) c.high (cut-right cmp o pair.0 d l e r is sorted c.low c.high h c.is)) ∙ (append_assoc l (e ∷ c.low) (pair ∷ c.high) ∙ ap (λ xs. l ++ e ∷ xs) (added-cut cmp pair r c.low c.high c.is))

      pub added-left : is_lt (cmp e.0 pair.0) ≡ false → added key_of cmp pair d ≡ added key_of cmp pair l ++ e ∷ r
      added-left h =
          let c = cuts pair.0 l (left_sorted cmp o pair.0 d l e r is sorted) in
          sym (added-cut cmp pair d c.low (c.high ++ e ∷ r) (cut-left cmp o pair.0 d l e r is sorted c.low c.high h c.is)) ∙ (sym (append_assoc c.low (pair ∷ c.high) (e ∷ r)) ∙ ap (λ xs. xs ++ e ∷ r) (added-cut cmp pair l c.low c.high c.is))

    module _ (items : List (K × V)) (sorted : IsSortedOnce key_of cmp items) where
      pub sorted-added : (eq : K → K → Bool) → ((a b : K) → eq a b ≡ is_eq (cmp a b)) → has_key key_of eq pair.0 items ≡ false → IsSortedOnce key_of cmp (added key_of cmp pair items)
      sorted-added eq ties new =
          let c = cuts pair.0 items sorted in
          subst (λ xs. IsSortedOnce key_of cmp xs) (added-cut cmp pair items c.low c.high c.is) (sorted-cut cmp o eq ties pair c.low c.high items c.is new sorted)
