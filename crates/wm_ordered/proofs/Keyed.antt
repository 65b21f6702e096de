-- Pairs by their keys: how many there are after a change, that they stay in order, and what a change leaves as it was.
use Rattle.std.proofs.Common.{◌≡◌, ℕ, ◌+◌, Bool, true, false, not, cond, List, [], ◌∷◌, length, Option, Some, None, find, option_map, is_some, refl, ap, sym, ◌∙◌, arith}
use Rattle.std.specs.declared.cmp.Ordering.{Ordering}
use Rattle.std.specs.declared.cmp.Ordering.TheVariants.{Less, Equal, Greater}
use Rattle.std.specs.Cmp.{IsTotalOrder}
use Rattle.std.specs.Ordering.{is_lt, is_eq}
use Rattle.std.proofs.lemmas.Bool.{not-true}
use Rattle.std.proofs.lemmas.List.{length-map}
use Rattle.std.proofs.lemmas.List.Edits.{length-insert}
use Rattle.std.proofs.lemmas.List.Kept.{AllPairs-filter}
use Rattle.std.proofs.lemmas.List.Sums.{count_by-le-length}
use Rattle.wm_desc.specs.Sorted.{IsSortedOnce, has_key, place_of, added, removed}
use Rattle.wm_ordered.specs.Ordered.{key_of, value_at, with_value}
use Rattle.wm_ordered.proofs.Found.{right_sorted, value-right, value-here, value-left, removed-right, removed-here, removed-left}
use Rattle.wm_ordered.proofs.Members.{Contains-from_filter, list_any-none}
use Rattle.wm_ordered.proofs.Tested.{list_any-part}

-- one where there is something
abbrev bit : {X : Type 0} → Option X → ℕ
bit o = cond (is_some o) 1 0

pub length-added : {E K : Type 0} (key : E → K) (cmp : K → K → Ordering) (x : E) (xs : List E) → length (added key cmp x xs) ≡ length xs + 1
length-added key cmp x xs = length-insert xs (place_of key cmp (key x) xs) x (count_by-le-length (λ y. is_lt (cmp (key y) (key x))) xs)

module _ {K V : Type 0} {cmp : K → K → Ordering} (total : IsTotalOrder cmp) (eq : K → K → Bool) (ties : (a b : K) → eq a b ≡ is_eq (cmp a b)) (k : K) where
  module _ (x : K × V) (xs : List (K × V)) (sorted : IsSortedOnce key_of cmp (x ∷ xs)) (less : length (removed key_of eq k xs) + bit (value_at eq k xs) ≡ length xs) where
    one-fewer : (c : Ordering) → cmp x.0 k ≡ c → length (removed key_of eq k (x ∷ xs)) + bit (value_at eq k (x ∷ xs)) ≡ length (x ∷ xs)
    one-fewer Less h = omega (arith, less, ap length (removed-right cmp total k (x ∷ xs) [] x xs refl sorted eq ties h), ap bit (value-right cmp total k (x ∷ xs) [] x xs refl sorted eq ties h))
    one-fewer Equal h = omega (arith, ap length (removed-here cmp total k (x ∷ xs) [] x xs refl sorted eq ties h), ap bit (value-here cmp total k (x ∷ xs) [] x xs refl sorted eq ties h))
    one-fewer Greater h = omega (arith, ap length (removed-left cmp total k (x ∷ xs) [] x xs refl sorted eq ties h), ap bit (value-left cmp total k (x ∷ xs) [] x xs refl sorted eq ties h))

  -- a removal takes the one pair of the key
  pub length-removed : (xs : List (K × V)) → IsSortedOnce key_of cmp xs → length (removed key_of eq k xs) + cond (is_some (value_at eq k xs)) 1 0 ≡ length xs
  length-removed [] sorted = refl
  length-removed (x ∷ xs) sorted = one-fewer x xs sorted (length-removed xs (right_sorted cmp total k (x ∷ xs) [] x xs refl sorted)) (cmp x.0 k) refl

-- what is left after a removal is still in order
pub sorted-removed : {K V : Type 0} (cmp : K → K → Ordering) (eq : K → K → Bool) (k : K) (xs : List (K × V)) → IsSortedOnce key_of cmp xs → IsSortedOnce key_of cmp (removed key_of eq k xs)
sorted-removed {K} {V} cmp eq k xs sorted = AllPairs-filter (λ (x y : K × V). cmp x.0 y.0 ≡ Less) (λ x. not (eq x.0 k)) xs sorted

module _ {K V : Type 0} (eq : K → K → Bool) (key : K) where
  -- whether a key is there
  pub has-value : (xs : List (K × V)) → has_key key_of eq key xs ≡ is_some (value_at eq key xs)
  has-value xs = list_any-part (λ e. eq e.0 key) (λ e. e.1) xs

  -- none of a key is left after its removal
  pub lacks-removed : (xs : List (K × V)) → has_key key_of eq key (removed key_of eq key xs) ≡ false
  lacks-removed xs = list_any-none (λ e. eq e.0 key) (removed key_of eq key xs) (λ e there. not-true _ (Contains-from_filter (λ q. not (eq q.0 key)) xs e there).1)

  module _ (v : V) where
    pub length-set : (xs : List (K × V)) → length (with_value eq key v xs) ≡ length xs
    length-set xs = length-map xs (λ e. cond (eq e.0 key) (e.0, v) e)

    lacks_by : (b : Bool) (x : K × V) (xs : List (K × V)) → eq x.0 key ≡ b → value_at eq key (x ∷ xs) ≡ None → (value_at eq key xs ≡ None → with_value eq key v xs ≡ xs) → cond b (x.0, v) x ∷ with_value eq key v xs ≡ x ∷ xs
    lacks_by true x xs e none rest = absurd (cc (ap (λ c. option_map (λ (p : K × V). p.1) (cond c (Some x) (find (λ (p : K × V). eq p.0 key) xs))) (sym e) ∙ none))
    lacks_by false x xs e none rest = ap (λ l. x ∷ l) (rest (ap (λ c. option_map (λ (p : K × V). p.1) (cond c (Some x) (find (λ (p : K × V). eq p.0 key) xs))) (sym e) ∙ none))

    -- a key without a value gets none
    pub with_value-lacks : (xs : List (K × V)) → value_at eq key xs ≡ None → with_value eq key v xs ≡ xs
    with_value-lacks [] none = refl
    with_value-lacks (x ∷ xs) none = lacks_by (eq x.0 key) x xs refl none (with_value-lacks xs)
