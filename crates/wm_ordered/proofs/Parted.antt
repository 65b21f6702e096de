-- The pairs of those elements that have a value, by their keys.
use Rattle.std.proofs.Common.{◌≡◌, suc, List, [], ◌∷◌, All, Option, Some, None, option_map, arith}
use Rattle.std.specs.List.{cons_option, filter_map}
use Rattle.std.specs.declared.cmp.Ordering.{Ordering}
use Rattle.std.specs.declared.cmp.Ordering.TheVariants.{Less}
use Rattle.std.proofs.lemmas.List.Elements.{All-nil, All-cons, All-head, All-tail}
use Rattle.std.proofs.lemmas.List.Kept.{AllPairs-cons}
use Rattle.wm_desc.specs.Sorted.{IsSortedOnce}
use Rattle.wm_ordered.specs.Ordered.{key_of}
use Rattle.wm_ordered.proofs.Members.{AllPairs-tail}

module _ {X K V : Type 0} (key : X → K) (value : X → Option V) where
  -- the pairs
  abbrev pub parted : List X → List (K × V)
  parted xs = filter_map (λ x. option_map (λ v. (key x, v)) (value x)) xs

  with_one : (P : K → Type 0) (o : Option V) (k : K) (ys : List (K × V)) → P k → All (λ y. P y.0) ys → All (λ y. P y.0) (cons_option (option_map (λ v. (k, v)) o) ys)
  with_one P None k ys here all = all
  with_one P (Some v) k ys here all = All-cons (λ (y : K × V). P y.0) (k, v) ys here all

  -- what holds of all keys holds of those with a value
  pub keyed : (P : K → Type 0) (xs : List X) → All (λ x. P (key x)) xs → All (λ y. P y.0) (parted xs)
  keyed P [] all = All-nil (λ (y : K × V). P y.0)
  keyed P (x ∷ xs) all = with_one P (value x) (key x) (parted xs) (All-head (λ (z : X). P (key z)) x xs all) (keyed P xs (All-tail (λ (z : X). P (key z)) x xs all))

  module _ (cmp : K → K → Ordering) where
    sorted_one : (o : Option V) (k : K) (ys : List (K × V)) → All (λ y. cmp k y.0 ≡ Less) ys → IsSortedOnce key_of cmp ys → IsSortedOnce key_of cmp (cons_option (option_map (λ v. (k, v)) o) ys)
    sorted_one None k ys above sorted = sorted
    sorted_one (Some v) k ys above sorted = AllPairs-cons (λ (x y : K × V). cmp x.0 y.0 ≡ Less) (k, v) ys above sorted

    -- they are in order where the elements are
    pub sorted-parted : (xs : List X) → IsSortedOnce key cmp xs → IsSortedOnce key_of cmp (parted xs)
    sorted-parted [] sorted = λ i j d lt b. absurd (omega arith)
    sorted-parted (x ∷ xs) sorted =
        sorted_one (value x) (key x) (parted xs) (keyed (λ k. cmp (key x) k ≡ Less) xs (above x xs sorted)) (sorted-parted xs (AllPairs-tail (λ (y z : X). cmp (key y) (key z) ≡ Less) x xs sorted))
      where
        above : (x : X) (xs : List X) → IsSortedOnce key cmp (x ∷ xs) → All (λ y. cmp (key x) (key y) ≡ Less) xs
        above x xs sorted j d b = sorted 0 (suc j) d (omega arith) (omega arith)
