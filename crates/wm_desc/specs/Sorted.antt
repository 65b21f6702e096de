-- Lists sorted by a key that each element has once.
use Rattle.std.specs.Prelude.{◌≡◌, ℕ, Bool, not, List, filter, find, insert, count_by, AllPairs, Option}
use Rattle.std.specs.List.{list_any}
use Rattle.std.specs.Ordering.{is_lt}
use Rattle.std.specs.declared.cmp.Ordering.{Ordering}
use Rattle.std.specs.declared.cmp.Ordering.TheVariants.{Less}

-- each element's key is below those of all later ones
abbrev pub IsSortedOnce : {E K : Type 0} → (E → K) → (K → K → Ordering) → List E → Type 0
IsSortedOnce key cmp xs = AllPairs (λ x y. cmp (key x) (key y) ≡ Less) xs

-- the element with a key, if there is one
abbrev pub with_key : {E K : Type 0} → (E → K) → (K → K → Bool) → K → List E → Option E
with_key key eq k xs = find (λ x. eq (key x) k) xs

-- whether an element has a key
abbrev pub has_key : {E K : Type 0} → (E → K) → (K → K → Bool) → K → List E → Bool
has_key key eq k xs = list_any (λ x. eq (key x) k) xs

-- where a key stands or would stand: after all lesser ones
abbrev pub place_of : {E K : Type 0} → (E → K) → (K → K → Ordering) → K → List E → ℕ
place_of key cmp k xs = count_by (λ x. is_lt (cmp (key x) k)) xs

-- the list with one element more, in its place
abbrev pub added : {E K : Type 0} → (E → K) → (K → K → Ordering) → E → List E → List E
added key cmp x xs = insert xs (place_of key cmp (key x) xs) x

-- the list without the element that has a key
abbrev pub removed : {E K : Type 0} → (E → K) → (K → K → Bool) → K → List E → List E
removed key eq k xs = filter (λ x. not (eq (key x) k)) xs
