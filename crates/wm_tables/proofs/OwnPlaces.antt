-- Lists of rows of which no two have one place.
use Rattle.std.proofs.Common.{◌≡◌, ℕ, ◌≤◌, ◌++◌, List, [], ◌∷◌, map, refl, sym, ap, subst, ◌∙◌, inl, inr}
use Rattle.std.specs.Cmp.{IsTotalOrder}
use Rattle.std.specs.List.{flat_map}
use Rattle.std.specs.declared.cmp.Ordering.{Ordering}
use Rattle.wm_traits.specs.declared.row.Row.{Row}
use Rattle.wm_traits.specs.Rows.{place_of}
use Rattle.wm_desc.specs.Sorted.{IsSortedOnce}
use Rattle.wm_law.specs.Laws.{IsIn}
use Rattle.wm_law.proofs.Members.{of_mapped}
use Rattle.wm_law.proofs.InOrder.{rest_sorted}
use Rattle.wm_tables.proofs.Keys.{first_same, rest_same}
use Rattle.wm_tables.proofs.OneMore.{first_below, not_same}
use Rattle.wm_tables.proofs.Passing.{in_left_part, in_right_part, of_parts}
use Rattle.wm_tables.proofs.RowOrder.{HasOwnPlaces}

-- rows of one place have one table and one key
pub same_tab : (a b : Row) → place_of a ≡ place_of b → a.tab ≡ b.tab
same_tab a b e = first_same a.tab b.tab a.key b.key e

pub same_key : (a b : Row) → place_of a ≡ place_of b → a.key ≡ b.key
same_key a b e = rest_same a.tab b.tab a.key b.key e

pub own_both : (xs ys : List Row) → ((r q : Row) → IsIn r xs → IsIn q ys → place_of q ≡ place_of r → ⊥) → HasOwnPlaces xs → HasOwnPlaces ys → HasOwnPlaces (xs ++ ys)
own_both [] ys apart h g = g
own_both (x ∷ xs) ys apart h g = (
  λ r i e. (elim (of_parts xs ys r i) as (λ _. ⊥) [ inl m ↦ h.0 r m e | inr m ↦ apart x r (inl refl) m e ]),
  own_both xs ys (λ r q i j. apart r q (inr i) j) h.1 g,
)

-- each row has this table, or one up to it
abbrev pub HasTab : ℕ → List Row → Type 0
HasTab n rows = (r : Row) → IsIn r rows → r.tab ≡ n

abbrev pub HasTabsTo : ℕ → List Row → Type 0
HasTabsTo n rows = (r : Row) → IsIn r rows → r.tab ≤ n

pub tab_mapped : {X : Type 0} (n : ℕ) (f : X → Row) (xs : List X) → ((x : X) → (f x).tab ≡ n) → HasTab n (map f xs)
tab_mapped n f xs h r i = let m = of_mapped f xs r i in ap (λ (q : Row). q.tab) m.2 ∙ h m.0

-- rows of sorted things, whose places tell their keys
pub own_mapped : {E K : Type 0} (key : E → K) (cmp : K → K → Ordering) (o : IsTotalOrder cmp) (f : E → Row) (xs : List E) → IsSortedOnce key cmp xs → ((x y : E) → IsIn x xs → IsIn y xs → place_of (f x) ≡ place_of (f y) → key x ≡ key y) → HasOwnPlaces (map f xs)
own_mapped key cmp o f [] s h = tt
own_mapped key cmp o f (x ∷ xs) s h = (
  λ r i e.
      let m = of_mapped f xs r i in
      not_same key cmp o (key x) (key m.0) (first_below key cmp o x xs m.0 s m.1) (h x m.0 (inl refl) (inr m.1) (sym (ap place_of (sym m.2) ∙ e))),
  own_mapped key cmp o f xs (rest_sorted key cmp o x xs s) (λ y z i j. h y z (inr i) (inr j)),
)

module _ {X Y : Type 0} where
  pub of_flat : (f : X → List Y) (xs : List X) (y : Y) → IsIn y (flat_map f xs) → (x : X) × IsIn x xs × IsIn y (f x)
  of_flat f [] y i = absurd i
  of_flat f (x ∷ xs) y i =
      elim (of_parts (f x) (flat_map f xs) y i) as (λ _. (z : X) × IsIn z (x ∷ xs) × IsIn y (f z)) [
        | inl m ↦ (x, inl refl, m)
        | inr m ↦ (let rest = of_flat f xs y m in (rest.0, inr rest.1, rest.2))
      ]

  pub in_flat : (f : X → List Y) (xs : List X) (x : X) (y : Y) → IsIn x xs → IsIn y (f x) → IsIn y (flat_map f xs)
  in_flat f [] x y i j = absurd i
  in_flat f (z ∷ xs) x y (inl same) j = in_left_part (f z) (flat_map f xs) y (subst (λ (w : X). IsIn y (f w)) same j)
  in_flat f (z ∷ xs) x y (inr i) j = in_right_part (f z) (flat_map f xs) y (in_flat f xs x y i j)

pub tab_flat : {X : Type 0} (n : ℕ) (f : X → List Row) (xs : List X) → ((x : X) → HasTab n (f x)) → HasTab n (flat_map f xs)
tab_flat n f xs h r i = let m = of_flat f xs r i in h m.0 r m.2

-- the rows of sorted things, of which each has several
pub own_flat : {E K : Type 0} (key : E → K) (cmp : K → K → Ordering) (o : IsTotalOrder cmp) (f : E → List Row) (xs : List E) → IsSortedOnce key cmp xs → ((x : E) → IsIn x xs → HasOwnPlaces (f x)) → ((x y : E) (r q : Row) → IsIn x xs → IsIn y xs → IsIn r (f x) → IsIn q (f y) → place_of r ≡ place_of q → key x ≡ key y) → HasOwnPlaces (flat_map f xs)
own_flat key cmp o f [] s own h = tt
own_flat key cmp o f (x ∷ xs) s own h =
    own_both (f x) (flat_map f xs)
    (λ r q i j e.
    let m = of_flat f xs q j in
    not_same key cmp o (key x) (key m.0) (first_below key cmp o x xs m.0 s m.1) (h x m.0 r q (inl refl) (inr m.1) i m.2 (sym e)))
    (own x (inl refl))
    (own_flat key cmp o f xs (rest_sorted key cmp o x xs s) (λ y i. own y (inr i)) (λ y z r q i j. h y z r q (inr i) (inr j)))
