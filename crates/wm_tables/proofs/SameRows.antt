-- When rows in their order are the same, which rows stay where others are put, and which are found.
use Rattle.std.proofs.Common.{◌≡◌, ℕ, ◌==◌, ◌&&◌, nat_eq, true, false, List, [], ◌∷◌, refl, sym, ap, subst, ◌∙◌, inl, inr}
use Rattle.std.specs.Cmp.Lexicographic.{pointwise, slice_cmp}
use Rattle.std.specs.Ordering.{is_lt, nat_cmp}
use Rattle.std.proofs.lemmas.Bool.{and_parts, eq-eqb, and_from, eqb-true}
use Rattle.std.proofs.lemmas.Slice.Eq.{bytes_eq-Decides}
use Rattle.wm_traits.specs.declared.row.Row.{Row}
use Rattle.wm_traits.specs.InOrder.{before_later}
use Rattle.wm_traits.specs.Rows.{is_before, place_of}
use Rattle.wm_law.specs.Laws.{IsIn}
use Rattle.wm_law.proofs.Due.{of_any}
use Rattle.wm_tables.specs.Opened.{is_found, same_row}
use Rattle.wm_tables.proofs.Passing.{one_passes}
use Rattle.wm_tables.proofs.RowOrder.{IsAscending, never_before}

-- Rows in their order

-- rows of which one stands before the other have two places
pub two_places : (a b : Row) → is_before a b ≡ true → place_of a ≡ place_of b → ⊥
two_places a b h e =
    let never : is_before a b ≡ false = subst (λ (p : List ℕ). is_lt (slice_cmp nat_cmp (place_of a) p) ≡ false) e (never_before a) in
    absurd (cc)

-- a place has one row
pub one_place : (rows : List Row) (a b : Row) → IsAscending rows → IsIn a rows → IsIn b rows → place_of a ≡ place_of b → a ≡ b
one_place [] a b up i j e = absurd i
one_place (r ∷ rows) a b up (inl f) (inl g) e = f ∙ sym g
one_place (r ∷ rows) a b up (inl f) (inr j) e = absurd (two_places r b (up.0 b j) (ap place_of (sym f) ∙ e))
one_place (r ∷ rows) a b up (inr i) (inl g) e = absurd (two_places r a (up.0 a i) (ap place_of (sym g) ∙ sym e))
one_place (r ∷ rows) a b up (inr i) (inr j) e = one_place rows a b up.1 i j e

same_first : (x y : Row) (xs ys : List Row) → IsAscending (x ∷ xs) → IsAscending (y ∷ ys) → IsIn x (y ∷ ys) → IsIn y (x ∷ xs) → x ≡ y
same_first x y xs ys u v (inl e) j = e
same_first x y xs ys u v (inr i) (inl e) = sym e
same_first x y xs ys u v (inr i) (inr j) =
    let itself : is_before x x ≡ true = before_later x y x (u.0 y j) (v.0 x i) in
    let never : is_before x x ≡ false = never_before x in
    absurd (cc)

in_rest : (x y r : Row) (xs ys : List Row) → x ≡ y → IsAscending (x ∷ xs) → IsIn r xs → IsIn r (y ∷ ys) → IsIn r ys
in_rest x y r xs ys e u i (inl f) = absurd (two_places x r (u.0 r i) (ap place_of (e ∙ sym f)))
in_rest x y r xs ys e u i (inr j) = j

-- two lists in their order that have the same rows are one
pub one_list : (xs ys : List Row) → IsAscending xs → IsAscending ys → ((r : Row) → IsIn r xs → IsIn r ys) → ((r : Row) → IsIn r ys → IsIn r xs) → xs ≡ ys
one_list [] [] u v f g = refl
one_list [] (y ∷ ys) u v f g = absurd (g y (inl refl))
one_list (x ∷ xs) [] u v f g = absurd (f x (inl refl))
one_list (x ∷ xs) (y ∷ ys) u v f g =
    let first : x ≡ y = same_first x y xs ys u v (f x (inl refl)) (g y (inl refl)) in
    let rest : xs ≡ ys = one_list xs ys u.1 v.1 (λ r i. in_rest x y r xs ys first u i (f r (inr i))) (λ r i. in_rest y x r ys xs (sym first) v i (g r (inr i))) in
    ap (λ (r : Row). r ∷ xs) first ∙ ap (λ (rs : List Row). y ∷ rs) rest

-- Rows that are found

itself : (a : Row) → same_row a a ≡ true
itself a = and_from (a.tab == a.tab && pointwise nat_eq a.key a.key) (pointwise nat_eq a.body a.body) (and_from (a.tab == a.tab) (pointwise nat_eq a.key a.key) (eq-eqb a.tab a.tab refl) ((bytes_eq-Decides a.key a.key).1 refl)) ((bytes_eq-Decides a.body a.body).1 refl)

sure_row : (a b : Row) → same_row a b ≡ true → a ≡ b
sure_row a b h =
    let whole = and_parts (a.tab == b.tab && pointwise nat_eq a.key b.key) (pointwise nat_eq a.body b.body) h in
    let first = and_parts (a.tab == b.tab) (pointwise nat_eq a.key b.key) whole.0 in
    let tab : a ≡ record a { tab = b.tab } = ap (λ (n : ℕ). record a { tab = n }) (eqb-true a.tab b.tab first.0) in
    let key : record a { tab = b.tab } ≡ record b { body = a.body } = ap (λ (k : List ℕ). record a { tab = b.tab; key = k }) ((bytes_eq-Decides a.key b.key).0 first.1) in
    tab ∙ key ∙ ap (λ (t : List ℕ). record b { body = t }) ((bytes_eq-Decides a.body b.body).0 whole.1)

-- the test finds exactly the rows of the list
pub found_there : (found : List Row) (row : Row) → is_found found row ≡ true → IsIn row found
found_there found row h = let m = of_any (same_row row) found h in subst (λ (r : Row). IsIn r found) (sym (sure_row row m.0 m.2)) m.1

pub there_found : (found : List Row) (row : Row) → IsIn row found → is_found found row ≡ true
there_found found row i = one_passes (same_row row) found row i (itself row)

pub not_found : (found : List Row) (row : Row) → is_found found row ≡ false → IsIn row found → ⊥
not_found found row h i =
    let yes : is_found found row ≡ true = there_found found row i in
    absurd (cc)
