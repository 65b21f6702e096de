-- The order of rows, and which rows stand in tables after rows were put.
use Rattle.std.proofs.Common.{◌≡◌, ◌⊎◌, ℕ, zero, suc, ◌==◌, nat_eq, Bool, true, false, cond, List, [], ◌∷◌, refl, sym, ap, subst, ◌∙◌, inl, inr, arith}
use Rattle.std.specs.Prelude.{⊤}
use Rattle.std.specs.Cmp.Lexicographic.{on_texts, pointwise}
use Rattle.std.specs.List.{count_by, insert}
use Rattle.std.specs.Ordering.{is_lt}
use Rattle.std.proofs.lemmas.Bool.{and_parts, eqb-true}
use Rattle.std.proofs.lemmas.Cmp.{tied_itself}
use Rattle.std.proofs.lemmas.Slice.Eq.{bytes_eq-Decides}
use Rattle.wm_traits.specs.declared.row.Row.{Row}
use Rattle.wm_traits.specs.InOrder.{changed_in_order}
use Rattle.wm_traits.specs.Rows.{place_of, is_before, is_of, IsInOrder, without, put, changed}
use Rattle.wm_traits.specs.Spawner.{without_first}
use Rattle.wm_law.specs.Laws.{IsIn}
use Rattle.wm_law.proofs.InOrder.{in_inserted}
use Rattle.wm_law.proofs.Members.{All-in}
use Rattle.wm_tables.specs.Tables.{puts}

-- each row stands before those behind it
abbrev pub IsAscending : List Row → Type 0
IsAscending [] = ⊤
IsAscending (row ∷ rows) = ((r : Row) → IsIn r rows → is_before row r ≡ true) × IsAscending rows

pub ascending : (rows : List Row) → IsInOrder rows → IsAscending rows
ascending [] h = tt
ascending (row ∷ rows) h = (
  λ r i. All-in (λ (q : Row). is_before row q ≡ true) rows r (λ k d within. h zero (suc k) d (omega arith) (omega arith)) i,
  ascending rows (λ i j d less within. h (suc i) (suc j) d (omega arith) (omega arith)),
)

-- no row stands before itself, and none before one that stands before it
pub never_before : (row : Row) → is_before row row ≡ false
never_before row = ap is_lt (tied_itself (on_texts place_of) row)

-- no two rows have one place
abbrev pub HasOwnPlaces : List Row → Type 0
HasOwnPlaces [] = ⊤
HasOwnPlaces (row ∷ rows) = ((r : Row) → IsIn r rows → place_of r ≡ place_of row → ⊥) × HasOwnPlaces rows

pub of_place : (tab : ℕ) (key : List ℕ) (row : Row) → is_of tab key row ≡ true → place_of row ≡ tab ∷ key
of_place tab key row h =
    let both = and_parts (row.tab == tab) (pointwise nat_eq row.key key) h in
    ap (λ (n : ℕ). n ∷ row.key) (eqb-true row.tab tab both.0)
    ∙ ap (λ (k : List ℕ). tab ∷ k) ((bytes_eq-Decides row.key key).0 both.1)

fewer_in : {X : Type 0} (t : Bool) (x y : X) (xs ys : List X) → (IsIn y ys → IsIn y xs) → IsIn y (cond t xs (x ∷ ys)) → IsIn y (x ∷ xs)
fewer_in true x y xs ys h i = inr i
fewer_in false x y xs ys h (inl e) = inl e
fewer_in false x y xs ys h (inr i) = inr (h i)

-- what is left stood there
left_there : {X : Type 0} (test : X → Bool) (xs : List X) (y : X) → IsIn y (without_first test xs) → IsIn y xs
left_there test [] y i = i
left_there test (x ∷ xs) y i = fewer_in (test x) x y xs (without_first test xs) (left_there test xs y) i

-- an element more stands there, and so do the others
pub new_inserted : {X : Type 0} (xs : List X) (n : ℕ) (x : X) → IsIn x (insert xs n x)
new_inserted xs zero x = inl refl
new_inserted [] (suc n) x = inl refl
new_inserted (y ∷ xs) (suc n) x = inr (new_inserted xs n x)

pub old_inserted : {X : Type 0} (xs : List X) (n : ℕ) (x y : X) → IsIn y xs → IsIn y (insert xs n x)
old_inserted xs zero x y i = inr i
old_inserted [] (suc n) x y i = absurd i
old_inserted (z ∷ xs) (suc n) x y (inl e) = inl e
old_inserted (z ∷ xs) (suc n) x y (inr i) = inr (old_inserted xs n x y i)

pub of_put : (row : Row) (rows : List Row) (r : Row) → IsIn r (put row rows) → (r ≡ row) ⊎ IsIn r rows
of_put row rows r i =
    let left = without row.tab row.key rows in
    elim (in_inserted left (count_by (λ other. is_before other row) left) row r i) as (λ _. (r ≡ row) ⊎ IsIn r rows) [
      | inl same ↦ inl same
      | inr was ↦ inr (left_there (is_of row.tab row.key) rows r was)
    ]

module _ {X : Type 0} where
  stays_by : (t : Bool) (x y : X) (xs ys : List X) → (t ≡ true → y ≡ x → ⊥) → (IsIn y xs → IsIn y ys) → IsIn y (x ∷ xs) → IsIn y (cond t xs (x ∷ ys))
  stays_by true x y xs ys other h (inl e) = absurd (other refl e)
  stays_by true x y xs ys other h (inr i) = i
  stays_by false x y xs ys other h (inl e) = inl e
  stays_by false x y xs ys other h (inr i) = inr (h i)

  -- what fails the test isn't taken out
  left_other : (test : X → Bool) (xs : List X) (y : X) → test y ≡ false → IsIn y xs → IsIn y (without_first test xs)
  left_other test [] y e i = absurd i
  left_other test (x ∷ xs) y e i =
      stays_by (test x) x y xs (without_first test xs)
      (λ t same. (let no : test x ≡ false = subst (λ (z : X). test z ≡ false) same e in absurd (cc)))
      (left_other test xs y e)
      i

-- a row that is put is there
pub new_there : (u : Row) (base : List Row) → IsIn u (put u base)
new_there u base = let left = without u.tab u.key base in new_inserted left (count_by (λ other. is_before other u) left) u

old_there : (u : Row) (base : List Row) (r : Row) (t : Bool) → is_of u.tab u.key r ≡ t → (place_of r ≡ place_of u → r ≡ u) → IsIn r base → IsIn r (put u base)
old_there u base r true e one i = subst (λ (x : Row). IsIn x (put u base)) (sym (one (of_place u.tab u.key r e))) (new_there u base)
old_there u base r false e one i = let left = without u.tab u.key base in old_inserted left (count_by (λ other. is_before other u) left) u r (left_other (is_of u.tab u.key) base r e i)

-- a row that is put, or was there, is there, where no other of its place is put
pub stays : (rows base : List Row) (r : Row) → ((u : Row) → IsIn u rows → place_of r ≡ place_of u → r ≡ u) → IsIn r rows ⊎ IsIn r base → IsIn r (changed (puts rows) base)
stays [] base r one (inl i) = absurd i
stays [] base r one (inr i) = i
stays (u ∷ rows) base r one (inl (inl same)) = stays rows (put u base) r (λ v i. one v (inr i)) (inr (subst (λ (x : Row). IsIn x (put u base)) (sym same) (new_there u base)))
stays (u ∷ rows) base r one (inl (inr i)) = stays rows (put u base) r (λ v j. one v (inr j)) (inl i)
stays (u ∷ rows) base r one (inr i) = stays rows (put u base) r (λ v j. one v (inr j)) (inr (old_there u base r (is_of u.tab u.key r) refl (one u (inl refl)) i))

-- a row that is there was put, or was there
pub of_changed : (rows base : List Row) (r : Row) → IsIn r (changed (puts rows) base) → IsIn r rows ⊎ IsIn r base
of_changed [] base r i = inr i
of_changed (row ∷ rows) base r i =
    elim (of_changed rows (put row base) r i) as (λ _. IsIn r (row ∷ rows) ⊎ IsIn r base) [
      | inl later ↦ inl (inr later)
      | inr was ↦ (elim (of_put row base r was) as (λ _. IsIn r (row ∷ rows) ⊎ IsIn r base) [ inl same ↦ inl (inl same) | inr old ↦ inr old ])
    ]

-- rows that are put into none stand in order
pub put_in_order : (rows : List Row) → IsInOrder (changed (puts rows) [])
put_in_order rows = changed_in_order (puts rows) [] (λ i j d less within. absurd (omega arith))

-- of rows with places of their own one has the place
one_own : (rows : List Row) (r u : Row) → HasOwnPlaces rows → IsIn r rows → IsIn u rows → place_of r ≡ place_of u → r ≡ u
one_own [] r u own i j e = absurd i
one_own (row ∷ rows) r u own (inl f) (inl g) e = f ∙ sym g
one_own (row ∷ rows) r u own (inl f) (inr j) e = absurd (own.0 u j (sym e ∙ ap place_of f))
one_own (row ∷ rows) r u own (inr i) (inl g) e = absurd (own.0 r i (e ∙ ap place_of g))
one_own (row ∷ rows) r u own (inr i) (inr j) e = one_own rows r u own.1 i j e

-- and are these rows
pub in_tables : (rows : List Row) → HasOwnPlaces rows → (r : Row) → IsIn r rows → IsIn r (changed (puts rows) [])
in_tables rows own r i = stays rows [] r (λ u j e. one_own rows r u own i j e) (inl i)

pub of_tables : (rows : List Row) (r : Row) → IsIn r (changed (puts rows) []) → IsIn r rows
of_tables rows r i = elim (of_changed rows [] r i) as (λ _. IsIn r rows) [ inl was ↦ was | inr none ↦ absurd none ]
