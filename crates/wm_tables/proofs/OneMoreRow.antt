-- One thing more in a list, and the rows of these.
use Rattle.std.proofs.Common.{◌≡◌, ◌⊎◌, ℕ, zero, suc, ◌++◌, Bool, true, false, cond, List, [], ◌∷◌, map, filter, append_assoc, refl, sym, ap, subst, ◌∙◌, inl, inr}
use Rattle.std.specs.Cmp.{IsTotalOrder}
use Rattle.std.specs.List.{insert}
use Rattle.std.specs.declared.cmp.Ordering.{Ordering}
use Rattle.wm_desc.specs.Sorted.{IsSortedOnce}
use Rattle.wm_traits.specs.declared.row.Row.{Row}
use Rattle.wm_traits.specs.declared.row.RowChange.TheVariants.{Put, Del}
use Rattle.wm_traits.specs.Rows.{place_of}
use Rattle.wm_law.specs.Laws.{IsIn}
use Rattle.wm_law.proofs.InOrder.{rest_sorted}
use Rattle.wm_tables.proofs.OneMore.{first_below, not_same}
use Rattle.wm_tables.proofs.Passing.{in_left_part, in_right_part, left_all, of_parts}
use Rattle.wm_tables.proofs.RowOrder.{HasOwnPlaces}
use Rattle.wm_tables.specs.Difference.{HasRowAt}
use Rattle.wm_tables.proofs.Differs.{Differs, HasChangeAt}

-- the second list is the first with one row more
pub record IsMore (row : Row) (xs ys : List Row) : Type 0 where
  pub before : List Row
  pub behind : List Row
  pub was : xs ≡ before ++ behind
  pub is : ys ≡ before ++ row ∷ behind

-- a relation of rows that others before and behind them keep
pub record IsWithin (Q : List Row → List Row → Type 0) : Type 0 where
  pub left : (xs ys zs : List Row) → Q xs ys → Q (xs ++ zs) (ys ++ zs)
  pub right : (zs xs ys : List Row) → Q xs ys → Q (zs ++ xs) (zs ++ ys)

pub more_within : (row : Row) → IsWithin (IsMore row)
more_within row = record {
  left = λ xs ys zs m. record {
    before = m.before;
    behind = m.behind ++ zs;
    was = ap (λ (l : List Row). l ++ zs) m.was ∙ append_assoc m.before m.behind zs;
    is = ap (λ (l : List Row). l ++ zs) m.is ∙ append_assoc m.before (row ∷ m.behind) zs;
  };
  right = λ zs xs ys m. record {
    before = zs ++ m.before;
    behind = m.behind;
    was = ap (λ (l : List Row). zs ++ l) m.was ∙ sym (append_assoc zs m.before m.behind);
    is = ap (λ (l : List Row). zs ++ l) m.is ∙ sym (append_assoc zs m.before (row ∷ m.behind));
  };
}

-- the other way round: the second has one row less
abbrev pub IsLess : Row → List Row → List Row → Type 0
IsLess row xs ys = IsMore row ys xs

pub less_within : (row : Row) → IsWithin (IsLess row)
less_within row =
    let w = more_within row in
    record { left = λ xs ys zs m. w.left ys xs zs m; right = λ zs xs ys m. w.right zs ys xs m }

-- Rows of things

more_first : (x : Row) (row : Row) (xs ys : List Row) → IsMore row xs ys → IsMore row (x ∷ xs) (x ∷ ys)
more_first x row xs ys m = record { before = x ∷ m.before; behind = m.behind; was = ap (λ (l : List Row). x ∷ l) m.was; is = ap (λ (l : List Row). x ∷ l) m.is }

module _ {X : Type 0} (f : X → Row) where
  pub more_mapped : (xs : List X) (n : ℕ) (x : X) → IsMore (f x) (map f xs) (map f (insert xs n x))
  more_mapped xs zero x = record { before = []; behind = map f xs; was = refl; is = refl }
  more_mapped [] (suc n) x = record { before = []; behind = []; was = refl; is = refl }
  more_mapped (y ∷ xs) (suc n) x = more_first (f y) (f x) (map f xs) (map f (insert xs n x)) (more_mapped xs n x)

  module _ {K : Type 0} (key : X → K) (cmp : K → K → Ordering) (o : IsTotalOrder cmp) (p : X → Bool) where
    less_here : (x y : X) (ys : List X) (t : Bool) → x ≡ y → t ≡ false → filter p ys ≡ ys → IsMore (f x) (map f (cond t (y ∷ filter p ys) (filter p ys))) (map f (y ∷ ys))
    less_here x y ys true same e h = absurd (cc)
    less_here x y ys false same e h = record { before = []; behind = map f ys; was = ap (map f) h; is = ap (λ (z : X). f z ∷ map f ys) (sym same) }

    less_later : (x y : X) (ys : List X) (t : Bool) → t ≡ true → IsMore (f x) (map f (filter p ys)) (map f ys) → IsMore (f x) (map f (cond t (y ∷ filter p ys) (filter p ys))) (map f (y ∷ ys))
    less_later x y ys true e m = more_first (f y) (f x) (map f (filter p ys)) (map f ys) m
    less_later x y ys false e m = absurd (cc)

    -- where of sorted things one alone is left out
    pub less_filtered : (xs : List X) (x : X) → IsSortedOnce key cmp xs → IsIn x xs → p x ≡ false → ((y : X) → IsIn y xs → (key y ≡ key x → ⊥) → p y ≡ true) → IsMore (f x) (map f (filter p xs)) (map f xs)
    less_filtered [] x s i e others = absurd i
    less_filtered (y ∷ ys) x s (inl same) e others =
        let rest : filter p ys ≡ ys = left_all p ys (λ z k. others z (inr k) (λ at. not_same key cmp o (key y) (key z) (first_below key cmp o y ys z s k) (sym (at ∙ ap key same)))) in
        less_here x y ys (p y) same (ap p (sym same) ∙ e) rest
    less_filtered (y ∷ ys) x s (inr i) e others =
        less_later x y ys (p y) (others y (inl refl) (not_same key cmp o (key y) (key x) (first_below key cmp o y ys x s i)))
        (less_filtered ys x (rest_sorted key cmp o y ys s) i e (λ z k n. others z (inr k) n))

-- Rows of which no two have one place

pub own_left : (xs ys : List Row) → HasOwnPlaces (xs ++ ys) → HasOwnPlaces xs
own_left [] ys h = tt
own_left (x ∷ xs) ys h = ((λ r i e. h.0 r (in_left_part xs ys r i) e), own_left xs ys h.1)

pub own_right : (xs ys : List Row) → HasOwnPlaces (xs ++ ys) → HasOwnPlaces ys
own_right [] ys h = h
own_right (x ∷ xs) ys h = own_right xs ys h.1

-- no other row has the place of one between others
alone : (row r : Row) (xs ys : List Row) → HasOwnPlaces (xs ++ row ∷ ys) → IsIn r (xs ++ ys) → place_of r ≡ place_of row → ⊥
alone row r [] ys h i e = h.0 r i e
alone row r (x ∷ xs) ys h (inl same) e = h.0 row (in_right_part xs (row ∷ ys) row (inl refl)) (sym (ap place_of (sym same) ∙ e))
alone row r (x ∷ xs) ys h (inr i) e = alone row r xs ys h.1 i e

module _ (row : Row) (xs ys : List Row) (m : IsMore row xs ys) where
  pub fewer_in : (r : Row) → IsIn r xs → IsIn r ys
  fewer_in r i = subst (λ (l : List Row). IsIn r l) (sym m.is) (elim (of_parts m.before m.behind r (subst (λ (l : List Row). IsIn r l) m.was i)) as (λ _. IsIn r (m.before ++ row ∷ m.behind)) [
    | inl k ↦ in_left_part m.before (row ∷ m.behind) r k
    | inr k ↦ in_right_part m.before (row ∷ m.behind) r (inr k)
  ])

  pub row_in : IsIn row ys
  row_in = subst (λ (l : List Row). IsIn row l) (sym m.is) (in_right_part m.before (row ∷ m.behind) row (inl refl))

  pub more_in : (r : Row) → IsIn r ys → (r ≡ row) ⊎ IsIn r xs
  more_in r i = elim (of_parts m.before (row ∷ m.behind) r (subst (λ (l : List Row). IsIn r l) m.is i)) as (λ _. (r ≡ row) ⊎ IsIn r xs) [
    | inl k ↦ inr (subst (λ (l : List Row). IsIn r l) (sym m.was) (in_left_part m.before m.behind r k))
    | inr (inl same) ↦ inl same
    | inr (inr k) ↦ inr (subst (λ (l : List Row). IsIn r l) (sym m.was) (in_right_part m.before m.behind r k))
  ]

  module _ (own : HasOwnPlaces ys) where
    not_at : (r : Row) → IsIn r xs → place_of r ≡ place_of row → ⊥
    not_at r i e = alone row r m.before m.behind (subst HasOwnPlaces m.is own) (subst (λ (l : List Row). IsIn r l) m.was i) e

    row_of_put : (r : Row) → Put r ≡ Put row → r ≡ row
    row_of_put r e = cc

    -- one row more is put
    pub more_differs : Differs xs ys (Put row ∷ [])
    more_differs = record {
      put = λ r i. (elim i as (λ _. IsIn r ys) [ inl same ↦ subst (λ (q : Row). IsIn q ys) (sym (row_of_put r same)) row_in | inr none ↦ absurd none ]);
      new = λ r i j. (elim i as (λ _. ⊥) [ inl same ↦ not_at r j (ap place_of (row_of_put r same)) | inr none ↦ none ]);
      was = λ tab key i. (elim i as (λ _. HasRowAt xs (tab ∷ key)) [ inl same ↦ absurd (cc) | inr none ↦ absurd none ]);
      gone = λ tab key i r j e. (elim i as (λ _. ⊥) [ inl same ↦ absurd (cc) | inr none ↦ none ]);
      each = λ r i. (elim (more_in r i) as (λ _. IsIn (Put r) (Put row ∷ []) ⊎ IsIn r xs) [ inl same ↦ inl (inl (ap (λ (q : Row). Put q) same)) | inr k ↦ inr k ]);
      kept = λ r i. inl (fewer_in r i);
    }

    place_is : (tab : ℕ) (key : List ℕ) → Del tab key ≡ Del row.tab row.key → tab ∷ key ≡ place_of row
    place_is tab key e = cc

    -- one row less is deleted
    pub less_differs : Differs ys xs (Del row.tab row.key ∷ [])
    less_differs = record {
      put = λ r i. (elim i as (λ _. IsIn r xs) [ inl same ↦ absurd (cc) | inr none ↦ absurd none ]);
      new = λ r i j. (elim i as (λ _. ⊥) [ inl same ↦ absurd (cc) | inr none ↦ none ]);
      was = λ tab key i. (elim i as (λ _. HasRowAt ys (tab ∷ key)) [ inl same ↦ record { row = row; stands = row_in; place = sym (place_is tab key same) } | inr none ↦ absurd none ]);
      gone = λ tab key i r j e. (elim i as (λ _. ⊥) [ inl same ↦ not_at r j (e ∙ place_is tab key same) | inr none ↦ none ]);
      each = λ r i. inr (fewer_in r i);
      kept = λ r i. (elim (more_in r i) as (λ _. IsIn r xs ⊎ HasChangeAt (Del row.tab row.key ∷ []) (place_of r)) [
        | inl same ↦ inr (record { change = Del row.tab row.key; stands = inl refl; at = ap place_of same })
        | inr k ↦ inl k
      ]);
    }
