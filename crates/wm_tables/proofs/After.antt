-- Which rows stand after changes.
use Rattle.std.proofs.Common.{◌≡◌, ◌⊎◌, ℕ, ◌==◌, ◌&&◌, nat_eq, Bool, true, false, cond, List, [], ◌∷◌, refl, sym, ap, subst, ◌∙◌, inl, inr}
use Rattle.std.specs.Cmp.Lexicographic.{pointwise, slice_cmp}
use Rattle.std.specs.Ordering.{is_lt, nat_cmp}
use Rattle.std.proofs.lemmas.Bool.{eq-eqb}
use Rattle.std.proofs.lemmas.Cmp.{nat_list_cmp_total, tied_itself}
use Rattle.std.proofs.lemmas.Slice.Eq.{bytes_eq-Decides}
use Rattle.wm_traits.specs.declared.row.Row.{Row}
use Rattle.wm_traits.specs.declared.row.RowChange.{RowChange}
use Rattle.wm_traits.specs.declared.row.RowChange.TheVariants.{Put, Del}
use Rattle.wm_traits.specs.InOrder.{changed_in_order}
use Rattle.wm_traits.specs.Rows.{changed, changed_by, is_of, place_of, put, without, IsInOrder}
use Rattle.wm_law.specs.Laws.{IsIn}
use Rattle.wm_tables.proofs.Keys.{first_same, rest_same}
use Rattle.wm_tables.proofs.RowOrder.{IsAscending, ascending, new_there, of_place, of_put, stays}
use Rattle.wm_tables.proofs.SameRows.{one_place, two_places}
use Rattle.wm_tables.specs.Difference.{AreInOrder, change_place}

-- no change is made at the place
abbrev pub IsUnchanged : List RowChange → List ℕ → Type 0
IsUnchanged changes place = (change : RowChange) → IsIn change changes → place ≡ change_place change → ⊥

is_there : (tab : ℕ) (key : List ℕ) (row : Row) → place_of row ≡ tab ∷ key → is_of tab key row ≡ true
is_there tab key row e =
    let tabs : (row.tab == tab) ≡ true = eq-eqb row.tab tab (first_same row.tab tab row.key key e) in
    let keys : pointwise nat_eq row.key key ≡ true = (bytes_eq-Decides row.key key).1 (rest_same row.tab tab row.key key e) in
    ap (λ (t : Bool). t && pointwise nat_eq row.key key) tabs ∙ keys

-- A row is taken out

module _ (tab : ℕ) (key : List ℕ) where
  kept_by : (t : Bool) (x r : Row) (xs ys : List Row) → is_of tab key x ≡ t → (place_of r ≡ tab ∷ key → ⊥) → (IsIn r xs → IsIn r ys) → IsIn r (x ∷ xs) → IsIn r (cond t xs (x ∷ ys))
  kept_by true x r xs ys e other h (inl same) = absurd (other (ap place_of same ∙ of_place tab key x e))
  kept_by true x r xs ys e other h (inr i) = i
  kept_by false x r xs ys e other h (inl same) = inl same
  kept_by false x r xs ys e other h (inr i) = inr (h i)

  kept_without : (rows : List Row) (r : Row) → (place_of r ≡ tab ∷ key → ⊥) → IsIn r rows → IsIn r (without tab key rows)
  kept_without [] r other i = absurd i
  kept_without (x ∷ xs) r other i = kept_by (is_of tab key x) x r xs (without tab key xs) refl other (kept_without xs r other) i

  was_by : (t : Bool) (x r : Row) (xs ys : List Row) → (IsIn r ys → IsIn r xs) → IsIn r (cond t xs (x ∷ ys)) → IsIn r (x ∷ xs)
  was_by true x r xs ys h i = inr i
  was_by false x r xs ys h (inl e) = inl e
  was_by false x r xs ys h (inr i) = inr (h i)

  was_without : (rows : List Row) (r : Row) → IsIn r (without tab key rows) → IsIn r rows
  was_without [] r i = i
  was_without (x ∷ xs) r i = was_by (is_of tab key x) x r xs (without tab key xs) (was_without xs r) i

  none_by : (t : Bool) (x r : Row) (xs ys : List Row) → is_of tab key x ≡ t → IsAscending (x ∷ xs) → (IsIn r ys → ⊥) → place_of r ≡ tab ∷ key → IsIn r (cond t xs (x ∷ ys)) → ⊥
  none_by true x r xs ys e up h at i = two_places x r (up.0 r i) (of_place tab key x e ∙ sym at)
  none_by false x r xs ys e up h at (inl same) =
      let here : is_of tab key x ≡ true = is_there tab key x (ap place_of (sym same) ∙ at) in
      absurd (cc)
  none_by false x r xs ys e up h at (inr i) = h i

  -- none is left of the place
  none_without : (rows : List Row) (r : Row) → IsAscending rows → place_of r ≡ tab ∷ key → IsIn r (without tab key rows) → ⊥
  none_without [] r up at i = i
  none_without (x ∷ xs) r up at i = none_by (is_of tab key x) x r xs (without tab key xs) refl up (none_without xs r up.1 at) at i

-- One change

-- a row of another place stays
stays_by_one : (c : RowChange) (base : List Row) (r : Row) → (place_of r ≡ change_place c → ⊥) → IsIn r base → IsIn r (changed_by base c)
stays_by_one (Put u) base r other i = stays (u ∷ []) base r (λ v k e. elim k as (λ _. r ≡ v) [ inl same ↦ absurd (other (e ∙ ap place_of same)) | inr none ↦ absurd none ]) (inr i)
stays_by_one (Del tab key) base r other i = kept_without tab key base r other i

-- a row is the one that is put, or was there and has another place
put_or : (u : Row) (base : List Row) (r : Row) (t : Bool) → IsInOrder base → is_of u.tab u.key r ≡ t → IsIn r (put u base) → (Put u ≡ Put r) ⊎ (IsIn r base × (place_of r ≡ place_of u → ⊥))
put_or u base r true order e i =
    let up : IsAscending (put u base) = ascending (put u base) (changed_in_order (Put u ∷ []) base order) in
    inl (ap (λ (x : Row). Put x) (one_place (put u base) u r up (new_there u base) i (sym (of_place u.tab u.key r e))))
put_or u base r false order e i = elim (of_put u base r i) as (λ _. (Put u ≡ Put r) ⊎ (IsIn r base × (place_of r ≡ place_of u → ⊥))) [
  | inl same ↦ inl (ap (λ (x : Row). Put x) (sym same))
  | inr was ↦ inr (was, λ at. (let here : is_of u.tab u.key r ≡ true = is_there u.tab u.key r at in absurd (cc)))
]

was_or : (c : RowChange) (base : List Row) (r : Row) → IsInOrder base → IsIn r (changed_by base c) → (c ≡ Put r) ⊎ (IsIn r base × (place_of r ≡ change_place c → ⊥))
was_or (Put u) base r order i = put_or u base r (is_of u.tab u.key r) order refl i
was_or (Del tab key) base r order i = inr (was_without tab key base r i, λ at. none_without tab key base r (ascending base order) at i)

-- All changes

-- a row that stands after changes was put, or was there with no change at its place
pub after_was : (cs : List RowChange) (base : List Row) (r : Row) → IsInOrder base → IsIn r (changed cs base) → IsIn (Put r) cs ⊎ (IsIn r base × IsUnchanged cs (place_of r))
after_was [] base r order i = inr (i, λ c none e. none)
after_was (c ∷ cs) base r order i = elim (after_was cs (changed_by base c) r (changed_in_order (c ∷ []) base order) i) as (λ _. IsIn (Put r) (c ∷ cs) ⊎ (IsIn r base × IsUnchanged (c ∷ cs) (place_of r))) [
  | inl later ↦ inl (inr later)
  | inr was ↦ (elim (was_or c base r order was.0) as (λ _. IsIn (Put r) (c ∷ cs) ⊎ (IsIn r base × IsUnchanged (c ∷ cs) (place_of r))) [
    | inl here ↦ inl (inl (sym here))
    | inr old ↦ inr (old.0, λ d k e. (elim k as (λ _. ⊥) [ inl same ↦ old.1 (e ∙ ap change_place same) | inr m ↦ was.1 d m e ]))
  ])
]

stays_after : (cs : List RowChange) (base : List Row) (r : Row) → IsUnchanged cs (place_of r) → IsIn r base → IsIn r (changed cs base)
stays_after [] base r none i = i
stays_after (c ∷ cs) base r none i = stays_after cs (changed_by base c) r (λ d k. none d (inr k)) (stays_by_one c base r (none c (inl refl)) i)

put_first : (c : RowChange) (base : List Row) (r : Row) → Put r ≡ c → IsIn r (changed_by base c)
put_first c base r e = subst (λ (d : RowChange). IsIn r (changed_by base d)) e (new_there r base)

-- a place of one change is that of no later one
pub other_later : (c d : RowChange) (cs : List RowChange) → AreInOrder (c ∷ cs) → IsIn d cs → change_place c ≡ change_place d → ⊥
other_later c d cs order i e =
    let less : is_lt (slice_cmp nat_cmp (change_place d) (change_place d)) ≡ true = subst (λ (p : List ℕ). is_lt (slice_cmp nat_cmp p (change_place d)) ≡ true) e (order.0 d i) in
    let tied : is_lt (slice_cmp nat_cmp (change_place d) (change_place d)) ≡ false = ap is_lt (tied_itself nat_list_cmp_total (change_place d)) in
    absurd (cc)

-- a row that is put stands after all changes, and so does one that was there with no change at its place
pub stands_after : (cs : List RowChange) (base : List Row) (r : Row) → AreInOrder cs → IsIn (Put r) cs ⊎ (IsIn r base × IsUnchanged cs (place_of r)) → IsIn r (changed cs base)
stands_after [] base r order (inl none) = absurd none
stands_after (c ∷ cs) base r order (inl (inl here)) =
    stays_after cs (changed_by base c) r (λ d k e. other_later c d cs order k (sym (ap change_place here) ∙ e)) (put_first c base r here)
stands_after (c ∷ cs) base r order (inl (inr later)) = stands_after cs (changed_by base c) r order.1 (inl later)
stands_after cs base r order (inr (i, none)) = stays_after cs base r none i
