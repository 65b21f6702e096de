-- What a search among rows in their order finds.
use Rattle.std.proofs.Common.{◌≡◌, ◌↔◌, ℕ, zero, suc, ◌<◌, Bool, true, false, List, [], ◌∷◌, length, get_or, All, IsTrue, refl, sym, ap, subst, ◌∙◌, inl, inr, arith}
use Rattle.std.specs.Cmp.Lexicographic.{slice_cmp, texts_ties}
use Rattle.std.specs.Ordering.{is_eq, nat_cmp}
use Rattle.std.specs.declared.cmp.Ordering.TheVariants.{Less, Equal, Greater}
use Rattle.std.proofs.lemmas.Bool.{cases_lt}
use Rattle.std.proofs.lemmas.Cmp.{nat_list_cmp_total, tied_itself}
use Rattle.std.proofs.lemmas.Slice.Eq.{bytes_eq-Decides}
use Rattle.wm_base.proofs.Orderings.{is_lt-Less}
use Rattle.wm_desc.specs.Place.{IsAt, IsGap}
use Rattle.wm_desc.specs.Sorted.{IsSortedOnce}
use Rattle.wm_traits.specs.declared.row.Row.{Row}
use Rattle.wm_traits.specs.Rows.{place_of, IsInOrder}
use Rattle.wm_law.specs.Laws.{IsIn}
use Rattle.wm_tables.specs.Opened.{is_found}
use Rattle.wm_tables.proofs.RowOrder.{ascending}
use Rattle.wm_tables.proofs.SameRows.{found_there, one_place, there_found}
use Rattle.wm_law.proofs.Members.{All-in}

-- rows in their order are sorted by their places
pub sorted_rows : (rows : List Row) → IsInOrder rows → IsSortedOnce place_of (slice_cmp nat_cmp) rows
sorted_rows rows h = λ i j d less within. is_lt-Less _ (h i j d less within)

at_in : (rows : List Row) (n : ℕ) (row : Row) → n < length rows → row ≡ get_or rows n row → IsIn row rows
at_in [] n row less e = absurd (omega (arith, less))
at_in (r ∷ rows) zero row less e = inl e
at_in (r ∷ rows) (suc n) row less e = inr (at_in rows n row (omega arith) e)

tied_places : (a b : Row) → slice_cmp nat_cmp (place_of a) (place_of b) ≡ Equal → place_of a ≡ place_of b
tied_places a b h = (bytes_eq-Decides (place_of a) (place_of b)).0 (texts_ties (place_of a) (place_of b) ∙ ap is_eq h)

module _ (found : List Row) (order : IsInOrder found) (row : Row) where
  module _ (at : ℕ) (h : IsAt place_of (slice_cmp nat_cmp) (place_of row) found at) (x : Row) (stands : x ≡ get_or found at x) where
    x_there : IsIn x found
    x_there = at_in found at x h.in_range stands

    x_place : place_of x ≡ place_of row
    x_place = tied_places x row (subst (λ (y : Row). slice_cmp nat_cmp (place_of y) (place_of row) ≡ Equal) (sym stands) (h.here x))

    by_both : (b t : Bool) → is_found found row ≡ t → (IsTrue b ↔ (x ≡ row)) → b ≡ t
    by_both true true e same = refl
    by_both false false e same = refl
    by_both true false e same =
        let here : is_found found row ≡ true = there_found found row (subst (λ (y : Row). IsIn y found) (same.0 refl) x_there) in
        absurd (cc)
    by_both false true e same =
        let no : IsTrue false = same.1 (one_place found x row (ascending found order) x_there (found_there found row e) x_place) in
        absurd (cc)

    -- at the place stands the row, or another
    pub found_at : (b : Bool) → (IsTrue b ↔ (x ≡ row)) → b ≡ is_found found row
    found_at b same = by_both b (is_found found row) refl same

  module _ (at : ℕ) (h : IsGap place_of (slice_cmp nat_cmp) (place_of row) found at) where
    none_tied : All (λ y. slice_cmp nat_cmp (place_of y) (place_of row) ≡ Equal → ⊥) found
    none_tied = λ k d within.
        elim (cases_lt k at) as (λ _. slice_cmp nat_cmp (place_of (get_or found k d)) (place_of row) ≡ Equal → ⊥) [
          | inl low ↦ λ e. (let clash : Less ≡ Equal = sym (h.before k d (omega arith) low) ∙ e in absurd (cc))
          | inr high ↦ λ e. (let clash : Greater ≡ Equal = sym (h.after k d high within) ∙ e in absurd (cc))
        ]

    by_test : (t : Bool) → is_found found row ≡ t → false ≡ t
    by_test false e = refl
    by_test true e = absurd (All-in (λ (y : Row). slice_cmp nat_cmp (place_of y) (place_of row) ≡ Equal → ⊥) found row none_tied (found_there found row e) (tied_itself nat_list_cmp_total (place_of row)))

    -- where the place is free, the row isn't found
    pub found_nowhere : false ≡ is_found found row
    found_nowhere = by_test (is_found found row) refl
