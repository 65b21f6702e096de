-- What changes add to a trail.
use Rattle.std.proofs.Common.{◌≡◌, ◌||◌, Bool, true, false, cond, List, [], ◌∷◌, Option, Some, None, IfSome, is_some, refl, sym, ap, subst, ◌∙◌, inl, inr}
use Rattle.std.proofs.lemmas.Slice.Eq.{slice_eq-Decides}
use Rattle.std.specs.Bool.{Decides}
use Rattle.wm_traits.specs.declared.row.Row.{Row}
use Rattle.wm_traits.specs.declared.row.RowChange.{RowChange}
use Rattle.wm_traits.specs.Rows.{changed, new_tables}
use Rattle.wm_traits.specs.Told.{Becomes, Grows}
use Rattle.wm_tables.specs.Opened.{same_row}
use Rattle.wm_tables.proofs.SameRows.{found_there, there_found}
use Rattle.wm_floor.specs.Keeping.{same_tables, added, Telling, IsApplied}

or_false : (t : Bool) → (t || false) ≡ t
or_false true = refl
or_false false = refl

rows_decide : (a b : Row) → Decides (same_row a b) (a ≡ b)
rows_decide a b = (
  (λ h. elim (found_there (b ∷ []) a (or_false (same_row a b) ∙ h)) as (λ _. a ≡ b) [ inl e ↦ e | inr i ↦ absurd i ]),
  (λ e. sym (or_false (same_row a b)) ∙ there_found (b ∷ []) a (inl e)),
)

tables_decide : (before after : List Row) → Decides (same_tables before after) (before ≡ after)
tables_decide before after = slice_eq-Decides rows_decide before after (same_tables before after) refl

-- the same table adds nothing
pub added_none : (before after : List Row) → before ≡ after → added before after ≡ []
added_none before after e = ap (λ (t : Bool). cond t [] (after ∷ [])) ((tables_decide before after).1 e)

-- another one is added
pub added_one : (before after : List Row) → (before ≡ after → ⊥) → added before after ≡ after ∷ []
added_one before after other = by (same_tables before after) refl
  where
    by : (t : Bool) → same_tables before after ≡ t → cond t [] (after ∷ []) ≡ after ∷ []
    by true is = absurd (other ((tables_decide before after).0 is))
    by false is = refl

-- changes add what there is new, where without a difference there are none
pub added_by : (before after : List Row) (changes : List RowChange) → changed changes before ≡ after → (before ≡ after → changes ≡ []) → new_tables changes after ≡ added before after
added_by before after [] makes none = sym (added_none before after makes)
added_by before after (change ∷ changes) makes none = sym (added_one before after (λ e. (let no = none e in absurd (cc))))

-- what is told after changes that make one table of another
pub record IsMoved (before after : List Row) (old new : Telling) : Type 0 where
  pub rows : IfSome new.tables (λ rows. rows ≡ after)
  pub trail : Grows old.trail new.trail (added before after)

moved_by : (changes : List RowChange) (before after : List Row) (ot nt : Option (List Row)) (ol nl : Option (List (List Row))) → Becomes ot nt (changed changes) → IfSome nt (λ rows. Grows ol nl (new_tables changes rows)) → IfSome ot (λ rows. rows ≡ before) → changed changes before ≡ after → (before ≡ after → changes ≡ []) → is_some nl ≡ is_some nt → IsMoved before after (record { tables = ot; trail = ol }) (record { tables = nt; trail = nl })
moved_by changes before after ot None ol None becomes grows was makes none both = record { rows = tt; trail = tt }
moved_by changes before after ot None ol (Some trail) becomes grows was makes none both = absurd (cc)
moved_by changes before after None (Some now) ol nl becomes grows was makes none both = absurd becomes
moved_by changes before after (Some then) (Some now) ol nl becomes grows was makes none both =
    let is : now ≡ after = becomes ∙ ap (changed changes) was ∙ makes in
    let adds : new_tables changes now ≡ added before after = ap (new_tables changes) is ∙ added_by before after changes makes none in
    record { rows = is; trail = subst (λ (more : List (List Row)). Grows ol nl more) adds grows }

-- changes that were made move what is told
pub moved : (changes : List RowChange) (before after : List Row) (old new : Telling) → IsApplied changes old new → IfSome old.tables (λ rows. rows ≡ before) → changed changes before ≡ after → (before ≡ after → changes ≡ []) → is_some new.trail ≡ is_some new.tables → IsMoved before after old new
moved changes before after old new applied was makes none both = moved_by changes before after old.tables new.tables old.trail new.trail applied.tables applied.trail was makes none both
