-- What a run writes as it opens.
use Rattle.std.proofs.Common.{◌≡◌, ℤ, List, [], ◌∷◌, Option, Some, None, IfSome, is_some, refl, sym, subst, ◌∙◌, inl, inr}
use Rattle.wm_traits.specs.declared.row.Row.{Row}
use Rattle.wm_traits.specs.declared.row.RowChange.{RowChange}
use Rattle.wm_traits.specs.declared.row.RowChange.TheVariants.{Put}
use Rattle.wm_traits.specs.Rows.{changed, changed_by}
use Rattle.wm_traits.specs.Told.{Stays}
use Rattle.wm_law.specs.Laws.{IsIn}
use Rattle.wm_law.specs.declared.state.State.{State}
use Rattle.wm_tables.specs.Opened.{PutsNew}
use Rattle.wm_tables.specs.Restart.{IsRestart}
use Rattle.wm_tables.specs.Tables.{tables}
use Rattle.wm_tables.proofs.RangedRestarts.{restart_is_in_range}
use Rattle.wm_tables.proofs.Restarts.{restart_is_sound}
use Rattle.wm_tables.proofs.RowOrder.{new_there}
use Rattle.wm_floor.specs.Keeping.{added, Telling, IsApplied, IsOpened}
use Rattle.wm_floor.specs.Stored.{IsInStep}
use Rattle.wm_floor.proofs.Additions.{moved, IsMoved}
use Rattle.wm_floor.proofs.Staying.{Stays-grows}

-- a row that wasn't found, and stands in a table
record HasNew (found rows : List Row) : Type 0 where
  row : Row
  new : IsIn row found → ⊥
  there : IsIn row rows

first_new : (found rows : List Row) (change : RowChange) → (row : Row) × (change ≡ Put row) × (IsIn row found → ⊥) → HasNew found (changed_by rows change)
first_new found rows change new =
    let row = new.0 in
    record { row = row; new = new.2; there = subst (λ (c : RowChange). IsIn row (changed_by rows c)) (sym new.1) (new_there row rows) }

-- the last of changes that put new rows leaves its row
last_new : (found : List Row) (changes : List RowChange) (rows : List Row) (change : RowChange) → PutsNew found (change ∷ changes) → HasNew found (changed (change ∷ changes) rows)
last_new found [] rows change new = first_new found rows change (new change (inl refl))
last_new found (next ∷ changes) rows change new = last_new found changes (changed_by rows change) next (λ c i. new c (inr i))

-- changes that put new rows change the table
none_new : (found after : List Row) (changes : List RowChange) → PutsNew found changes → changed changes found ≡ after → found ≡ after → changes ≡ []
none_new found after [] new makes same = refl
none_new found after (change ∷ changes) new makes same =
    let has = last_new found changes found change new in
    absurd (has.new (subst (λ (rows : List Row). IsIn has.row rows) (makes ∙ sym same) has.there))

-- rows that were loaded, and the changes of the new run, which were made
pub record IsMade (offset : ℤ) (s : State) (rows : List Row) (changes : List RowChange) (old loaded new : Telling) : Type 0 where
  pub restart : IsRestart offset rows s
  pub makes : changed changes rows ≡ tables s
  pub puts : PutsNew rows changes
  pub were : IfSome old.tables (λ told. rows ≡ told)
  pub tables : Stays old.tables loaded.tables
  pub trail : Stays old.trail loaded.trail
  pub applied : IsApplied changes loaded new

loaded_rows : (rows : List Row) (old loaded : Option (List Row)) → IfSome old (λ told. rows ≡ told) → Stays old loaded → IfSome loaded (λ told. told ≡ rows)
loaded_rows rows old None were h = tt
loaded_rows rows None (Some then) were h = absurd h
loaded_rows rows (Some was) (Some then) were h = h ∙ sym were

told_rows : (rows : List Row) (told : Option (List Row)) → IfSome told (λ were. rows ≡ were) → IfSome told (λ were. were ≡ rows)
told_rows rows None h = tt
told_rows rows (Some was) h = sym h

module _ (offset : ℤ) (s : State) (rows : List Row) (changes : List RowChange) (old loaded new : Telling) (h : IsMade offset s rows changes old loaded new) (both : is_some new.trail ≡ is_some new.tables) where
  moves : IsMoved rows (tables s) loaded new
  moves = moved changes rows (tables s) loaded new h.applied (loaded_rows rows old.tables loaded.tables h.were h.tables) h.makes (none_new rows (tables s) changes h.puts h.makes) both

  pub opened : IsOpened offset s old new
  opened = record {
    found = rows;
    told = told_rows rows old.tables h.were;
    restart = h.restart;
    rows = moves.rows;
    trail = Stays-grows old.trail loaded.trail new.trail (added rows (tables s)) h.trail moves.trail;
  }

  pub opened_in_step : IsInStep s new.tables
  opened_in_step = record { sound = restart_is_sound offset rows s h.restart; range = restart_is_in_range offset rows s h.restart; tables = moves.rows }
