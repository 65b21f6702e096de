-- The changes that are made where there are no rows make the tables of the opening state.
use Rattle.std.proofs.Common.{◌≡◌, ℤ, List, [], ◌∷◌, refl, sym, ap, subst, ◌∙◌, inl, inr}
use Rattle.wm_desc.specs.Opening.{qbatch, qdftjobd, echo}
use Rattle.wm_traits.specs.declared.row.Row.{Row}
use Rattle.wm_traits.specs.declared.row.RowChange.{RowChange}
use Rattle.wm_traits.specs.Rows.{changed}
use Rattle.wm_law.specs.Laws.{IsIn}
use Rattle.wm_law.specs.Making.{class_of, jobd_of, queue_entry_of, route_entry_of}
use Rattle.wm_law.specs.Opening.{addjobqe_qbatch, addrtge_qbatch, crtcls_qbatch, crtjobd_qbatch, crtjobd_qdftjobd, crtpgmref_echo, opening}
use Rattle.wm_law.specs.Sound.{IsSound}
use Rattle.wm_law.specs.declared.state.State.{State}
use Rattle.wm_law.proofs.Opened.{batch_sbsd, opened, opening_is}
use Rattle.wm_law.proofs.Sound.{opening_is_sound}
use Rattle.wm_rows.specs.Rows.{class_row, program_row, queue_row, jobd_row, sbsd_row, queue_entry_row, route_entry_row}
use Rattle.wm_rows.specs.Tables.{counter_rows}
use Rattle.wm_tables.specs.Opened.{PutsNew}
use Rattle.wm_tables.specs.Ranges.{IsInRange}
use Rattle.wm_tables.specs.Tables.{puts, rows_of, tables}
use Rattle.wm_tables.proofs.OwnRows.{own_rows}
use Rattle.wm_tables.proofs.RangedRestarts.{opening_is_in_range}
use Rattle.wm_tables.proofs.RowOrder.{IsAscending, ascending, in_tables, of_changed, of_tables, put_in_order, stays}
use Rattle.wm_tables.proofs.SameRows.{one_list, one_place}
use Rattle.wm_restart.specs.Written.{first_changes}
use Rattle.wm_restart.proofs.JobChanges.{put_new}

-- the rows behind those of the job descriptions
abbrev last_rows : List Row
last_rows = sbsd_row (qbatch, batch_sbsd) ∷ queue_entry_row qbatch (queue_entry_of addjobqe_qbatch) ∷ route_entry_row qbatch (route_entry_of addrtge_qbatch) ∷ counter_rows 1 1 1

abbrev the_class : Row
the_class = class_row (qbatch, class_of crtcls_qbatch)

abbrev the_program : Row
the_program = program_row (echo, record { path = crtpgmref_echo.path })

abbrev the_queue : Row
the_queue = queue_row (qbatch, record {})

abbrev the_default : Row
the_default = jobd_row (qdftjobd, jobd_of crtjobd_qdftjobd)

abbrev the_batch : Row
the_batch = jobd_row (qbatch, jobd_of crtjobd_qbatch)

-- the rows in the order of the commands
abbrev first_rows : List Row
first_rows = the_class ∷ the_program ∷ the_queue ∷ the_default ∷ the_batch ∷ last_rows

-- and in that of their keys
abbrev sorted_rows : List Row
sorted_rows = the_class ∷ the_program ∷ the_queue ∷ the_batch ∷ the_default ∷ last_rows

first_are : first_changes ≡ puts first_rows
first_are = refl

rows_are : (offset : ℤ) → rows_of (opened offset) ≡ sorted_rows
rows_are offset = refl

-- two rows that change their places
swapped : (a b c d e r : Row) (rows : List Row) → IsIn r (a ∷ b ∷ c ∷ d ∷ e ∷ rows) → IsIn r (a ∷ b ∷ c ∷ e ∷ d ∷ rows)
swapped a b c d e r rows (inl h) = inl h
swapped a b c d e r rows (inr (inl h)) = inr (inl h)
swapped a b c d e r rows (inr (inr (inl h))) = inr (inr (inl h))
swapped a b c d e r rows (inr (inr (inr (inl h)))) = inr (inr (inr (inr (inl h))))
swapped a b c d e r rows (inr (inr (inr (inr (inl h))))) = inr (inr (inr (inl h)))
swapped a b c d e r rows (inr (inr (inr (inr (inr i))))) = inr (inr (inr (inr (inr i))))

module _ (offset : ℤ) where
  abbrev s : State
  s = opened offset

  of_first : (r : Row) → IsIn r first_rows → IsIn r (rows_of s)
  of_first r i = subst (IsIn r) (sym (rows_are offset)) (swapped the_class the_program the_queue the_default the_batch r last_rows i)

  in_first : (r : Row) → IsIn r (rows_of s) → IsIn r first_rows
  in_first r i = swapped the_class the_program the_queue the_batch the_default r last_rows (subst (IsIn r) (rows_are offset) i)

  there : (r : Row) → IsIn r (rows_of s) → IsIn r (tables s)
  there r i = in_tables (rows_of s) (own_rows s (subst IsSound (opening_is offset) (opening_is_sound offset)) (subst IsInRange (opening_is offset) (opening_is_in_range offset))) r i

  up : IsAscending (tables s)
  up = ascending (tables s) (put_in_order (rows_of s))

  of_put : (r : Row) → IsIn r (changed (puts first_rows) []) → IsIn r (tables s)
  of_put r i = elim (of_changed first_rows [] r i) as (λ _. IsIn r (tables s)) [ inl m ↦ there r (of_first r m) | inr none ↦ absurd none ]

  in_put : (r : Row) → IsIn r (tables s) → IsIn r (changed (puts first_rows) [])
  in_put r i = stays first_rows [] r (λ u k e. one_place (tables s) r u up i (there u (of_first u k)) e) (inl (in_first r (of_tables (rows_of s) r i)))

  put_tables : changed (puts first_rows) [] ≡ tables s
  put_tables = one_list (changed (puts first_rows) []) (tables s) (ascending (changed (puts first_rows) []) (put_in_order first_rows)) up of_put in_put

pub first_make_tables : (offset : ℤ) → changed first_changes [] ≡ tables (opening offset)
first_make_tables offset =
    ap (λ (cs : List RowChange). changed cs []) first_are ∙ (put_tables offset ∙ ap tables (sym (opening_is offset)))

-- each puts a row, and none was there
pub first_are_new : PutsNew [] first_changes
first_are_new = subst (PutsNew []) (sym first_are) (put_new [] first_rows (λ r i none. none))
