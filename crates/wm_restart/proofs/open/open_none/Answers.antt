use Rattle.std.proofs.Common.{List, [], sym, subst, ap, ◌∙◌}
use Rattle.wm_traits.specs.declared.row.RowChange.{RowChange}
use Rattle.wm_traits.specs.Rows.{changed}
use Rattle.wm_tables.specs.Opened.{PutsNew}
use Rattle.wm_tables.specs.Tables.{tables}
use Rattle.wm_restart.proofs.FirstChanges.{first_are_new, first_make_tables}
use Rattle.wm_restart.proofs.open.open_none.Goals as goal

pub returns-clause-changes : goal.returns-clause-changes
returns-clause-changes c = ap (λ (cs : List RowChange). changed cs []) c.in_ok-changes.ensures ∙ (first_make_tables c.args.setup.now.offset ∙ ap tables (sym c.in_ok-core.ensures.state))

pub returns-clause-new : goal.returns-clause-new
returns-clause-new c = subst (PutsNew []) (sym c.in_ok-changes.ensures) first_are_new
