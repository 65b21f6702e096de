use Rattle.std.proofs.Common.{◌≡◌, List, sym, subst, ◌∙◌}
use Rattle.wm_traits.specs.declared.row.Row.{Row}
use Rattle.wm_traits.specs.Rows.{changed}
use Rattle.wm_tables.specs.Opened.{PutsNew}
use Rattle.wm_tables.specs.Tables.{tables}
use Rattle.wm_restart.proofs.Restarts.{none_there}
use Rattle.wm_restart.proofs.open.open_rows.Goals as goal

pub returns-in_ok-opened-clause-changes : goal.returns-in_ok-opened-clause-changes
returns-in_ok-opened-clause-changes c =
    let none = none_there c.args.rows.now (sym c.is_empty.ensures ∙ c.if-is_empty.true) in
    subst (λ (rows : List Row). changed c.in_ok-opened.opened.changes.items rows ≡ tables c.in_ok-opened.opened.core.state) (sym none) c.in_ok-opened.ensures.changes

pub returns-in_ok-opened-clause-new : goal.returns-in_ok-opened-clause-new
returns-in_ok-opened-clause-new c =
    let none = none_there c.args.rows.now (sym c.is_empty.ensures ∙ c.if-is_empty.true) in
    subst (λ (rows : List Row). PutsNew rows c.in_ok-opened.opened.changes.items) (sym none) c.in_ok-opened.ensures.new
