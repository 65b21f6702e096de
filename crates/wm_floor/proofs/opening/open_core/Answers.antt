use Rattle.std.proofs.Common.{◌≡◌, List, IfSome, sym, subst}
use Rattle.wm_traits.specs.declared.row.Row.{Row}
use Rattle.wm_traits.specs.declared.row.RowChange.{RowChange}
use Rattle.wm_traits.specs.Rows.{changed}
use Rattle.wm_tables.specs.Opened.{PutsNew}
use Rattle.wm_tables.specs.Tables.{tables}
use Rattle.wm_floor.specs.Keeping.{telling}
use Rattle.wm_floor.proofs.Openings.{opened, opened_in_step, IsMade}
use Rattle.wm_floor.proofs.opening.open_core.Goals as goal

pub returns-in-Ok-clause-ok : goal.returns-in-Ok-clause-ok
returns-in-Ok-clause-ok g c =
    let offset = c.args.setup.now.offset in
    let s = c.in_ok-opened.opened.core.state in
    let rows = c.deref.result.now in
    let changes = c.deref-2.result.now in
    let T = telling g.K.Keeper.tables g.K.Keeper.trail in
    let made : IsMade offset s rows changes (T c.args.keeper.now) (T c.load.new.self) (T c.apply.new.keeper) = record {
      restart = c.in_ok-opened.ensures.ok;
      makes = subst (λ (cs : List RowChange). changed cs rows ≡ tables s) (sym c.deref-2.ensures.value) c.in_ok-opened.ensures.changes;
      puts = subst (λ (cs : List RowChange). PutsNew rows cs) (sym c.deref-2.ensures.value) c.in_ok-opened.ensures.new;
      were = subst (λ (rs : List Row). IfSome (g.K.Keeper.tables c.args.keeper.now) (λ told. rs ≡ told)) (sym c.deref.ensures.value) c.in_ok-rows.ensures.rows;
      tables = c.in_ok-rows.ensures.tables;
      trail = c.in_ok-rows.ensures.trail;
      applied = c.in-Ok.ensures.ok;
    } in
    let both = g.met.K.Keeper.trail_with_tables c.apply.new.keeper in
    (opened offset s rows changes (T c.args.keeper.now) (T c.load.new.self) (T c.apply.new.keeper) made both, opened_in_step offset s rows changes (T c.args.keeper.now) (T c.load.new.self) (T c.apply.new.keeper) made both)
