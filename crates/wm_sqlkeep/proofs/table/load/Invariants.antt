use Rattle.std.proofs.Common.{◌≡◌, ◌≤◌, [], List, map}
use Rattle.sqlite.specs.Order.{Row}
use Rattle.sqlite.specs.State.{HasCleanDisk, IsUnchanged}
use Rattle.sqlite.specs.Held.{state}
use Rattle.sqlite.specs.Given.{HasGiven}
use Rattle.wm_sqlkeep.specs.Causes.{load_text, columns_of}
use Rattle.wm_sqlkeep.specs.Done.{first_columns}
use Rattle.wm_sqlkeep.proofs.table.load.Given as goal

-- SQLite has given some rows, which are those that are loaded, and the connection shows what it did
abbrev pub invariant-rows : goal.invariant-rows
invariant-rows g l =
    let old = state g.S.Store l.fn.conn in
    let now = state g.S.Store l.rows.conn.now in
    (l.rows.conn.ghost_name ≡ l.initial.rows.conn.ghost_name)
    × (old.faults ≤ now.faults)
    × (HasCleanDisk now → ((given : List Row) × HasGiven g.S.Store load_text [] l.rows.conn.now given × (map first_columns given ≡ map columns_of l.loaded.items)) × IsUnchanged old now)
