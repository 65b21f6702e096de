use Rattle.std.proofs.Common.{◌≡◌, true, IsTrue}
use Rattle.sqlite.specs.State.{HasCleanDisk, KeepsCommit}
use Rattle.sqlite.specs.Held.{state}
use Rattle.wm_sqlkeep.specs.Causes.{AreMade}
use Rattle.wm_sqlkeep.proofs.table.apply.Given as goal

-- the transaction is open, nothing is committed yet, and the changes so far are made
abbrev pub invariant-changes : goal.invariant-changes
invariant-changes g l =
    (l.tx.conn.ghost_name ≡ l.initial.tx.conn.ghost_name)
    × (HasCleanDisk (state g.S.Store l.tx.conn.now)
    → KeepsCommit (state g.S.Store l.fn.conn) (state g.S.Store l.tx.conn.now)
    × IsTrue l.tx.conn.now.in_transaction
    × AreMade g.S.Store l.changes l.change-index (record l.fn.conn { in_transaction = true }) l.tx.conn.now)
