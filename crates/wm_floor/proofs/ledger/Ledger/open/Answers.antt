use Rattle.std.proofs.Common.{sym, subst}
use Rattle.wm_floor.specs.Ledger.{IsLedger, Ledgered}
use Rattle.wm_floor.specs.Stored.{Stored}
use Rattle.wm_floor.proofs.Ledgers.{opened_ledger}
use Rattle.wm_floor.proofs.ledger.Ledger.open.Goals as goal

pub invariant_of-result : goal.invariant_of-result
invariant_of-result g c =
    let k = g.K.Keeper in
    let found = c.of-found.result.value in
    let opened = c.of-opened.result.value in
    let log = c.new-in-Ok.result.items in
    let first = opened_ledger k.faults k.tables k.trail c.args.setup.now.offset c.args.keeper c.in_ok-stored.stored c.args.limit
    c.in_ok-stored.ensures.ok c.in_ok-stored.ensures.ok_faults c.requires.most found opened log c.of-found.ensures c.of-opened.ensures c.new-in-Ok.ensures.items in
    let ledger = λ (s : Stored g.row.K.Denot). let l : Ledgered g.row.K.Denot = record { opening = record { state = opened.state; keeper = opened.keeper; found = found; limit = c.args.limit }; log = log; keeper = s.keeper; misses = 0 } in IsLedger k.faults k.tables k.trail l s.state in
    subst ledger (sym c.in-Ok.ensures.ok) first
