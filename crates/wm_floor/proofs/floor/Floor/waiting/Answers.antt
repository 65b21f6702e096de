use Rattle.std.proofs.Common.{sym, ap, ◌∙◌}
use Rattle.wm_law.specs.Pending.{pending}
use Rattle.wm_floor.specs.History.{reached}
use Rattle.wm_floor.specs.Ledger.{behind}
use Rattle.wm_floor.proofs.floor.Floor.waiting.Goals as goal

pub returns-clause-waits : goal.returns-clause-waits
returns-clause-waits g c =
    let e = c.pending.ensures in
    record { at = e.at; pending = e.pending ∙ ap (pending (reached (behind c.args.self.now.opening c.pending.new.pass.seen))) (c.number-monitor.ensures.value ∙ sym e.same.number) }
