use Rattle.std.proofs.Common.{◌≡◌, ◌∙◌, ◌+◌, ◌≤◌, sym, ap, arith}
use Rattle.wm_law.specs.Pending.{next_ending}
use Rattle.wm_jobs.specs.Table.{active_in, kills_in, starting_in}
use Rattle.wm_core.specs.MachineInside.{Seen, state_of}
use Rattle.wm_core.proofs.OrderCounts.{orders_active, pending_is}
use Rattle.wm_core.proofs.machine.Machine.pending.Goals as goal

pub overflow_add-result : goal.overflow_add-result
overflow_add-result c =
    let jobs = (state_of c.self.inside).jobs in
    let few : kills_in c.args.monitor jobs + starting_in jobs ≤ active_in jobs = orders_active c.args.monitor jobs in
    let kills : c.kills.result ≡ kills_in c.args.monitor jobs = c.kills.ensures in
    let starts : c.orders.result ≡ starting_in jobs = c.orders.ensures in
    let actives : c.active-active.result ≡ active_in jobs = c.active-active.ensures in
    let fits = c.active-active.type_inv in
    omega arith

pub returns : goal.returns
returns c =
    let s = state_of c.self.inside in
    rw (← c.self.view_is)
    (pending_is s c.args.monitor c.kills.result c.orders.result c.active-active.result c.busy.result c.next_due.result c.next_wish.result c.next_ending.result c.soonest-wishes.result c.soonest.result
    c.kills.ensures c.orders.ensures c.active-active.ensures c.busy.ensures c.next_due.ensures c.next_wish.ensures (c.next_ending.ensures ∙ ap (λ (t : Seen). next_ending t.state) (sym c.self.view_is)) c.soonest-wishes.ensures c.soonest.ensures)
