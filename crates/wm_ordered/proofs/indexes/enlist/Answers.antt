use Rattle.wm_ordered.specs.Keys.{spot_of, rise_of, nothing_of}
use Rattle.wm_ordered.specs.Waiting.{serial_of, is_up, is_ahead}
use Rattle.wm_ordered.proofs.IndexLemmas.{index-keeps}
use Rattle.wm_ordered.proofs.Orders.{ahead-not_up, not_ahead, held-not_up}
use Rattle.wm_ordered.proofs.indexes.enlist.Goals as goal

pub returns-then-gt-clause-turns : goal.returns-then-gt-clause-turns
returns-then-gt-clause-turns c = λ items i index. index-keeps spot_of serial_of (is_up c.args.clock) items c.args.turns.now.items index c.args.waiter.now i (ahead-not_up c.args.clock c.args.waiter.now c.if-gt.ensures)

pub returns-then-not-waiter-clause-early : goal.returns-then-not-waiter-clause-early
returns-then-not-waiter-clause-early c = λ items i index. index-keeps rise_of nothing_of (is_ahead c.args.clock) items c.args.early.now.items index c.args.waiter.now i (not_ahead c.args.clock c.args.waiter.now c.if-gt.ensures)

pub returns-else-not-waiter-clause-turns : goal.returns-else-not-waiter-clause-turns
returns-else-not-waiter-clause-turns c = λ items i index. index-keeps spot_of serial_of (is_up c.args.clock) items c.args.turns.now.items index c.args.waiter.now i (held-not_up c.args.clock c.args.waiter.now c.if-not-waiter.false)

pub returns-else-not-waiter-clause-early : goal.returns-else-not-waiter-clause-early
returns-else-not-waiter-clause-early c = λ items i index. index-keeps rise_of nothing_of (is_ahead c.args.clock) items c.args.early.now.items index c.args.waiter.now i (not_ahead c.args.clock c.args.waiter.now c.if-gt.ensures)
