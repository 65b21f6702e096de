use Rattle.wm_ordered.specs.Keys.{spot_of, rise_of, nothing_of}
use Rattle.wm_ordered.specs.Waiting.{serial_of, is_up, is_ahead}
use Rattle.wm_ordered.proofs.Moves.{found-left, spot-shrinks, rise-shrinks}
use Rattle.wm_ordered.proofs.Orders.{ahead-not_up, not_ahead, held-not_up}
use Rattle.wm_ordered.proofs.moving.delist.Goals as goal

pub returns-then-gt-clause-turns : goal.returns-then-gt-clause-turns
returns-then-gt-clause-turns c = λ serial items by index. found-left serial c.args.waiter.now items by spot_of serial_of (is_up c.args.clock) c.args.turns.now.items index (ahead-not_up c.args.clock c.args.waiter.now c.if-gt.ensures)

pub returns-then-gt-clause-early : goal.returns-then-gt-clause-early
returns-then-gt-clause-early c = λ serial items by index.
    rw (c.take_out.ensures.items, c.of.ensures) (rise-shrinks serial c.args.waiter.now items by nothing_of (is_ahead c.args.clock) c.args.early.now.items index)

pub returns-then-not-waiter-clause-turns : goal.returns-then-not-waiter-clause-turns
returns-then-not-waiter-clause-turns c = λ serial items by index.
    rw (c.take_out-then-not-waiter.ensures.items, c.of-then-not-waiter.ensures) (spot-shrinks serial c.args.waiter.now items by serial_of (is_up c.args.clock) c.args.turns.now.items index)

pub returns-then-not-waiter-clause-early : goal.returns-then-not-waiter-clause-early
returns-then-not-waiter-clause-early c = λ serial items by index. found-left serial c.args.waiter.now items by rise_of nothing_of (is_ahead c.args.clock) c.args.early.now.items index (not_ahead c.args.clock c.args.waiter.now c.if-gt.ensures)

pub returns-else-not-waiter-clause-turns : goal.returns-else-not-waiter-clause-turns
returns-else-not-waiter-clause-turns c = λ serial items by index. found-left serial c.args.waiter.now items by spot_of serial_of (is_up c.args.clock) c.args.turns.now.items index (held-not_up c.args.clock c.args.waiter.now c.if-not-waiter.false)

pub returns-else-not-waiter-clause-early : goal.returns-else-not-waiter-clause-early
returns-else-not-waiter-clause-early c = λ serial items by index. found-left serial c.args.waiter.now items by rise_of nothing_of (is_ahead c.args.clock) c.args.early.now.items index (not_ahead c.args.clock c.args.waiter.now c.if-gt.ensures)
