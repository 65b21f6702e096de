use Rattle.wm_ordered.specs.Keys.{waiters_of}
use Rattle.wm_ordered.proofs.Brought.{ends-turns, ends-early}
use Rattle.wm_ordered.proofs.bringing.bring_due.Goals as goal

pub returns-clause-turns : goal.returns-clause-turns
returns-clause-turns c =
    ends-turns c.args.now (waiters_of c.args.all.now.items) c.loop-brought.turns.items c.loop-brought.early.items c.loop-brought.invariant.underway.underway (c.loop-brought.invariant.done c.loop-brought-test.false)

pub returns-clause-early : goal.returns-clause-early
returns-clause-early c =
    ends-early c.args.now (waiters_of c.args.all.now.items) c.loop-brought.turns.items c.loop-brought.early.items c.loop-brought.invariant.underway.underway (c.loop-brought.invariant.done c.loop-brought-test.false)
