use Rattle.wm_ordered.specs.Keys.{spot_of}
use Rattle.wm_ordered.specs.Waiting.{serial_of, is_up}
use Rattle.wm_ordered.proofs.IndexLemmas.{index-grows}
use Rattle.wm_ordered.proofs.indexes.put_turn.Goals as goal

pub returns-clause-index : goal.returns-clause-index
returns-clause-index c = λ clock items i up index.
    rw (c.insert.ensures.items, c.of.ensures) (index-grows spot_of serial_of (is_up clock) items c.args.turns.now.items index c.args.waiter.now i _ up)
