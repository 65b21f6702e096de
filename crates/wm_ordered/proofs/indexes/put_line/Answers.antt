use Rattle.std.proofs.Common.{true, refl}
use Rattle.wm_ordered.specs.Keys.{spot_of}
use Rattle.wm_ordered.specs.Waiting.{serial_of}
use Rattle.wm_ordered.proofs.IndexLemmas.{index-grows}
use Rattle.wm_ordered.proofs.indexes.put_line.Goals as goal

pub returns-clause-index : goal.returns-clause-index
returns-clause-index c = λ items i index.
    rw (c.insert.ensures.items, c.of.ensures) (index-grows spot_of serial_of (λ w. true) items c.args.lines.now.items index c.args.waiter.now i _ refl)
