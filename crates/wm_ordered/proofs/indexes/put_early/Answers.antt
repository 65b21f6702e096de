use Rattle.wm_ordered.specs.Keys.{rise_of, nothing_of}
use Rattle.wm_ordered.specs.Waiting.{is_ahead}
use Rattle.wm_ordered.proofs.IndexLemmas.{index-grows}
use Rattle.wm_ordered.proofs.indexes.put_early.Goals as goal

pub returns-clause-index : goal.returns-clause-index
returns-clause-index c = λ clock items i ahead index.
    rw (c.insert.ensures.items, c.of.ensures) (index-grows rise_of nothing_of (is_ahead clock) items c.args.early.now.items index c.args.waiter.now i _ ahead)
