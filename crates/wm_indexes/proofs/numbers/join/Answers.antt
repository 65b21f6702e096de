use Rattle.std.proofs.Common.{sym, ◌∙◌}
use Rattle.wm_indexes.proofs.NumberLemmas.{joined}
use Rattle.wm_indexes.proofs.numbers.join.Goals as goal

pub returns-then-is_available-clause-numbers : goal.returns-then-is_available-clause-numbers
returns-then-is_available-clause-numbers c = λ jobs serial i are.
    joined jobs c.args.numbers.now.items are (serial, c.args.job.now) i c.raise.new.rows.items (sym c.is_available.ensures ∙ c.if-is_available.true) c.raise.ensures.numbers (c.raise.ensures.some are.some)
