use Rattle.std.proofs.Common.{sym, ◌∙◌}
use Rattle.wm_indexes.proofs.NumberLemmas.{counted-there, not-parted, parted}
use Rattle.wm_indexes.proofs.numbers.part.Goals as goal

pub returns-then-is_available-clause-numbers : goal.returns-then-is_available-clause-numbers
returns-then-is_available-clause-numbers c = λ jobs serial are sorted is.
    let counts = sym c.is_available.ensures ∙ c.if-is_available.true in
    let there = counted-there serial c.args.job.now jobs sorted is c.args.numbers.now.items are counts in
    parted serial c.args.job.now jobs sorted is c.args.numbers.now.items are c.lower.new.rows.items counts (c.lower.ensures.numbers there) (c.lower.ensures.some are.some)

pub returns-else-is_available-clause-numbers : goal.returns-else-is_available-clause-numbers
returns-else-is_available-clause-numbers c = λ jobs serial are sorted is.
    not-parted serial c.args.job.now jobs sorted is c.args.numbers.now.items are (sym c.is_available.ensures ∙ c.if-is_available.false)
