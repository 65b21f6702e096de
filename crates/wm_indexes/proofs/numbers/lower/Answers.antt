use Rattle.std.proofs.Common.{◌≡◌, ◌-◌, ℕ, sym, arith}
use Rattle.wm_indexes.specs.Seats.{number_at}
use Rattle.wm_indexes.proofs.Counts.{number-lowered, number-taken, some-removed, some-set, value-there}
use Rattle.wm_indexes.proofs.numbers.lower.Goals as goal

pub returns-then-number-gt1-clause-numbers : goal.returns-then-number-gt1-clause-numbers
returns-then-number-gt1-clause-numbers c = λ there e.
    let n : ℕ = c.number-number.result in
    let is = value-there c.args.entry.now c.args.rows.now.items n (sym c.number-number.ensures) (omega (arith, c.if-number-gt1.true)) in
    rw c.set.ensures.items (number-lowered c.args.entry.now e c.args.rows.now.items n (n - 1) is (omega (arith, c.if-number-gt1.true)))

pub returns-then-number-gt1-clause-some : goal.returns-then-number-gt1-clause-some
returns-then-number-gt1-clause-some c = λ some.
    rw c.set.ensures.items (some-set c.args.entry.now (c.number-number.result - 1) c.args.rows.now.items (omega (arith, c.if-number-gt1.true)) some)

pub returns-else-number-gt1-clause-numbers : goal.returns-else-number-gt1-clause-numbers
returns-else-number-gt1-clause-numbers c = λ there e.
    let one : number_at c.args.entry.now c.args.rows.now.items ≡ 1 = omega (arith, there, c.number-number.ensures, c.if-number-gt1.false) in
    rw c.take_row.ensures.items (number-taken c.args.entry.now e c.args.rows.now.items one)

pub returns-else-number-gt1-clause-some : goal.returns-else-number-gt1-clause-some
returns-else-number-gt1-clause-some c = λ some. rw c.take_row.ensures.items (some-removed c.args.entry.now c.args.rows.now.items some)
