use Rattle.std.proofs.Common.{◌+◌, is_some, ap, sym, ◌∙◌, arith, refl}
use Rattle.wm_desc.specs.Sorted.{place_of}
use Rattle.wm_ordered.specs.Ordered.{key_of}
use Rattle.wm_ordered.proofs.Keyed.{has-value}
use Rattle.wm_indexes.specs.Ready.{entry_cmp, same_entry}
use Rattle.wm_indexes.proofs.Counts.{number-added, number-raised, some-added, some-set}
use Rattle.wm_indexes.proofs.numbers.raise.Goals as goal

pub insert-requires-clause-new : goal.insert-requires-clause-new
insert-requires-clause-new c = has-value same_entry c.args.entry.now c.args.rows.now.items ∙ ap is_some (sym c.in-None.ensures)

pub returns-in-Some-clause-numbers : goal.returns-in-Some-clause-numbers
returns-in-Some-clause-numbers c = λ e.
    rw c.set.ensures.items (number-raised c.args.entry.now e c.args.rows.now.items c.in-Some.number (c.in-Some.number + 1) (sym c.in-Some.ensures) refl)

pub returns-in-Some-clause-some : goal.returns-in-Some-clause-some
returns-in-Some-clause-some c = λ some.
    rw c.set.ensures.items (some-set c.args.entry.now (c.in-Some.number + 1) c.args.rows.now.items (omega arith) some)

pub returns-in-None-clause-numbers : goal.returns-in-None-clause-numbers
returns-in-None-clause-numbers c = λ e.
    rw c.insert.ensures.items (number-added c.args.entry.now e 1 c.args.rows.now.items (place_of key_of entry_cmp c.args.entry.now c.args.rows.now.items) (sym c.in-None.ensures))

pub returns-in-None-clause-some : goal.returns-in-None-clause-some
returns-in-None-clause-some c = λ some.
    rw c.insert.ensures.items (some-added c.args.rows.now.items (place_of key_of entry_cmp c.args.entry.now c.args.rows.now.items) (c.args.entry.now, 1) (omega arith) some)
