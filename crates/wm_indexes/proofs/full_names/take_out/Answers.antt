use Rattle.std.proofs.Common.{◌≡◌, ◌+◌, true, cond, count_by, subst}
use Rattle.std.specs.List.{remove}
use Rattle.std.proofs.lemmas.List.Quantifiers.{all_pairs_remove}
use Rattle.std.proofs.lemmas.List.Sums.{sum_by-remove}
use Rattle.wm_indexes.specs.declared.keys.FullName.{FullName}
use Rattle.wm_indexes.specs.FullNames.{serial_of, is_of, is_row, is_up_to}
use Rattle.wm_indexes.proofs.JobLemmas.{total-remove}
use Rattle.wm_indexes.proofs.full_names.take_out.Goals as goal

pub returns-clause-in_order : goal.returns-clause-in_order
returns-clause-in_order c =
    let in_range = rw c.as_slice.ensures.value at c.place_of-at.ensures.in_range in
    rw c.remove.ensures.items (all_pairs_remove (λ first second. is_up_to second.job first ≡ true) c.args.rows.now.items c.place_of-at.result in_range c.requires.in_order)

pub returns-clause-rows : goal.returns-clause-rows
returns-clause-rows c = λ job.
    let in_range = rw c.as_slice.ensures.value at c.place_of-at.ensures.in_range in
    let here = rw c.as_slice.ensures.value at c.place_of-at.ensures.value in
    rw c.remove.ensures.items (total-remove serial_of (is_of job) c.args.rows.now.items c.place_of-at.result c.args.row.now in_range here c.requires.range)

pub returns-clause-each : goal.returns-clause-each
returns-clause-each c = λ x.
    let rows = c.args.rows.now.items in
    let at = c.place_of-at.result in
    let in_range = rw c.as_slice.ensures.value at c.place_of-at.ensures.in_range in
    let here = rw c.as_slice.ensures.value at c.place_of-at.ensures.value in
    let parts = sum_by-remove (λ (y : FullName). cond (is_row x y) 1 0) rows at c.args.row.now in_range in
    rw c.remove.ensures.items (subst (λ (y : FullName). count_by (is_row x) (remove rows at) + cond (is_row x y) 1 0 ≡ count_by (is_row x) rows) here parts)
