use Rattle.std.proofs.Common.{◌≡◌, ◌≤◌, true, false, length, subst}
use Rattle.std.specs.List.Sorted.{IsPartitionPoint}
use Rattle.wm_indexes.specs.FullNames.{serial_of, is_of, is_up_to}
use Rattle.wm_indexes.proofs.FullRows.{order-insert}
use Rattle.wm_indexes.proofs.JobLemmas.{total-insert}
use Rattle.wm_indexes.proofs.full_names.put.Goals as goal

pub returns-clause-in_order : goal.returns-clause-in_order
returns-clause-in_order c =
    let row = c.args.row in
    let at = c.end_from_last-at.result in
    let bound = subst (λ rows. at ≤ length rows) c.as_slice.ensures.value c.end_from_last-at.ensures.bound in
    let point = subst (λ rows. IsPartitionPoint (λ x. is_up_to row.job x ≡ true) (λ x. is_up_to row.job x ≡ false) rows at) c.as_slice.ensures.value c.end_from_last-at.ensures.parts in
    rw c.put_at.ensures.items (order-insert row c.args.rows.now.items at c.requires.in_order bound point)

pub returns-clause-rows : goal.returns-clause-rows
returns-clause-rows c = λ job.
    rw c.put_at.ensures.items (total-insert serial_of (is_of job) c.args.rows.now.items c.end_from_last-at.result c.args.row)
