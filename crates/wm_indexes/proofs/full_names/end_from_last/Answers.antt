use Rattle.std.proofs.Common.{ap, sym, ◌∙◌}
use Rattle.std.specs.Ordering.{is_le}
use Rattle.std.proofs.lemmas.Option.{get_or_from_slice_get}
use Rattle.wm_indexes.proofs.FullRows.{up_to_last, not_above}
use Rattle.wm_indexes.proofs.full_names.end_from_last.Goals as goal

-- the last row isn't of a name above this one
pub returns-in_default-clause-parts : goal.returns-in_default-clause-parts
returns-in_default-clause-parts c =
    let last = c.in-Some.last.now in
    let here = sym (get_or_from_slice_get c.args.rows.now _ last last (sym c.in-Some.ensures.value)) in
    up_to_last c.args.job.now c.args.rows.now c.requires last here (ap is_le (sym c.cmp.ensures) ∙ not_above _ (sym c.if-is_gt.ensures))
