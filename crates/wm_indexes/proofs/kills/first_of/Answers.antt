use Rattle.std.proofs.Common.{◌==◌, ℕ, Bool, option_map, ap, sym, ◌∙◌}
use Rattle.wm_ordered.specs.Ordered.{key_of}
use Rattle.wm_ordered.proofs.Walked.{next-at}
use Rattle.wm_indexes.proofs.Walk.{differs, is-same, found-at, found-later}
use Rattle.wm_indexes.proofs.kills.first_of.Goals as goal

pub returns-then-row-monitor : goal.returns-then-row-monitor
returns-then-row-monitor c =
    let asks : ℕ × ℕ → Bool = λ row. row.1 == c.args.monitor in
    let at = sym c.loop-place.invariant.next ∙ c.in-Some.is in
    ap (option_map key_of) (sym (found-at asks c.args.kills.now.items c.loop-place._place c.in-Some.row at (is-same c.in-Some.row.1 c.args.monitor c.if-row-monitor.true)) ∙ c.loop-place.invariant.rest)

pub loop-place-preserved : goal.loop-place-preserved
loop-place-preserved c =
    let asks : ℕ × ℕ → Bool = λ row. row.1 == c.args.monitor in
    let items = c.args.kills.now.items in
    let at = sym c.loop-place.invariant.next ∙ c.in-Some.is in
    record {
      next = c.first_above-next.ensures ∙ next-at items c.loop-place._place c.in-Some.row c.len-place-end.ensures.sorted at;
      rest = found-later asks items c.loop-place._place c.in-Some.row at (differs c.in-Some.row.1 c.args.monitor c.if-row-monitor.false) ∙ c.loop-place.invariant.rest;
    }
