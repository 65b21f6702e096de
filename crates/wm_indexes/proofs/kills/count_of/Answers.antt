use Rattle.std.proofs.Common.{◌==◌, ℕ, Bool, sym, ◌∙◌, arith}
use Rattle.wm_ordered.proofs.Walked.{next-at}
use Rattle.wm_indexes.proofs.Walk.{differs, is-same, counted-more, counted-same}
use Rattle.wm_indexes.proofs.kills.count_of.Goals as goal
use Rattle.wm_indexes.proofs.kills.count_of.Goals.{then-row-monitor, else-row-monitor}

pub loop-place-preserved : goal.loop-place-preserved
loop-place-preserved c =
    let asks : ℕ × ℕ → Bool = λ row. row.1 == c.args.monitor in
    let items = c.args.kills.now.items in
    let at = sym c.loop-place.invariant.next ∙ c.in-Some.is in
    let next = c.first_above-next.ensures ∙ next-at items c.loop-place._place c.in-Some.row c.len-place-end.ensures.sorted at in
    let so_far = c.loop-place.invariant.rest in
    elim c.if-row-monitor.branch [
      | then-row-monitor w ↦ record {
        next = next;
        few = omega (arith, w.count-is, c.loop-place.invariant.few);
        rest = counted-more asks items c.loop-place._place c.loop-place.count c.if-row-monitor.count _ c.in-Some.row at so_far (is-same c.in-Some.row.1 c.args.monitor w.if-row-monitor.true) w.count-is;
      }
      | else-row-monitor w ↦ record {
        next = next;
        few = omega (arith, w.count-is, c.loop-place.invariant.few);
        rest = counted-same asks items c.loop-place._place c.loop-place.count c.if-row-monitor.count _ c.in-Some.row at so_far (differs c.in-Some.row.1 c.args.monitor w.if-row-monitor.false) w.count-is;
      }
    ]
