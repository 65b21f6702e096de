use Rattle.std.proofs.Common.{List, [], take, sym, ap, ◌∙◌}
use Rattle.std.proofs.lemmas.List.Sums.{fold_more}
use Rattle.wm_tables.specs.Noted.{with_noted, noted}
use Rattle.wm_tables.proofs.NotedPairs.{Pair}
use Rattle.wm_tables.proofs.noting.noted.Goals as goal

pub loop-one-preserved : goal.loop-one-preserved
loop-one-preserved c =
    c.in_ok-note.ensures
    ∙ ap (λ (ps : List Pair). with_noted ps c.one-item.result) c.loop-one.invariant
    ∙ ap (with_noted (noted (take c.loop-one.one-index c.args.touched.now))) c.one-item.is
    ∙ sym (fold_more with_noted [] c.args.touched.now c.loop-one.one-index c.one-item.result c.loop-one-test.true)
