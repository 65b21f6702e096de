use Rattle.std.proofs.Common.{◌≡◌, ◌-◌, sym, subst, ◌∙◌, arith}
use Rattle.wm_indexes.proofs.EachRow.{NoneFrom, none_above, none_more, some_there, row_at}
use Rattle.wm_indexes.proofs.full_names.place_of.Goals as goal

pub loop-at-init : goal.loop-at-init
loop-at-init c = none_above c.args.row.now c.args.rows.now c.end_from_last-at.result c.end_from_last-at.ensures.parts

pub loop-at-preserved : goal.loop-at-preserved
loop-at-preserved c =
    none_more c.args.row.now c.args.rows.now (c.loop-at.at - 1) c.loop-at.at c.index-rows-at.result (omega arith) c.loop-at.invariant c.index-rows-at.is (sym c.eq.ensures ∙ c.if-eq.false)

pub unreachable-requires : goal.unreachable-requires
unreachable-requires c =
    let none : c.loop-at.at ≡ 0 = omega arith in
    some_there c.args.row.now c.args.rows.now c.requires.there (subst (λ i. NoneFrom c.args.row.now c.args.rows.now i) none c.loop-at.invariant)

pub returns-then-eq-clause-value : goal.returns-then-eq-clause-value
returns-then-eq-clause-value c =
    row_at c.args.row.now c.args.rows.now (c.loop-at.at - 1) c.index-rows-at.result (omega arith) c.index-rows-at.is (sym c.eq.ensures ∙ c.if-eq.true)
