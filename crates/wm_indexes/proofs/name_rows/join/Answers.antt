use Rattle.std.proofs.Common.{true, Some, ap, refl, ◌∙◌, unwrap_or, arith}
use Rattle.wm_indexes.specs.declared.namesakes.Namesakes.{Namesakes}
use Rattle.wm_indexes.specs.Namesakes.{nobody, joined}
use Rattle.wm_indexes.proofs.NameRows.{edited, kept, some-count}
use Rattle.wm_indexes.proofs.name_rows.join.Goals as goal

pub returns-clause-rows : goal.returns-clause-rows
returns-clause-rows g c =
    let was = c.of.ensures ∙ ap (λ o. unwrap_or o nobody) (c.copied.ensures ∙ c.get.ensures.value) in
    let is = c.with-with.ensures ∙ ap (λ (n : Namesakes). joined true c.args.serial n) was in
    edited g.K.PartialEq.eq g.met.K.Eq.laws c.args.key c.args.rows.now.entries c.insert.new.self.entries (Some c.with-with.result) c.in-Ok.ensures.updates.0 (λ b n. joined b c.args.serial n) (λ n. refl) is

pub returns-clause-kept : goal.returns-clause-kept
returns-clause-kept g c = λ have.
    let more = ap (λ (n : Namesakes). n.count) c.with-with.ensures in
    kept g.K.PartialEq.eq g.met.K.Eq.laws c.args.key c.args.rows.now.entries c.insert.new.self.entries (Some c.with-with.result) c.in-Ok.ensures.updates.0 (λ n is. some-count c.with-with.result n (omega (arith, more)) is) have
