use Rattle.std.proofs.Common.{true, Some, None, ap, refl, sym, ◌∙◌, subst, unwrap_or, arith}
use Rattle.wm_indexes.specs.declared.namesakes.Namesakes.{Namesakes}
use Rattle.wm_indexes.specs.Namesakes.{nobody, parted, IsAmong}
use Rattle.wm_indexes.proofs.NameRows.{edited, kept, some-count, last}
use Rattle.wm_indexes.proofs.name_rows.leave.Goals as goal

-- others stay in the row
pub returns-then-are_several-clause-rows : goal.returns-then-are_several-clause-rows
returns-then-are_several-clause-rows g c =
    let was = c.of-row.ensures ∙ ap (λ o. unwrap_or o nobody) (c.copied.ensures ∙ c.get-2.ensures.value) in
    let is = c.without.ensures ∙ ap (λ (n : Namesakes). parted true c.args.serial n) was in
    edited g.K.PartialEq.eq g.met.K.Eq.laws c.args.key.now c.args.rows.now.entries c.set.new.rows.entries (Some c.without.result) c.set.ensures.rows (λ b n. parted b c.args.serial n) (λ n. refl) is

pub returns-then-are_several-clause-kept : goal.returns-then-are_several-clause-kept
returns-then-are_several-clause-kept g c = λ have.
    let less = ap (λ (n : Namesakes). n.count) c.without.ensures in
    let several = sym c.are_several.ensures ∙ c.if-are_several.true in
    kept g.K.PartialEq.eq g.met.K.Eq.laws c.args.key.now c.args.rows.now.entries c.set.new.rows.entries (Some c.without.result) c.set.ensures.rows (λ n is. some-count c.without.result n (grind (arith, less, several)) is) have

-- it was the last of the row
pub returns-else-are_several-clause-rows : goal.returns-else-are_several-clause-rows
returns-else-are_several-clause-rows g c =
    let was = c.of-row.ensures ∙ ap (λ o. unwrap_or o nobody) (c.copied.ensures ∙ c.get-2.ensures.value) in
    let among = subst (λ n. IsAmong c.args.serial n) (sym was) c.requires in
    let gone = last c.args.serial c.of-row.result c.get.ensures.range among (sym c.are_several.ensures ∙ c.if-are_several.false) in
    let is = gone ∙ ap (λ (n : Namesakes). parted true c.args.serial n) was in
    edited g.K.PartialEq.eq g.met.K.Eq.laws c.args.key.now c.args.rows.now.entries c.remove.new.self.entries None c.remove.ensures.updates.0 (λ b n. parted b c.args.serial n) (λ n. refl) is

pub returns-else-are_several-clause-kept : goal.returns-else-are_several-clause-kept
returns-else-are_several-clause-kept g c = λ have.
    kept g.K.PartialEq.eq g.met.K.Eq.laws c.args.key.now c.args.rows.now.entries c.remove.new.self.entries None c.remove.ensures.updates.0 (λ n is. absurd (cc is)) have
