use Rattle.std.proofs.Common.{sym, subst, ◌∙◌}
use Rattle.wm_pick.specs.Tally.{Counts, IsTally}
use Rattle.wm_pick.proofs.TallyLemmas.{started, fits}
use Rattle.wm_pick.proofs.tally.Tally.start.Goals as goal

pub raise_all-requires-clause-fits : goal.raise_all-requires-clause-fits
raise_all-requires-clause-fits c =
    let hows = c.requires.few.hows in
    let are = subst (λ (t : Counts). IsTally hows t) (sym c.self.view_is) c.requires.few.are in
    fits c.args.how.now c.as_slice.result.now (c.as_slice.ensures ∙ c.of-keys.ensures) c.self.inside.rows.items hows are c.requires.few.few

pub returns-clause-hows : goal.returns-clause-hows
returns-clause-hows c = λ hows are.
    let old = subst (λ (t : Counts). IsTally hows t) (sym c.self.view_is) are in
    started c.args.how.now c.as_slice.result.now (c.as_slice.ensures ∙ c.of-keys.ensures) c.self.inside.rows.items c.raise_all.new.rows.items c.raise_all.ensures.numbers hows old
