use Rattle.std.proofs.Common.{◌∷◌, sym, subst, ◌∙◌}
use Rattle.wm_pick.specs.Tally.{Counts, IsTally}
use Rattle.wm_pick.proofs.TallyLemmas.{ended, enough}
use Rattle.wm_pick.proofs.tally.Tally.end.Goals as goal

pub lower_all-requires-clause-some : goal.lower_all-requires-clause-some
lower_all-requires-clause-some c =
    let how = c.args.how.now in
    let old = subst (λ (t : Counts). IsTally (how ∷ c.requires.others) t) (sym c.self.view_is) c.requires.are in
    enough how c.as_slice.result.now (c.as_slice.ensures ∙ c.of-keys.ensures) c.self.inside.rows.items c.requires.others old

pub returns-clause-hows : goal.returns-clause-hows
returns-clause-hows c = λ others are.
    let how = c.args.how.now in
    let old = subst (λ (t : Counts). IsTally (how ∷ others) t) (sym c.self.view_is) are in
    ended how c.as_slice.result.now (c.as_slice.ensures ∙ c.of-keys.ensures) c.self.inside.rows.items c.lower_all.new.rows.items c.lower_all.ensures.numbers others old
