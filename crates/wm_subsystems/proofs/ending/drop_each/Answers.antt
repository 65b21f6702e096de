use Rattle.std.proofs.Common.{not, rules}
use Rattle.std.proofs.lemmas.Fn.{filter_same}
use Rattle.wm_law.specs.declared.state.Evoke.{Evoke}
use Rattle.wm_law.specs.Endings.{is_of_those}
use Rattle.wm_subsystems.specs.Telling.{passes}
use Rattle.wm_subsystems.proofs.ending.drop_each.Goals as goal

pub returns : goal.returns
returns c = filter_same _ (λ (e : Evoke). not (is_of_those (passes c.args.those.now) c.args.started.now e.sbs)) _ (λ x b f' k. search rules) _ _ c.retain.ensures.filtered
