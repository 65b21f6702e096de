use Rattle.std.proofs.Common.{not, rules}
use Rattle.std.proofs.lemmas.Fn.{filter_same}
use Rattle.wm_law.specs.declared.state.Stop.{Stop}
use Rattle.wm_subsystems.specs.Gone.{is_any_gone}
use Rattle.wm_subsystems.proofs.leaving.drop_each_stopped.Goals as goal

pub returns : goal.returns
returns c = filter_same _ (λ (e : Stop). not (is_any_gone c.args.tally.now c.args.started.now e.sbs)) _ (λ x b f' k. search rules) _ _ c.retain.ensures.filtered
