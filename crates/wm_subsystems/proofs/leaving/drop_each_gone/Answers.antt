use Rattle.std.proofs.Common.{not, rules}
use Rattle.std.proofs.lemmas.Fn.{filter_same}
use Rattle.wm_subsystems.specs.Gone.{is_gone_by}
use Rattle.wm_subsystems.proofs.leaving.drop_each_gone.Goals as goal

pub returns : goal.returns
returns c = filter_same _ (λ b. not (is_gone_by c.args.tally.now b)) _ (λ x b f' k. search rules) _ _ c.retain.ensures.filtered
