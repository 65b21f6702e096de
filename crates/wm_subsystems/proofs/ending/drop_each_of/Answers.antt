use Rattle.std.proofs.Common.{not, rules}
use Rattle.std.proofs.lemmas.Fn.{filter_same}
use Rattle.wm_law.specs.declared.state.Evoke.{Evoke}
use Rattle.wm_law.specs.Prestart.{is_evoke_of}
use Rattle.wm_subsystems.proofs.ending.drop_each_of.Goals as goal

pub returns : goal.returns
returns c = filter_same _ (λ (e : Evoke). not (is_evoke_of c.args.sbs.now c.args.pgm.now e)) _ (λ x b f' k. search rules) _ _ c.retain.ensures.filtered
