use Rattle.std.proofs.Common.{◌&&◌, not, rules}
use Rattle.std.proofs.lemmas.Fn.{filter_same}
use Rattle.wm_desc.specs.Table.{same_qname}
use Rattle.wm_law.specs.declared.state.Stop.{Stop}
use Rattle.wm_subsystems.proofs.stops.drop_each_of.Goals as goal

pub returns : goal.returns
returns c = filter_same _ (λ (e : Stop). not (same_qname e.sbs c.args.sbs.now && same_qname e.pgm c.args.pgm.now)) _ (λ x b f' k. search rules) _ _ c.retain.ensures.filtered
