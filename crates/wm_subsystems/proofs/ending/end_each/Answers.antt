use Rattle.std.proofs.Common.{arith}
use Rattle.std.proofs.lemmas.Grind.{common_steps}
use Rattle.std.proofs.lemmas.List.Edits.{map_over_more}
use Rattle.wm_law.specs.Endings.{phased}
use Rattle.wm_subsystems.specs.Telling.{passes}
use Rattle.wm_subsystems.proofs.ending.end_each.Goals as goal

pub loop-sbs-preserved : goal.loop-sbs-preserved
loop-sbs-preserved c = grind (arith, common_steps, map_over_more (phased (passes c.args.those.now) c.args.phase.now))
