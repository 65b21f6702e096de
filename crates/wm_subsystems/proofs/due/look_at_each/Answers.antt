use Rattle.std.proofs.Common.{arith}
use Rattle.std.proofs.lemmas.Grind.{common_steps}
use Rattle.std.proofs.lemmas.List.Edits.{map_over_more}
use Rattle.wm_law.specs.Settling.{sbs_at}
use Rattle.wm_subsystems.proofs.due.look_at_each.Goals as goal

pub loop-sbs-preserved : goal.loop-sbs-preserved
loop-sbs-preserved c = grind (arith, common_steps, map_over_more (sbs_at c.args.clock))
