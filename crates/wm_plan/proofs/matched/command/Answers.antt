use Rattle.std.proofs.Common.{◌∙◌, [], ap, map, ℕ, List}
use Rattle.std.specs.Prelude.{fold}
use Rattle.std.specs.Borrow.{Bor}
use Rattle.clap.specs.Simple.{App}
use Rattle.wm_plan.proofs.Flat.{told, told_all}
use Rattle.wm_plan.proofs.matched.command.Goals as goal

pub loop-name-init : goal.loop-name-init
loop-name-init c = ap (λ (a : App). fold told a (map (λ (name : Bor (List ℕ)). name.now) c.args.names.now)) c.bare_command-command.ensures ∙ told_all [] _
