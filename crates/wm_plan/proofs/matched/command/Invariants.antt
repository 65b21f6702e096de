use Rattle.std.proofs.Common.{◌≡◌, ℕ, List, drop, map}
use Rattle.std.specs.Prelude.{fold}
use Rattle.std.specs.Borrow.{Bor}
use Rattle.clap.specs.Simple.{app_of}
use Rattle.wm_plan.specs.Told.{command_app}
use Rattle.wm_plan.proofs.Flat.{told}
use Rattle.wm_plan.proofs.matched.command.Given as goal

-- the command with the names that are left is the one with all names
abbrev pub invariant-loop-name : goal.invariant-loop-name
invariant-loop-name l = fold told (app_of l.command) (map (λ (name : Bor (List ℕ)). name.now) (drop l.name-index l.names)) ≡ command_app (map (λ (name : Bor (List ℕ)). name.now) l.names)
