use Rattle.std.proofs.Common.{◌≡◌, take}
use Rattle.std.specs.Prelude.{fold}
use Rattle.wm_restart.specs.Written.{with_made}
use Rattle.wm_restart.proofs.first.put_all_made.Given as goal

abbrev pub invariant-loop-command : goal.invariant-loop-command
invariant-loop-command l = l.changes.items ≡ fold with_made l.initial.changes.items (take l.command-index l.commands)
