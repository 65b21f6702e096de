use Rattle.std.proofs.Common.{◌≡◌, take}
use Rattle.wm_law.specs.Opening.{changed_by}
use Rattle.wm_core.proofs.machine.Machine.change_all.Given as goal

-- what the commands so far make
abbrev pub invariant-loop-command : goal.invariant-loop-command
invariant-loop-command l = record { state : l.self.state ≡ changed_by l.user l.initial.self.state (take l.command-index l.commands); marks : l.self.marks ≡ l.initial.self.marks }
