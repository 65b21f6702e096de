use Rattle.std.proofs.Common.{◌≡◌, ℕ, List, None, false, take}
use Rattle.std.specs.Process.{command_program, command_args, command_var, command_dir, clears_env}
use Rattle.wm_children.proofs.command.command_of.Given as goal

abbrev pub invariant-loop-arg : goal.invariant-loop-arg
invariant-loop-arg l = record {
  program : command_program l.command ≡ l.order.path;
  args : command_args l.command ≡ take l.arg-index l.arg-items;
  environment : clears_env l.command ≡ false;
  variables : (name : List ℕ) → command_var l.command name ≡ None;
  folder : command_dir l.command ≡ None;
}
