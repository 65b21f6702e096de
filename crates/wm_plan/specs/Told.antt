-- What `clap` is told of a command: its options, each of which takes one value, and that there is no help and no program's name.
use Rattle.std.specs.Prelude.{ℕ, true, List, [], map, Some, codes}
use Rattle.clap.specs.Walk.{Rule}
use Rattle.clap.specs.Simple.{App, new_rule, new_shape}

-- an option `--name`
abbrev pub option_rule : List ℕ → Rule
option_rule name = record (new_rule name) { long = Some name }

-- a command with these options
abbrev pub command_app : List (List ℕ) → App
command_app names = record {
  top = record (new_shape (codes "wrkmgr")) { rules = map option_rule names; no_binary_name = true; disable_help_flag = true };
  subs = [];
}
