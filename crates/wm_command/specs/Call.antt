-- The CALL that CMD takes.
use Rattle.std.specs.Prelude.{ℕ, Option, Some, None, Result, Ok, Err, List, [], ◌∷◌, length, nat_le, if◌then◌else◌, codes}
use Rattle.wm_clwords.specs.declared.called.CallText.{CallText}
use Rattle.wm_clwords.specs.declared.tree.Item.{Item}
use Rattle.wm_clwords.specs.Called.{call_of}
use Rattle.wm_clwords.specs.CallText.{call_text}
use Rattle.wm_command.specs.declared.value.Value.{Value}
use Rattle.wm_command.specs.declared.value.Value.TheVariants as value
use Rattle.wm_command.specs.declared.fault.CmdFault.{CmdFault}
use Rattle.wm_command.specs.declared.fault.CmdFault.TheVariants.{NotCall}
use Rattle.wm_command.specs.Written.{is_word}

abbrev pub text_kept : ℕ → List ℕ → Result Value CmdFault
text_kept place text = if nat_le (length text) 1000 then Ok (value.Text text) else Err (NotCall place)

abbrev pub called_text : ℕ → Option CallText → Result Value CmdFault
called_text place None = Err (NotCall place)
called_text place (Some call) = text_kept place (call_text call.pgm call.parms)

-- the canonical text of the CALL, of at most 1,000 characters
abbrev pub call_value : ℕ → List Item → Result Value CmdFault
call_value place [] = Err (NotCall place)
call_value place (item ∷ items) = if is_word item (codes "CALL") then called_text place (call_of items) else Err (NotCall place)
