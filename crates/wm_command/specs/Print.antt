-- The canonical text of a command.
use Rattle.std.specs.Prelude.{ℕ, List, [], ◌++◌, codes}
use Rattle.std.specs.List.{flat_map}
use Rattle.std.specs.Fmt.{decimal}
use Rattle.wm_base.specs.Key.{key_word}
use Rattle.wm_base.specs.QName.{qname_text}
use Rattle.wm_clwords.specs.Quote.{quoted}
use Rattle.wm_law.specs.declared.command.Command.{Command}
use Rattle.wm_command.specs.declared.value.Value.{Value}
use Rattle.wm_command.specs.declared.value.Value.TheVariants as value
use Rattle.wm_command.specs.declared.value.Given.{Given}
use Rattle.wm_command.specs.Shown.{values_of, verb_of}
use Rattle.wm_command.specs.Table.{change_word}
use Rattle.wm_command.specs.Values.{special_word}
use Rattle.wm_command.specs.Texts.{job_text, cmp_text, date_text, time_text}
use Rattle.wm_command.specs.Words.{flag_text, ending_text}

-- names are qualified, texts stand in apostrophes, numbers have no leading zeros
unfoldable pub value_text : Value → List ℕ
value_text value.Nothing = []
value_text (value.Special s) = special_word s
value_text (value.Object q) = qname_text q
value_text (value.Name n) = n
value_text (value.Text t) = quoted t
value_text (value.Number n) = decimal n
value_text (value.Flag b) = flag_text b
value_text (value.Ending e) = ending_text e
value_text (value.Job j) = job_text j
value_text (value.Compare c) = cmp_text c
value_text (value.Date d) = date_text d
value_text (value.Time t) = time_text t

-- ` KEY(VALUE)`
abbrev pub given_text : Given → List ℕ
given_text g = codes " " ++ key_word g.key ++ codes "(" ++ value_text g.value ++ codes ")"

-- the command's name, and each key with its value, in the order of the table
abbrev pub command_text : Command → List ℕ
command_text c = change_word (verb_of c) ++ flat_map given_text (values_of c)
