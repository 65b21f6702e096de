-- What the values behind a key are read as, by the key's row.
use Rattle.std.specs.Prelude.{ℕ, Bool, true, false, Option, Some, None, Result, Ok, Err, List, [], ◌∷◌, length, if◌then◌else◌, codes}
use Rattle.std.specs.Option.{option_map}
use Rattle.wm_clwords.specs.declared.tree.Item.{Item}
use Rattle.wm_clwords.specs.CallReading.{object_by, program_by, reference_of}
use Rattle.wm_desc.specs.declared.entry.Cmp.{Cmp}
use Rattle.wm_desc.specs.declared.entry.Cmp.TheVariants.{Any, Val}
use Rattle.wm_desc.specs.Ranges.{path_in_range, cmp_in_range}
use Rattle.wm_when.specs.Schedule.{within}
use Rattle.wm_command.specs.declared.row.Kind.{Kind}
use Rattle.wm_command.specs.declared.row.Kind.TheVariants as kind
use Rattle.wm_command.specs.declared.row.Special.{Special}
use Rattle.wm_command.specs.declared.row.Special.TheVariants as special
use Rattle.wm_command.specs.declared.value.Value.{Value}
use Rattle.wm_command.specs.declared.value.Value.TheVariants as value
use Rattle.wm_command.specs.declared.fault.CmdFault.{CmdFault}
use Rattle.wm_command.specs.declared.fault.CmdFault.TheVariants.{BadValue, TooManyValues}
use Rattle.wm_command.specs.Words.{number_of, job_of, flag_of, ending_of, date_of, time_of}
use Rattle.wm_command.specs.Written.{text_of, is_bare, is_word}
use Rattle.wm_base.specs.Name.{name_of}

-- One value

abbrev pub text_within : ℕ → ℕ → List ℕ → Option Value
text_within low high text = if within low high (length text) then Some (value.Text text) else None

abbrev pub path_of : List ℕ → Option Value
path_of text = if path_in_range text then Some (value.Text text) else None

-- what a word, or a text in apostrophes, with these characters is as a value of that kind
unfoldable pub kind_value : Kind → Item → List ℕ → Option Value
kind_value kind.Object item text = option_map value.Object (object_by (reference_of item))
kind_value kind.Program item text = option_map value.Object (program_by (reference_of item))
kind_value kind.Name item text = option_map value.Name (name_of text)
kind_value (kind.Text low high) item text = text_within low high text
kind_value kind.Path item text = path_of text
kind_value (kind.Number low high) item text = option_map value.Number (number_of 1 9 low high text)
kind_value kind.Flag item text = option_map value.Flag (flag_of (is_bare item) text)
kind_value kind.Ending item text = option_map value.Ending (ending_of (is_bare item) text)
kind_value kind.Job item text = option_map value.Job (job_of text)
kind_value kind.Compare item text = None
kind_value kind.Date item text = option_map value.Date (date_of (is_bare item) text)
kind_value kind.Time item text = option_map value.Time (time_of (is_bare item) text)
kind_value kind.Call item text = None
kind_value kind.Anything item text = None

-- the special word of a row
unfoldable pub special_word : Special → List ℕ
special_word special.Never = []
special_word special.Nomax = codes "*NOMAX"
special_word special.None = codes "*NONE"
special_word special.Jobd = codes "*JOBD"
special_word special.Same = codes "*SAME"
special_word special.Nolimit = codes "*NOLIMIT"
special_word special.Sbsd = codes "*SBSD"

abbrev pub is_never : Special → Bool
is_never special.Never = true
is_never special.Nomax = false
is_never special.None = false
is_never special.Jobd = false
is_never special.Same = false
is_never special.Nolimit = false
is_never special.Sbsd = false

abbrev pub is_special : Special → Item → Bool
is_special s item = if is_never s then false else is_word item (special_word s)

abbrev pub text_value : Kind → Item → Option (List ℕ) → Option Value
text_value k item None = None
text_value k item (Some text) = kind_value k item text

-- the row's special word, or a value of its kind
abbrev pub item_value : Kind → Special → Item → Option Value
item_value k s item =
    if is_special s item then Some (value.Special s)
    else text_value k item (text_of item)

-- The compare value

abbrev pub cmp_kept : Cmp → Option Value
cmp_kept cmp = if cmp_in_range cmp then Some (value.Compare cmp) else None

abbrev pub text_from : Option (List ℕ) → Option ℕ → Option Value
text_from None start = None
text_from (Some text) None = None
text_from (Some text) (Some start) = cmp_kept (Val text start)

abbrev pub start_of : Option (List ℕ) → Option ℕ
start_of None = None
start_of (Some text) = number_of 1 9 1 80 text

-- *ANY, or a text that is compared from the first place on
abbrev pub one_compared : Item → Option Value
one_compared item = if is_word item (codes "*ANY") then Some (value.Compare Any) else text_from (text_of item) (Some 1)

-- a text, and the place from which it is compared
abbrev pub two_compared : Item → Item → Option Value
two_compared item start = if is_word item (codes "*ANY") then None else text_from (text_of item) (start_of (text_of start))

-- All values of a key, whose item begins at a place

abbrev pub or_bad : ℕ → Option Value → Result Value CmdFault
or_bad place None = Err (BadValue place)
or_bad place (Some v) = Ok v

abbrev pub one_value : Kind → Special → ℕ → List Item → Result Value CmdFault
one_value k s place [] = Err (BadValue place)
one_value k s place (item ∷ []) = or_bad place (item_value k s item)
one_value k s place (item ∷ next ∷ items) = Err (TooManyValues place)

abbrev pub compared : ℕ → List Item → Result Value CmdFault
compared place [] = Err (BadValue place)
compared place (item ∷ []) = or_bad place (one_compared item)
compared place (item ∷ start ∷ []) = or_bad place (two_compared item start)
compared place (item ∷ start ∷ next ∷ items) = Err (TooManyValues place)
