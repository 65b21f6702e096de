-- What the items of a command give its keys.
use Rattle.std.specs.Prelude.{ℕ, Bool, true, false, Option, Some, None, Result, Ok, Err, List, [], ◌∷◌, ◌++◌, find, if◌then◌else◌, codes}
use Rattle.std.specs.List.{list_any}
use Rattle.wm_base.specs.declared.refusal.Key.{Key}
use Rattle.wm_base.specs.Key.{key_word}
use Rattle.wm_clwords.specs.declared.tree.Item.{Item}
use Rattle.wm_desc.specs.Opening.{qbatch, qdftjobd}
use Rattle.wm_when.specs.declared.schedule.DateSpec.TheVariants as date
use Rattle.wm_when.specs.declared.schedule.TimeSpec.TheVariants as time
use Rattle.wm_law.specs.declared.command.EndOption.TheVariants.{Cntrld}
use Rattle.wm_command.specs.declared.row.Kind.{Kind}
use Rattle.wm_command.specs.declared.row.Kind.TheVariants as kind
use Rattle.wm_command.specs.declared.row.Special.{Special}
use Rattle.wm_command.specs.declared.row.Default.{Default}
use Rattle.wm_command.specs.declared.row.Default.TheVariants as default
use Rattle.wm_command.specs.declared.row.Row.{Row}
use Rattle.wm_command.specs.declared.value.Value.{Value}
use Rattle.wm_command.specs.declared.value.Value.TheVariants as value
use Rattle.wm_command.specs.declared.value.Given.{Given}
use Rattle.wm_command.specs.declared.fault.CmdFault.{CmdFault}
use Rattle.wm_command.specs.declared.fault.CmdFault.TheVariants.{UnknownKeyword, Twice, Missing, TooManyValues}
use Rattle.wm_command.specs.Each.{go_on, each}
use Rattle.wm_command.specs.Table.{row_key, row_kind, row_special, row_otherwise}
use Rattle.wm_command.specs.Call.{call_value}
use Rattle.wm_command.specs.Values.{one_value, compared}
use Rattle.wm_command.specs.Words.{same}
use Rattle.wm_command.specs.Written.{place_of, key_of, listed}

-- keys are the same where their words are
unfoldable pub same_key : Key → Key → Bool
same_key a b = same (key_word a) (key_word b)

abbrev pub is_given : Key → List Given → Bool
is_given key given = list_any (λ g. same_key g.key key) given

-- the row of the key with a word
unfoldable pub row_named : List ℕ → List Row → Option Row
row_named word rows = find (λ row. same (key_word (row_key row)) word) rows

-- the values behind a key, whose item begins at a place
abbrev pub row_value : Kind → Special → ℕ → List Item → Result Value CmdFault
row_value kind.Compare s place items = compared place items
row_value kind.Call s place items = call_value place items
row_value kind.Anything s place items = Ok value.Nothing
row_value k s place items = one_value k s place items

abbrev pub with_value : List Given → Key → Result Value CmdFault → Result (List Given) CmdFault
with_value given key (Err e) = Err e
with_value given key (Ok v) = Ok (given ++ record { key = key; value = v } ∷ [])

abbrev pub keyed : List Given → ℕ → List Item → Option Row → Result (List Given) CmdFault
keyed given place items None = Err (UnknownKeyword place)
keyed given place items (Some row) =
    if is_given (row_key row) given then Err (Twice place)
    else with_value given (row_key row) (row_value (row_kind row) (row_special row) place items)

abbrev pub keyed_by : List Row → List Given → Item → Option (List ℕ) → Result (List Given) CmdFault
keyed_by rows given item None = Err (TooManyValues (place_of item))
keyed_by rows given item (Some key) = keyed given (place_of item) (listed item) (row_named key rows)

-- an item gives a key its value, and a word, text or list is one too many
unfoldable pub next_item : List Row → List Given → Item → Result (List Given) CmdFault
next_item rows given item = keyed_by rows given item (key_of item)

-- a value that stands alone is that of the first key
abbrev pub stands_alone : List Row → ℕ → List Item → Result (List Given) CmdFault
stands_alone [] place items = Err (TooManyValues place)
stands_alone (row ∷ rows) place items = with_value [] (row_key row) (row_value (row_kind row) (row_special row) place items)

abbrev pub first_by : List Row → Item → Option (List ℕ) → Result (List Given) CmdFault
first_by rows item None = stands_alone rows (place_of item) (item ∷ [])
first_by rows item (Some key) = next_item rows [] item

-- only the first item may stand alone
unfoldable pub first_item : List Row → Item → Result (List Given) CmdFault
first_item rows item = first_by rows item (key_of item)

-- the items, from left to right
abbrev pub items_given : List Row → List Item → Result (List Given) CmdFault
items_given rows [] = Ok []
items_given rows (item ∷ items) = go_on (first_item rows item) (λ given. each (next_item rows) given items)

-- what a key has where it isn't given
abbrev pub default_value : Default → Key → Special → Result Value CmdFault
default_value default.Required key s = Err (Missing key)
default_value default.Nothing key s = Ok value.Nothing
default_value default.Special key s = Ok (value.Special s)
default_value (default.Number n) key s = Ok (value.Number n)
default_value default.Yes key s = Ok (value.Flag true)
default_value default.No key s = Ok (value.Flag false)
default_value default.Cntrld key s = Ok (value.Ending Cntrld)
default_value default.Qbatch key s = Ok (value.Object qbatch)
default_value default.Qdftjobd key s = Ok (value.Object qdftjobd)
default_value default.Qcmdi key s = Ok (value.Text (codes "QCMDI"))
default_value default.Qcmdb key s = Ok (value.Text (codes "QCMDB"))
default_value default.Today key s = Ok (value.Date date.Current)
default_value default.Now key s = Ok (value.Time time.Current)

-- a key that wasn't given gets what it has then
unfoldable pub complete : List Given → Row → Result (List Given) CmdFault
complete given row = if is_given (row_key row) given then Ok given else with_value given (row_key row) (default_value (row_otherwise row) (row_key row) (row_special row))

-- all keys of the table with their values
abbrev pub all_given : List Row → List Item → Result (List Given) CmdFault
all_given rows items = go_on (items_given rows items) (λ given. each complete given rows)
