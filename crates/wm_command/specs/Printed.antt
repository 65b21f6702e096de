-- The text that is printed of a command is read as that command.
use Rattle.std.specs.Prelude.{◌≡◌, ℕ, Bool, true, false, Result, Ok, List, [], ◌∷◌, length, filter, IfSome, IsTrue}
use Rattle.wm_base.specs.Name.{IsName}
use Rattle.wm_base.specs.Text.{IsText}
use Rattle.wm_base.specs.declared.qname.QName.{QName}
use Rattle.wm_clwords.specs.Faults.{IsCommand}
use Rattle.wm_clwords.specs.Grammar.{Mark}
use Rattle.wm_clwords.specs.Items.{list_marks}
use Rattle.wm_clwords.specs.declared.tree.Item.{Item}
use Rattle.wm_desc.specs.Ranges.{path_in_range, cmp_in_range}
use Rattle.wm_desc.specs.declared.entry.Cmp.{Cmp}
use Rattle.wm_desc.specs.declared.entry.Cmp.TheVariants.{Any, Val}
use Rattle.wm_when.specs.Schedule.{within, date_in_range, time_in_range}
use Rattle.wm_law.specs.Fit.{IsCommand as IsMachineCommand}
use Rattle.wm_law.specs.declared.command.Command.{Command}
use Rattle.wm_law.specs.declared.command.Command.TheVariants as command
use Rattle.wm_command.specs.Words.{FitsJob}
use Rattle.wm_command.specs.declared.line.Line.{Line}
use Rattle.wm_command.specs.declared.line.Line.TheVariants as line
use Rattle.wm_command.specs.declared.fault.CmdFault.{CmdFault}
use Rattle.wm_command.specs.declared.row.Kind.{Kind}
use Rattle.wm_command.specs.declared.row.Kind.TheVariants as kind
use Rattle.wm_command.specs.declared.row.Row.{Row}
use Rattle.wm_command.specs.declared.value.Value.{Value}
use Rattle.wm_command.specs.declared.value.Value.TheVariants as value
use Rattle.wm_command.specs.declared.value.Given.{Given}
use Rattle.wm_command.specs.declared.verb.ChangeVerb.{ChangeVerb}
use Rattle.wm_command.specs.Each.{go_on, each}
use Rattle.wm_command.specs.Line.{own_fault, unless, line_of}
use Rattle.wm_command.specs.Made.{change_made}
use Rattle.wm_command.specs.Print.{command_text}
use Rattle.wm_command.specs.Reading.{complete}
use Rattle.wm_command.specs.Shown.{values_of, verb_of}
use Rattle.wm_command.specs.Table.{change_rows, change_word, row_kind, row_special}
use Rattle.wm_command.specs.Values.{is_never}

abbrev pub IsQualified : QName → Type 0
IsQualified q = IsName q.lib × IsName q.name

abbrev pub FitsCompare : Cmp → Type 0
FitsCompare Any = Unit {0}
FitsCompare (Val text start) = IsText text × IsTrue (cmp_in_range (Val text start))

-- a value has the form and the range of its kind
abbrev pub FitsKind : Kind → Value → Type 0
FitsKind kind.Object (value.Object q) = IsQualified q
FitsKind kind.Program (value.Object q) = IsQualified q
FitsKind kind.Name (value.Name n) = IsName n
FitsKind (kind.Text low high) (value.Text t) = IsText t × IsTrue (within low high (length t))
FitsKind kind.Path (value.Text t) = IsText t × IsTrue (path_in_range t)
FitsKind (kind.Number low high) (value.Number n) = IsTrue (within low high n)
FitsKind kind.Flag (value.Flag b) = Unit {0}
FitsKind kind.Ending (value.Ending e) = Unit {0}
FitsKind kind.Job (value.Job j) = FitsJob j
FitsKind kind.Compare (value.Compare c) = FitsCompare c
FitsKind kind.Date (value.Date d) = IsTrue (date_in_range d)
FitsKind kind.Time (value.Time t) = IsTrue (time_in_range t)
FitsKind k v = ⊥

-- it is that of a key's row, or the row's special word
abbrev pub FitsRow : Row → Value → Type 0
FitsRow row (value.Special s) = (s ≡ row_special row) × (is_never s ≡ false)
FitsRow row v = FitsKind (row_kind row) v

-- the keys that are printed: all but CMD, TEXT and POOLS
abbrev pub is_shown : Kind → Bool
is_shown kind.Call = false
is_shown kind.Anything = false
is_shown k = true

abbrev pub shown_rows : List Row → List Row
shown_rows rows = filter (λ row. is_shown (row_kind row)) rows

-- each value fits its row
abbrev pub FitRows : List Row → List Given → Type 0
FitRows [] [] = Unit {0}
FitRows [] (g ∷ given) = ⊥
FitRows (row ∷ rows) [] = ⊥
FitRows (row ∷ rows) (g ∷ given) = FitsRow row g.value × FitRows rows given

-- MAXPTY has nine limits
abbrev pub IsWhole : Command → Type 0
IsWhole (command.Addjobqe c) = length c.maxpty ≡ 9
IsWhole c = Unit {0}

-- the command's values keep the forms and the ranges of the table
pub record IsFit (c : Command) : Type 0 where
  pub values : FitRows (shown_rows (change_rows (verb_of c))) (values_of c)
  pub whole : IsWhole c

-- its texts are printable

abbrev pub HasText : Cmp → Type 0
HasText Any = Unit {0}
HasText (Val text start) = IsText text

abbrev pub HasTexts : Command → Type 0
HasTexts (command.Crtpgmref c) = IsText c.path
HasTexts (command.Crtjobd c) = IsText c.rtgdta × IfSome c.rqsdta IsText
HasTexts (command.Addrtge c) = HasText c.cmpval
HasTexts (command.Sbmjob c) = IfSome c.rqsdta IsText × IfSome c.rtgdta IsText
HasTexts c = Unit {0}

abbrev pub LineHasTexts : Line → Type 0
LineHasTexts (line.Change c) = HasTexts c
LineHasTexts (line.Read ask) = Unit {0}

-- the command of a line keeps the forms and the ranges of the table
abbrev pub KeepsForms : Line → Type 0
KeepsForms (line.Change c) = IsFit c
KeepsForms (line.Read ask) = Unit {0}

-- and those that the machine asks of its calls
abbrev pub FitsMachine : Line → Type 0
FitsMachine (line.Change c) = IsMachineCommand c
FitsMachine (line.Read ask) = Unit {0}

-- the line of a command with these values, completed by what the table has where none is given
abbrev pub completed : ChangeVerb → List Given → Result Line CmdFault
completed verb given =
    go_on (each complete given (change_rows verb)) (λ all. unless (own_fault verb all) (line.Change (change_made verb all)))

-- the values that are shown of a command make that command again
abbrev pub ShownValuesMakeTheCommand : Type 0
ShownValuesMakeTheCommand = (c : Command) → IsFit c → completed (verb_of c) (values_of c) ≡ Ok (line.Change c)

-- the command's text spells a command, so it has at most 8,192 bytes, and each tree that it spells is that command's line
abbrev pub IsReadBack : Command → Type 0
IsReadBack c =
    ((marks : List Mark) × IsCommand (command_text c) (change_word (verb_of c)) marks)
    × ((user name : List ℕ) (items : List Item) → IsCommand (command_text c) name (list_marks items) → line_of user name items ≡ Ok (line.Change c))

-- the text that is printed of a command is read as that command
abbrev pub PrintedCommandIsRead : Type 0
PrintedCommandIsRead = (c : Command) → IsFit c → IsReadBack c

-- the same of a line's command
abbrev pub LineIsReadBack : Line → Type 0
LineIsReadBack (line.Change c) = IsReadBack c
LineIsReadBack (line.Read ask) = Unit {0}
