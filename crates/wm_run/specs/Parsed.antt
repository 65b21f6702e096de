-- What a logical line comes to.
use Rattle.std.specs.Prelude.{◌≡◌, ℕ, List, Result, Ok, Err, ⊤}
use Rattle.wm_clwords.specs.Faults.{IsCommand, Stands}
use Rattle.wm_clwords.specs.Items.{list_marks}
use Rattle.wm_clwords.specs.declared.tree.Item.{Item}
use Rattle.wm_command.specs.Line.{line_of}
use Rattle.wm_command.specs.declared.fault.CmdFault.{CmdFault}
use Rattle.wm_command.specs.declared.line.Line.{Line}
use Rattle.wm_command.specs.declared.line.Line.TheVariants as line
use Rattle.wm_law.specs.Fit.{IsCommand as IsFit}
use Rattle.wm_listing.specs.declared.line_fault.LineFault.TheVariants.{Cl, Cm}
use Rattle.wm_run.specs.declared.parsed.Parsed.{Parsed}
use Rattle.wm_run.specs.declared.parsed.Parsed.TheVariants.{Fault, Read, Call}

-- the text spells a command, of which the command table says this for a user
pub record IsTabled (user text : List ℕ) (said : Result Line CmdFault) : Type 0 where
  pub name : List ℕ
  pub items : List Item
  pub command : IsCommand text name (list_marks items)
  pub tabled : line_of user name items ≡ said

-- a fault of the text, a fault of its command, a reading command, or a call
abbrev pub Parses : (user text : List ℕ) → Parsed → Type 0
Parses user text (Fault (Cl fault)) = Stands fault text
Parses user text (Fault (Cm fault)) = IsTabled user text (Err fault)
Parses user text (Read ask) = IsTabled user text (Ok (line.Read ask))
Parses user text (Call c) = IsTabled user text (Ok (line.Change c))

-- a line's command keeps its forms and ranges
abbrev pub IsFitLine : Line → Type 0
IsFitLine (line.Change c) = IsFit c
IsFitLine (line.Read ask) = ⊤

-- and so does the command of a call
abbrev pub IsFitParsed : Parsed → Type 0
IsFitParsed (Fault fault) = ⊤
IsFitParsed (Read ask) = ⊤
IsFitParsed (Call c) = IsFit c
