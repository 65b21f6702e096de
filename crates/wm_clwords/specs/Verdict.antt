-- What the reader answers, by its second definition.
use Rattle.std.specs.Prelude.{ℕ, List, [], ◌∷◌, length, Result, Ok, Err, nat_lt, if◌then◌else◌}
use Rattle.wm_base.specs.Name.{is_name}
use Rattle.wm_clwords.specs.Grammar.{Token, Blank, Comment, Word, Quoted, Key, Open, Close, Mark}
use Rattle.wm_clwords.specs.Reading.{run, begun}
use Rattle.wm_clwords.specs.declared.fault.ClFault.{ClFault}
use Rattle.wm_clwords.specs.declared.fault.ClFault.TheVariants.{Empty, BadName, TooLong}

-- a name, and the marks of the items behind it
abbrev pub Command : Type 0
Command = List ℕ × List Mark

abbrev pub named_by : Token → List Mark → Result Command ClFault
named_by (Word bytes) marks = if is_name bytes then Ok (bytes, marks) else Err BadName
named_by (Blank byte) marks = Err BadName
named_by (Comment text) marks = Err BadName
named_by (Quoted text) marks = Err BadName
named_by (Key bytes) marks = Err BadName
named_by Open marks = Err BadName
named_by Close marks = Err BadName

-- the first item has to be a word that is a name
abbrev pub named : List Mark → Result Command ClFault
named [] = Err Empty
named (mark ∷ marks) = named_by mark.token marks

abbrev pub named_of : Result (List Mark) ClFault → Result Command ClFault
named_of (Ok marks) = named marks
named_of (Err fault) = Err fault

-- the command that bytes are read as, or the first fault
unfoldable pub verdict : List ℕ → Result Command ClFault
verdict bytes = if nat_lt 8192 (length bytes) then Err TooLong else named_of (run begun 0 bytes)
