-- Where a thing's row stands: its table, and its key there.
use Rattle.std.specs.Prelude.{ℕ, List, ◌++◌, Option, Some, None, codes}
use Rattle.wm_base.specs.Number.{zero_padded}
use Rattle.wm_base.specs.QName.{qname_text}
use Rattle.wm_base.specs.declared.qname.QName.{QName}
use Rattle.wm_law.specs.declared.command.Command.{Command}
use Rattle.wm_law.specs.declared.command.Command.TheVariants as command
use Rattle.wm_rows.specs.declared.place.Place.{Place}

-- an object: its qualified name
abbrev pub object_place : ℕ → QName → Place
object_place tab name = record { tab = tab; key = qname_text name }

-- an entry, by what it is found by in its subsystem description
abbrev pub entry_place : ℕ → QName → List ℕ → Place
entry_place tab sbsd by = record { tab = tab; key = qname_text sbsd ++ codes " " ++ by }

-- an entry with a sequence number: four digits
abbrev pub numbered_place : ℕ → QName → ℕ → Place
numbered_place tab sbsd seq = entry_place tab sbsd (zero_padded 4 seq)

-- what a command makes, where it makes a thing that is stored
abbrev pub place_of : Command → Option Place
place_of (command.Crtcls c) = Some (object_place 1 c.cls)
place_of (command.Crtpgmref c) = Some (object_place 2 c.pgm)
place_of (command.Crtjobq c) = Some (object_place 3 c.jobq)
place_of (command.Crtjobd c) = Some (object_place 4 c.jobd)
place_of (command.Crtsbsd c) = Some (object_place 5 c.sbsd)
place_of (command.Addjobqe c) = Some (numbered_place 6 c.sbsd c.seqnbr)
place_of (command.Addrtge c) = Some (numbered_place 7 c.sbsd c.seqnbr)
place_of (command.Addaje c) = Some (entry_place 8 c.sbsd c.job)
place_of (command.Addpje c) = Some (entry_place 9 c.sbsd (qname_text c.pgm))
place_of c = None
