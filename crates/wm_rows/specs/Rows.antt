-- The rows of things.
use Rattle.std.specs.Prelude.{◌≡◌, ℕ, List, Option, Some, codes}
use Rattle.std.specs.Fmt.{decimal}
use Rattle.std.specs.Option.{option_map}
use Rattle.wm_base.specs.QName.{qname_text}
use Rattle.wm_base.specs.declared.job.Class.{Class}
use Rattle.wm_base.specs.declared.qname.QName.{QName}
use Rattle.wm_traits.specs.declared.row.Row.{Row}
use Rattle.wm_desc.specs.declared.description.Jobd.{Jobd}
use Rattle.wm_desc.specs.declared.description.Jobq.{Jobq}
use Rattle.wm_desc.specs.declared.description.Program.{Program}
use Rattle.wm_desc.specs.declared.description.Sbsd.{Sbsd}
use Rattle.wm_desc.specs.declared.entry.AutoEntry.{AutoEntry}
use Rattle.wm_desc.specs.declared.entry.PreEntry.{PreEntry}
use Rattle.wm_desc.specs.declared.entry.QueueEntry.{QueueEntry}
use Rattle.wm_desc.specs.declared.entry.RouteEntry.{RouteEntry}
use Rattle.wm_law.specs.declared.command.Command.{Command}
use Rattle.wm_law.specs.declared.command.Command.TheVariants as command
use Rattle.wm_command.specs.Print.{command_text}
use Rattle.wm_rows.specs.declared.place.Place.{Place}
use Rattle.wm_rows.specs.declared.stored.Counter.{Counter}
use Rattle.wm_rows.specs.declared.stored.Counter.TheVariants as counter
use Rattle.wm_rows.specs.declared.stored.Stored.{Stored}
use Rattle.wm_rows.specs.declared.stored.Stored.TheVariants as stored
use Rattle.wm_law.specs.Again.{crtcls_of, crtpgmref_of, crtjobq_of, crtjobd_of, crtsbsd_of, addjobqe_of, addrtge_of, addaje_of, addpje_of}
use Rattle.wm_rows.specs.Places.{object_place, entry_place, numbered_place, place_of}

-- a row that holds a command: its body is the command's canonical text
abbrev pub made_row : Place → Command → Row
made_row place c = record { tab = place.tab; key = place.key; body = command_text c }

-- Objects

abbrev pub class_row : QName × Class → Row
class_row object = made_row (object_place 1 object.0) (command.Crtcls (crtcls_of object.0 object.1))

abbrev pub program_row : QName × Program → Row
program_row object = made_row (object_place 2 object.0) (command.Crtpgmref (crtpgmref_of object.0 object.1))

abbrev pub queue_row : QName × Jobq → Row
queue_row object = made_row (object_place 3 object.0) (command.Crtjobq (crtjobq_of object.0))

abbrev pub jobd_row : QName × Jobd → Row
jobd_row object = made_row (object_place 4 object.0) (command.Crtjobd (crtjobd_of object.0 object.1))

abbrev pub sbsd_row : QName × Sbsd → Row
sbsd_row object = made_row (object_place 5 object.0) (command.Crtsbsd (crtsbsd_of object.0 object.1))

-- The entries of a subsystem description

abbrev pub queue_entry_row : QName → QueueEntry → Row
queue_entry_row sbsd entry = made_row (numbered_place 6 sbsd entry.seq) (command.Addjobqe (addjobqe_of sbsd entry))

abbrev pub route_entry_row : QName → RouteEntry → Row
route_entry_row sbsd entry = made_row (numbered_place 7 sbsd entry.seq) (command.Addrtge (addrtge_of sbsd entry))

abbrev pub auto_entry_row : QName → AutoEntry → Row
auto_entry_row sbsd entry = made_row (entry_place 8 sbsd entry.job) (command.Addaje (addaje_of sbsd entry))

abbrev pub pre_entry_row : QName → PreEntry → Row
pre_entry_row sbsd entry = made_row (entry_place 9 sbsd (qname_text entry.pgm)) (command.Addpje (addpje_of sbsd entry))

-- Held queues and counters

abbrev pub held_row : QName → Row
held_row jobq = record { tab = 10; key = qname_text jobq; body = codes "HELD" }

abbrev pub counter_word : Counter → List ℕ
counter_word counter.Number = codes "NUMBER"
counter_word counter.Place = codes "PLACE"
counter_word counter.Schema = codes "SCHEMA"
counter_word counter.Serial = codes "SERIAL"

-- a decimal number without leading zeros
abbrev pub counter_row : Counter → ℕ → Row
counter_row c n = record { tab = 12; key = counter_word c; body = decimal n }

-- Any of these

-- the row of what a command makes, where that is stored
abbrev pub command_row : Command → Option Row
command_row c = option_map (λ place. made_row place c) (place_of c)

-- the row of a stored thing; a command that makes none has no row
abbrev pub row_of : Stored → Option Row
row_of (stored.Made c) = command_row c
row_of (stored.Held jobq) = Some (held_row jobq)
row_of (stored.Counter c n) = Some (counter_row c n)

-- what is made of an object or an entry by its command has the row of that object or entry
pub record HasItsRow : Type 0 where
  pub class : (name : QName) (cls : Class) → command_row (command.Crtcls (crtcls_of name cls)) ≡ Some (class_row (name, cls))
  pub program : (name : QName) (program : Program) → command_row (command.Crtpgmref (crtpgmref_of name program)) ≡ Some (program_row (name, program))
  pub queue : (name : QName) (jobq : Jobq) → command_row (command.Crtjobq (crtjobq_of name)) ≡ Some (queue_row (name, jobq))
  pub jobd : (name : QName) (jobd : Jobd) → command_row (command.Crtjobd (crtjobd_of name jobd)) ≡ Some (jobd_row (name, jobd))
  pub sbsd : (name : QName) (sbsd : Sbsd) → command_row (command.Crtsbsd (crtsbsd_of name sbsd)) ≡ Some (sbsd_row (name, sbsd))
  pub queue_entry : (sbsd : QName) (entry : QueueEntry) → command_row (command.Addjobqe (addjobqe_of sbsd entry)) ≡ Some (queue_entry_row sbsd entry)
  pub route_entry : (sbsd : QName) (entry : RouteEntry) → command_row (command.Addrtge (addrtge_of sbsd entry)) ≡ Some (route_entry_row sbsd entry)
  pub auto_entry : (sbsd : QName) (entry : AutoEntry) → command_row (command.Addaje (addaje_of sbsd entry)) ≡ Some (auto_entry_row sbsd entry)
  pub pre_entry : (sbsd : QName) (entry : PreEntry) → command_row (command.Addpje (addpje_of sbsd entry)) ≡ Some (pre_entry_row sbsd entry)
