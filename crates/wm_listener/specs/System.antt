-- What is seen of a listener of the system and of its desks.
use Rattle.std.specs.Prelude.{◌≡◌, ℕ, List, Option, Some, None, if◌then◌else◌}
use Rattle.wm_outside.specs.System.{reader_faults, writer_faults}
use Rattle.wm_outside.specs.declared.system.reader.ReadSource.{ReadSource}
use Rattle.wm_outside.specs.declared.system.writer.WriteSink.{WriteSink}
use Rattle.wm_listener.specs.declared.system.desk.SysDesk.{SysDesk}

-- whether a connection is in hand, of which nothing is told
abbrev pub sys_hand : SysDesk → Option (Option (List ℕ))
sys_hand d = if d.holds then Some None else None

-- neither half of a connection has counted a fault
pub record AreNew {R W : Type 0} (halves : ReadSource R × WriteSink W) : Type 0 where
  pub reads : reader_faults halves.0 ≡ 0
  pub writes : writer_faults halves.1 ≡ 0
