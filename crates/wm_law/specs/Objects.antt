-- What holds of the objects of each state: tables and entries stand in order and within their limits, and the names in subsystem descriptions are of objects.
use Rattle.std.specs.Prelude.{◌≡◌, ◌⊎◌, ◌≤◌, true, List, length, map, Some, None}
use Rattle.std.specs.Option.{IsSome}
use Rattle.std.specs.Cmp.Lexicographic.{slice_cmp}
use Rattle.std.specs.Ordering.{nat_cmp}
use Rattle.wm_base.specs.declared.qname.QName.{QName}
use Rattle.wm_desc.specs.declared.description.Sbsd.{Sbsd}
use Rattle.wm_desc.specs.declared.entry.AutoEntry.{AutoEntry}
use Rattle.wm_desc.specs.declared.entry.PreEntry.{PreEntry}
use Rattle.wm_desc.specs.declared.entry.QueueEntry.{QueueEntry}
use Rattle.wm_desc.specs.declared.entry.RouteEntry.{RouteEntry}
use Rattle.wm_desc.specs.declared.objects.Objects.{Objects}
use Rattle.wm_desc.specs.Refusals.{first_refusal, is_any, relation_tests}
use Rattle.wm_desc.specs.Sorted.{IsSortedOnce}
use Rattle.wm_desc.specs.Table.{is_qcmd, name_of, object_named, qname_cmp}
use Rattle.wm_law.specs.Kept.{IsDistinct}
use Rattle.wm_law.specs.Laws.{IsIn}

-- objects of one kind stand in the order of their names, each name once, and are at most 1,000
pub record IsTable {V : Type 0} (objects : List (QName × V)) : Type 0 where
  pub sorted : IsSortedOnce name_of qname_cmp objects
  pub most : length objects ≤ 1000

-- the objects of each kind are a table
pub record HasTables (objects : Objects) : Type 0 where
  pub classes : IsTable objects.classes
  pub jobqs : IsTable objects.jobqs
  pub programs : IsTable objects.programs
  pub jobds : IsTable objects.jobds
  pub sbsds : IsTable objects.sbsds

-- queue entries stand in the order of their numbers, each number once; no two are for one queue; each queue is an object
pub record HasQueueEntries (objects : Objects) (entries : List QueueEntry) : Type 0 where
  pub sorted : IsSortedOnce (λ e. e.seq) nat_cmp entries
  pub once : IsDistinct (map (λ e. e.jobq) entries)
  pub queues : (e : QueueEntry) → IsIn e entries → IsSome (object_named e.jobq objects.jobqs)

-- the name of a program is QSYS/QCMD or that of an object
abbrev pub IsProgram : Objects → QName → Type 0
IsProgram objects pgm = (is_qcmd pgm ≡ true) ⊎ IsSome (object_named pgm objects.programs)

-- each routing entry names a program, and *ANY has the greatest number; `IsRouted` has the order of the entries and their classes
pub record HasRoutingEntries (objects : Objects) (entries : List RouteEntry) : Type 0 where
  pub programs : (e : RouteEntry) → IsIn e entries → IsProgram objects e.pgm
  pub any_last : (e f : RouteEntry) → IsIn e entries → IsIn f entries → is_any e.cmp ≡ true → f.seq ≤ e.seq

-- autostart entries stand in the order of their job names, each name once; each job description is an object
pub record HasAutostartEntries (objects : Objects) (entries : List AutoEntry) : Type 0 where
  pub sorted : IsSortedOnce (λ e. e.job) (slice_cmp nat_cmp) entries
  pub jobds : (e : AutoEntry) → IsIn e entries → IsSome (object_named e.jobd objects.jobds)

-- prestart entries stand in the order of their programs, each program once; each program and each class is an object; the values of an entry go together
pub record HasPrestartEntries (objects : Objects) (entries : List PreEntry) : Type 0 where
  pub sorted : IsSortedOnce (λ e. e.pgm) qname_cmp entries
  pub programs : (e : PreEntry) → IsIn e entries → IsSome (object_named e.pgm objects.programs)
  pub classes : (e : PreEntry) → IsIn e entries → IsSome (object_named e.cls objects.classes)
  pub related : (e : PreEntry) → IsIn e entries → first_refusal (relation_tests e) ≡ None

-- no entry list is above its limit
pub record IsWithinSizes (d : Sbsd) : Type 0 where
  pub queues : length d.queues ≤ 100
  pub routes : length d.routes ≤ 999
  pub autos : length d.autos ≤ 100
  pub pres : length d.pres ≤ 100

-- what holds of a description: its queue entries, its routing entries, its autostart entries, its prestart entries, and how many there are
pub record IsDescription (objects : Objects) (d : Sbsd) : Type 0 where
  pub queues : HasQueueEntries objects d.queues
  pub routes : HasRoutingEntries objects d.routes
  pub autos : HasAutostartEntries objects d.autos
  pub pres : HasPrestartEntries objects d.pres
  pub sizes : IsWithinSizes d

-- what holds of the objects: their tables, and each subsystem description
pub record AreSound (objects : Objects) : Type 0 where
  pub tables : HasTables objects
  pub described : (sbs : QName) (d : Sbsd) → object_named sbs objects.sbsds ≡ Some d → IsDescription objects d
