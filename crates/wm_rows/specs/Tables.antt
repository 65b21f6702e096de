-- All rows of objects, held queues and counters.
use Rattle.std.specs.Prelude.{ℕ, List, [], ◌∷◌, ◌++◌, map}
use Rattle.std.specs.List.{flat_map}
use Rattle.wm_base.specs.declared.qname.QName.{QName}
use Rattle.wm_traits.specs.declared.row.Row.{Row}
use Rattle.wm_desc.specs.declared.description.Sbsd.{Sbsd}
use Rattle.wm_desc.specs.declared.objects.Objects.{Objects}
use Rattle.wm_rows.specs.declared.stored.Counter.TheVariants as counter
use Rattle.wm_rows.specs.Rows.{class_row, program_row, queue_row, jobd_row, sbsd_row, queue_entry_row, route_entry_row, auto_entry_row, pre_entry_row, held_row, counter_row}

-- the rows of the entries of one kind of a subsystem description

abbrev pub queue_entry_rows : QName × Sbsd → List Row
queue_entry_rows object = map (queue_entry_row object.0) object.1.queues

abbrev pub route_entry_rows : QName × Sbsd → List Row
route_entry_rows object = map (route_entry_row object.0) object.1.routes

abbrev pub auto_entry_rows : QName × Sbsd → List Row
auto_entry_rows object = map (auto_entry_row object.0) object.1.autos

abbrev pub pre_entry_rows : QName × Sbsd → List Row
pre_entry_rows object = map (pre_entry_row object.0) object.1.pres

-- the rows of subsystem descriptions, table by table
abbrev pub sbsd_rows : List (QName × Sbsd) → List Row
sbsd_rows sbsds =
    map sbsd_row sbsds
    ++ flat_map queue_entry_rows sbsds
    ++ flat_map route_entry_rows sbsds
    ++ flat_map auto_entry_rows sbsds
    ++ flat_map pre_entry_rows sbsds

-- the rows of objects, table by table
abbrev pub object_rows : Objects → List Row
object_rows objects =
    map class_row objects.classes
    ++ map program_row objects.programs
    ++ map queue_row objects.jobqs
    ++ map jobd_row objects.jobds
    ++ sbsd_rows objects.sbsds

-- the rows of the queues that are held
abbrev pub held_rows : List QName → List Row
held_rows held = map held_row held

-- the schema is 1
abbrev pub counter_rows : ℕ → ℕ → ℕ → List Row
counter_rows next_number next_place next_serial =
    counter_row counter.Number next_number
    ∷ counter_row counter.Place next_place
    ∷ counter_row counter.Schema 1
    ∷ counter_row counter.Serial next_serial
    ∷ []
