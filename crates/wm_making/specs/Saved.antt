-- What is kept of the objects and the held queues as a call begins, and what they are once it is put back.
use Rattle.std.specs.Prelude.{List, Option, Some, None, if◌then◌else◌}
use Rattle.wm_base.specs.declared.qname.QName.{QName}
use Rattle.wm_base.specs.declared.refusal.Kind.{Kind}
use Rattle.wm_base.specs.declared.refusal.Kind.TheVariants as kind
use Rattle.wm_desc.specs.Objects.{with_description}
use Rattle.wm_desc.specs.Sorted.{removed}
use Rattle.wm_desc.specs.Table.{name_of, object_named, same_qname}
use Rattle.wm_desc.specs.declared.description.Sbsd.{Sbsd}
use Rattle.wm_desc.specs.declared.objects.Objects.{Objects}
use Rattle.wm_law.specs.declared.call.Call.{Call}
use Rattle.wm_law.specs.declared.configured.Configured.{Configured}
use Rattle.wm_law.specs.declared.configured.Configured.TheVariants as thing
use Rattle.wm_law.specs.Configured.{configured_by, is_there}
use Rattle.wm_making.specs.declared.saved.Saved.{Saved}
use Rattle.wm_making.specs.declared.saved.Saved.TheVariants.{Nothing, New, Description, Held}

-- an object that isn't there yet is new
abbrev pub saved_new : Kind → QName → Objects → Saved
saved_new kind name objects = if is_there kind name objects then Nothing else New kind name

-- the description, where it is there
abbrev pub described : QName → Option Sbsd → Saved
described name None = Nothing
described name (Some d) = Description name d

abbrev pub saved_description : QName → Objects → Saved
saved_description name objects = described name (object_named name objects.sbsds)

-- what may be changed, as it is
abbrev pub saved_as : Configured → Objects → List QName → Saved
saved_as (thing.Object kind name) objects held = saved_new kind name objects
saved_as (thing.Description name) objects held = saved_description name objects
saved_as thing.HeldQueues objects held = Held held

abbrev pub saved_where : Option Configured → Objects → List QName → Saved
saved_where None objects held = Nothing
saved_where (Some c) objects held = saved_as c objects held

-- and so what a call may change
abbrev pub saved_of : Objects → List QName → Call → Saved
saved_of objects held call = saved_where (configured_by call) objects held

-- the objects without one of a kind
abbrev pub without_object : Kind → QName → Objects → Objects
without_object kind.Cls name objects = record objects { classes = removed name_of same_qname name objects.classes }
without_object kind.Jobq name objects = record objects { jobqs = removed name_of same_qname name objects.jobqs }
without_object kind.Pgm name objects = record objects { programs = removed name_of same_qname name objects.programs }
without_object kind.Jobd name objects = record objects { jobds = removed name_of same_qname name objects.jobds }
without_object kind.Sbsd name objects = record objects { sbsds = removed name_of same_qname name objects.sbsds }
without_object kind name objects = objects

-- the objects with what was kept put back
abbrev pub old_objects : Saved → Objects → Objects
old_objects Nothing objects = objects
old_objects (New kind name) objects = without_object kind name objects
old_objects (Description name d) objects = with_description name (λ _. d) objects
old_objects (Held queues) objects = objects

-- the held queues with what was kept put back
abbrev pub old_held : Saved → List QName → List QName
old_held Nothing held = held
old_held (New kind name) held = held
old_held (Description name d) held = held
old_held (Held queues) held = queues
