-- What the objects are after something was added or removed.
use Rattle.std.specs.Prelude.{ℕ, List, [], nat_eq, not, filter}
use Rattle.std.specs.Ordering.{nat_cmp}
use Rattle.std.specs.Cmp.Lexicographic.{pointwise, slice_cmp}
use Rattle.wm_base.specs.declared.job.Class.{Class}
use Rattle.wm_base.specs.declared.limit.Limit.{Limit}
use Rattle.wm_base.specs.declared.qname.QName.{QName}
use Rattle.wm_desc.specs.declared.description.Jobd.{Jobd}
use Rattle.wm_desc.specs.declared.description.Sbsd.{Sbsd}
use Rattle.wm_desc.specs.declared.entry.AutoEntry.{AutoEntry}
use Rattle.wm_desc.specs.declared.entry.PreEntry.{PreEntry}
use Rattle.wm_desc.specs.declared.entry.QueueEntry.{QueueEntry}
use Rattle.wm_desc.specs.declared.entry.RouteEntry.{RouteEntry}
use Rattle.wm_desc.specs.declared.objects.Objects.{Objects}
use Rattle.wm_desc.specs.Sorted.{added, removed}
use Rattle.wm_desc.specs.Table.{qname_cmp, same_qname, name_of, changed}

-- the objects of a kind with one more, in its place
abbrev pub with_object : {V : Type 0} → QName → V → List (QName × V) → List (QName × V)
with_object name value objects = added name_of qname_cmp (name, value) objects

abbrev pub with_class : QName → Class → Objects → Objects
with_class name cls objects = record objects { classes = with_object name cls objects.classes }

abbrev pub with_jobq : QName → Objects → Objects
with_jobq name objects = record objects { jobqs = with_object name (record {}) objects.jobqs }

abbrev pub with_program : QName → List ℕ → Objects → Objects
with_program name path objects = record objects { programs = with_object name (record { path = path }) objects.programs }

abbrev pub with_jobd : QName → Jobd → Objects → Objects
with_jobd name jobd objects = record objects { jobds = with_object name jobd objects.jobds }

-- a description without entries
abbrev pub empty_sbsd : Limit → Sbsd
empty_sbsd maxjobs = record { maxjobs = maxjobs; queues = []; routes = []; autos = []; pres = [] }

abbrev pub with_sbsd : QName → Limit → Objects → Objects
with_sbsd name maxjobs objects = record objects { sbsds = with_object name (empty_sbsd maxjobs) objects.sbsds }

-- the objects with a subsystem description changed
abbrev pub with_description : QName → (Sbsd → Sbsd) → Objects → Objects
with_description sbsd change objects = record objects { sbsds = changed sbsd change objects.sbsds }

-- a description with an entry more
abbrev pub with_queue : QueueEntry → Sbsd → Sbsd
with_queue entry description = record description { queues = added (λ e. e.seq) nat_cmp entry description.queues }

abbrev pub with_route : RouteEntry → Sbsd → Sbsd
with_route entry description = record description { routes = added (λ e. e.seq) nat_cmp entry description.routes }

abbrev pub with_auto : AutoEntry → Sbsd → Sbsd
with_auto entry description = record description { autos = added (λ e. e.job) (slice_cmp nat_cmp) entry description.autos }

abbrev pub with_pre : PreEntry → Sbsd → Sbsd
with_pre entry description = record description { pres = added (λ e. e.pgm) qname_cmp entry description.pres }

-- a description without the entry for a queue
abbrev pub without_queue : QName → Sbsd → Sbsd
without_queue jobq description = record description { queues = filter (λ e. not (same_qname e.jobq jobq)) description.queues }

abbrev pub without_route : ℕ → Sbsd → Sbsd
without_route seq description = record description { routes = removed (λ e. e.seq) nat_eq seq description.routes }

abbrev pub without_auto : List ℕ → Sbsd → Sbsd
without_auto job description = record description { autos = removed (λ e. e.job) (pointwise nat_eq) job description.autos }

abbrev pub without_pre : QName → Sbsd → Sbsd
without_pre pgm description = record description { pres = removed (λ e. e.pgm) same_qname pgm description.pres }
