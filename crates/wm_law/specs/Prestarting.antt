-- STRPJ and ENDPJ: a prestart entry makes jobs again, or is stopped and its jobs are told to end.
use Rattle.std.specs.Prelude.{ℕ, Bool, false, not, ◌-◌, ◌==◌, ◌&&◌, List, Option, Some, None, filter, map, if◌then◌else◌}
use Rattle.std.specs.Option.{option_map}
use Rattle.wm_base.specs.declared.qname.QName.{QName}
use Rattle.wm_base.specs.declared.refusal.Kind.TheVariants as kind
use Rattle.wm_base.specs.declared.refusal.Refusal.TheVariants.{AlreadyActive, AlreadyEnding, EntryStopped, NoObject, PoweringDown, SbsNotActive}
use Rattle.wm_desc.specs.declared.description.Sbsd.{Sbsd}
use Rattle.wm_desc.specs.declared.entry.PreEntry.{PreEntry}
use Rattle.wm_desc.specs.Table.{object_named, same_qname}
use Rattle.wm_law.specs.declared.call.Reply.TheVariants.{PreEnding, PreStarted}
use Rattle.wm_law.specs.declared.command.EndOption.{EndOption}
use Rattle.wm_law.specs.declared.command.EndOption.TheVariants.{Cntrld, Immed}
use Rattle.wm_law.specs.declared.command.Endpj.{Endpj}
use Rattle.wm_law.specs.declared.command.Strpj.{Strpj}
use Rattle.wm_law.specs.declared.job.Job.{Job}
use Rattle.wm_law.specs.declared.job.Why.TheVariants as why
use Rattle.wm_law.specs.declared.job.Wish.{Wish}
use Rattle.wm_law.specs.declared.job.Wish.TheVariants as wish
use Rattle.wm_law.specs.declared.state.Sbs.{Sbs}
use Rattle.wm_law.specs.declared.state.State.{State}
use Rattle.wm_law.specs.declared.state.Stop.{Stop}
use Rattle.wm_law.specs.Counts.{count_from_pre, is_active, is_from_pre}
use Rattle.wm_law.specs.Endings.{is_wished, started_named}
use Rattle.wm_law.specs.Launch.{pre_entry_for}
use Rattle.wm_law.specs.Power.{is_on}
use Rattle.wm_law.specs.Prestart.{count_available, is_evoke_of, is_stopped, make_pres, room}
use Rattle.wm_law.specs.Reports.{stop_added}
use Rattle.wm_law.specs.Settling.{is_ending}
use Rattle.wm_law.specs.Stepped.{Stepped, refused}
use Rattle.wm_law.specs.Wishes.{moment_after, with_wish}

-- the entry is no longer stopped
abbrev pub without_stop : QName → QName → List Stop → List Stop
without_stop sbs pgm stopped = filter (λ e. not (same_qname e.sbs sbs && same_qname e.pgm pgm)) stopped

-- the state in which the entry isn't stopped
abbrev pub restarted : State → QName → QName → State
restarted s sbs pgm = record s { stopped = without_stop sbs pgm s.stopped }

-- the state in which the entry makes jobs again: so many are made that INLJOBS are available, where there is room
abbrev pub prestarted : State → QName → Sbsd → PreEntry → State
prestarted s sbs d e = make_pres sbs e.pgm (room (restarted s sbs e.pgm) sbs d e (e.inljobs - count_available sbs e.pgm s.jobs)) (restarted s sbs e.pgm)

-- STRPJ of an entry of a subsystem, where there is one
abbrev pub prestart_entry : State → QName → Sbsd → Option PreEntry → Stepped
prestart_entry s sbs d None = refused s (NoObject kind.Pje)
prestart_entry s sbs d (Some e) =
    if is_stopped s sbs e.pgm then record { reply = PreStarted; state = prestarted s sbs d e } else refused s AlreadyActive

-- STRPJ with the description that was found
abbrev pub prestart_with : State → QName → QName → Option Sbsd → Stepped
prestart_with s sbs pgm None = refused s (NoObject kind.Pje)
prestart_with s sbs pgm (Some d) = prestart_entry s sbs d (pre_entry_for pgm d)

-- STRPJ in the started subsystem that was found
abbrev pub prestart_in : State → QName → Option Sbs → Stepped
prestart_in s pgm None = refused s SbsNotActive
prestart_in s pgm (Some b) =
    if is_ending b.phase then refused s AlreadyEnding else prestart_with s b.sbsd pgm (object_named b.sbsd s.objects.sbsds)

-- the entry of the subsystem of the simple name makes jobs again
abbrev pub start_prestart : State → Strpj → Stepped
start_prestart s c = if is_on s.power then prestart_in s c.pgm (started_named s c.sbs) else refused s PoweringDown

-- what ENDPJ wishes
abbrev pub prestart_wish : ℕ → EndOption → Option ℕ → Wish
prestart_wish clock Cntrld delay = wish.Later (option_map (moment_after clock) delay) why.Endpj
prestart_wish clock Immed delay = wish.Now why.Endpj false

-- the job is an active one of the entry, without a wish that the option would give
abbrev pub is_of_entry : EndOption → QName → QName → Job → Bool
is_of_entry option sbs pgm j = is_active j.phase && is_from_pre sbs pgm j.how && not (is_wished option j.wish)

-- the job, which then is to end with its entry
abbrev pub told_with_entry : ℕ → EndOption → Option ℕ → QName → QName → Job → Job
told_with_entry clock option delay sbs pgm j = if is_of_entry option sbs pgm j then with_wish (prestart_wish clock option delay) j else j

-- the entry is stopped, its jobs are told to end, and the requests that wait there go
abbrev pub entry_ended : State → EndOption → Option ℕ → QName → QName → State
entry_ended s option delay sbs pgm =
    record s {
      jobs = map (told_with_entry s.clock option delay sbs pgm) s.jobs;
      stopped = stop_added sbs pgm s.stopped;
      evokes = filter (λ e. not (is_evoke_of sbs pgm e)) s.evokes;
    }

-- ENDPJ of an entry of a subsystem, where there is one: refused where it is stopped already and has no active job
abbrev pub end_entry : State → Endpj → QName → Option PreEntry → Stepped
end_entry s c sbs None = refused s (NoObject kind.Pje)
end_entry s c sbs (Some e) =
    if is_stopped s sbs e.pgm && count_from_pre sbs e.pgm s.jobs == 0
    then refused s EntryStopped
    else record { reply = PreEnding; state = entry_ended s c.option c.delay sbs e.pgm }

-- ENDPJ with the description that was found
abbrev pub end_entry_with : State → Endpj → QName → Option Sbsd → Stepped
end_entry_with s c sbs None = refused s (NoObject kind.Pje)
end_entry_with s c sbs (Some d) = end_entry s c sbs (pre_entry_for c.pgm d)

-- ENDPJ in the started subsystem that was found
abbrev pub end_entry_in : State → Endpj → Option Sbs → Stepped
end_entry_in s c None = refused s SbsNotActive
end_entry_in s c (Some b) = end_entry_with s c b.sbsd (object_named b.sbsd s.objects.sbsds)

-- the entry of the subsystem of the simple name is stopped, and its jobs are told to end
abbrev pub end_prestart : State → Endpj → Stepped
end_prestart s c = end_entry_in s c (started_named s c.sbs)
