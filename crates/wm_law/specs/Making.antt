-- The commands that make objects and change subsystem descriptions.
use Rattle.std.specs.Prelude.{Bool, ◌&&◌, Option, Some, None, is_some, if◌then◌else◌}
use Rattle.std.specs.List.{list_any}
use Rattle.wm_base.specs.declared.job.Class.{Class}
use Rattle.wm_base.specs.declared.qname.QName.{QName}
use Rattle.wm_base.specs.declared.refusal.Kind.TheVariants as kind
use Rattle.wm_base.specs.declared.refusal.Refusal.{Refusal}
use Rattle.wm_base.specs.declared.refusal.Refusal.TheVariants.{SbsActive}
use Rattle.wm_desc.specs.Objects.{with_class, with_jobq, with_program, with_jobd, with_sbsd, with_description, with_queue, with_route, with_auto, with_pre, without_queue, without_route, without_auto, without_pre}
use Rattle.wm_desc.specs.Refusals.{object_refusal, program_refusal, queue_refusal, route_refusal, auto_refusal, pre_refusal, remove_queue_refusal, remove_route_refusal, remove_auto_refusal, remove_pre_refusal}
use Rattle.wm_desc.specs.Table.{same_qname, object_named}
use Rattle.wm_desc.specs.declared.description.Jobd.{Jobd}
use Rattle.wm_desc.specs.declared.entry.AutoEntry.{AutoEntry}
use Rattle.wm_desc.specs.declared.entry.PreEntry.{PreEntry}
use Rattle.wm_desc.specs.declared.entry.QueueEntry.{QueueEntry}
use Rattle.wm_desc.specs.declared.entry.RouteEntry.{RouteEntry}
use Rattle.wm_desc.specs.declared.objects.Objects.{Objects}
use Rattle.wm_law.specs.declared.call.Reply.{Reply}
use Rattle.wm_law.specs.declared.call.Reply.TheVariants.{Made, No}
use Rattle.wm_law.specs.declared.command.Addaje.{Addaje}
use Rattle.wm_law.specs.declared.command.Addjobqe.{Addjobqe}
use Rattle.wm_law.specs.declared.command.Addpje.{Addpje}
use Rattle.wm_law.specs.declared.command.Addrtge.{Addrtge}
use Rattle.wm_law.specs.declared.command.Crtcls.{Crtcls}
use Rattle.wm_law.specs.declared.command.Crtjobd.{Crtjobd}
use Rattle.wm_law.specs.declared.command.Crtjobq.{Crtjobq}
use Rattle.wm_law.specs.declared.command.Crtpgmref.{Crtpgmref}
use Rattle.wm_law.specs.declared.command.Crtsbsd.{Crtsbsd}
use Rattle.wm_law.specs.declared.command.Rmvaje.{Rmvaje}
use Rattle.wm_law.specs.declared.command.Rmvjobqe.{Rmvjobqe}
use Rattle.wm_law.specs.declared.command.Rmvpje.{Rmvpje}
use Rattle.wm_law.specs.declared.command.Rmvrtge.{Rmvrtge}
use Rattle.wm_law.specs.declared.state.State.{State}
use Rattle.wm_law.specs.Stepped.{Stepped}

-- the reply, and the objects after it: these, if nothing refuses it
abbrev pub made_reply : Option Refusal → Reply
made_reply None = Made
made_reply (Some x) = No x

-- the objects after a command that makes or changes some, unless it is refused
abbrev pub made_objects : Objects → Objects → Option Refusal → Objects
made_objects before after None = after
made_objects before after (Some x) = before

-- a command that makes or changes objects, unless it is refused
abbrev pub made_unless : State → Objects → Option Refusal → Stepped
made_unless s objects refusal = record { reply = made_reply refusal; state = record s { objects = made_objects s.objects objects refusal } }

-- a started subsystem has the description
abbrev pub is_in_use : State → QName → Bool
is_in_use s sbsd = list_any (λ b. same_qname b.sbsd sbsd) s.started

-- a description isn't changed while its subsystem is started; after that come the refusals of the entry
abbrev pub unless_in_use : State → QName → Option Refusal → Option Refusal
unless_in_use s sbsd refusal = if is_some (object_named sbsd s.objects.sbsds) && is_in_use s sbsd then Some SbsActive else refusal

-- the class that CRTCLS names
abbrev pub class_of : Crtcls → Class
class_of c = record { runpty = c.runpty; timeslice = c.timeslice; dftwait = c.dftwait }

-- CRTCLS
abbrev pub make_class : State → Crtcls → Stepped
make_class s c = made_unless s (with_class c.cls (class_of c) s.objects) (object_refusal kind.Cls c.cls s.objects.classes)

-- CRTJOBQ
abbrev pub make_queue : State → Crtjobq → Stepped
make_queue s c = made_unless s (with_jobq c.jobq s.objects) (object_refusal kind.Jobq c.jobq s.objects.jobqs)

-- CRTPGMREF
abbrev pub make_program : State → Crtpgmref → Stepped
make_program s c = made_unless s (with_program c.pgm c.path s.objects) (program_refusal c.pgm s.objects.programs)

-- the job description that CRTJOBD names
abbrev pub jobd_of : Crtjobd → Jobd
jobd_of c = record { jobq = c.jobq; pty = c.jobpty; rtgdta = c.rtgdta; rqsdta = c.rqsdta; hold = c.hold }

-- CRTJOBD
abbrev pub make_job_description : State → Crtjobd → Stepped
make_job_description s c = made_unless s (with_jobd c.jobd (jobd_of c) s.objects) (object_refusal kind.Jobd c.jobd s.objects.jobds)

-- CRTSBSD: a description without entries
abbrev pub make_description : State → Crtsbsd → Stepped
make_description s c = made_unless s (with_sbsd c.sbsd c.maxjobs s.objects) (object_refusal kind.Sbsd c.sbsd s.objects.sbsds)

-- the queue entry that ADDJOBQE names
abbrev pub queue_entry_of : Addjobqe → QueueEntry
queue_entry_of c = record { seq = c.seqnbr; jobq = c.jobq; maxact = c.maxact; maxpty = c.maxpty }

-- ADDJOBQE
abbrev pub add_queue : State → Addjobqe → Stepped
add_queue s c =
    made_unless s (with_description c.sbsd (with_queue (queue_entry_of c)) s.objects)
    (unless_in_use s c.sbsd (queue_refusal s.objects c.sbsd (queue_entry_of c)))

-- the routing entry that ADDRTGE names
abbrev pub route_entry_of : Addrtge → RouteEntry
route_entry_of c = record { seq = c.seqnbr; cmp = c.cmpval; pgm = c.pgm; cls = c.cls; maxact = c.maxact; poolid = c.poolid }

-- ADDRTGE
abbrev pub add_route : State → Addrtge → Stepped
add_route s c =
    made_unless s (with_description c.sbsd (with_route (route_entry_of c)) s.objects)
    (unless_in_use s c.sbsd (route_refusal s.objects c.sbsd (route_entry_of c)))

-- the autostart entry that ADDAJE names
abbrev pub auto_entry_of : Addaje → AutoEntry
auto_entry_of c = record { job = c.job; jobd = c.jobd }

-- ADDAJE
abbrev pub add_auto : State → Addaje → Stepped
add_auto s c =
    made_unless s (with_description c.sbsd (with_auto (auto_entry_of c)) s.objects)
    (unless_in_use s c.sbsd (auto_refusal s.objects c.sbsd (auto_entry_of c)))

-- the prestart entry that ADDPJE names
abbrev pub pre_entry_of : Addpje → PreEntry
pre_entry_of c =
    record {
      pgm = c.pgm;
      strjobs = c.strjobs;
      inljobs = c.inljobs;
      threshold = c.threshold;
      adljobs = c.adljobs;
      maxjobs = c.maxjobs;
      maxuse = c.maxuse;
      wait = c.wait;
      cls = c.cls;
      poolid = c.poolid;
    }

-- ADDPJE
abbrev pub add_pre : State → Addpje → Stepped
add_pre s c =
    made_unless s (with_description c.sbsd (with_pre (pre_entry_of c)) s.objects)
    (unless_in_use s c.sbsd (pre_refusal s.objects c.sbsd (pre_entry_of c)))

-- RMVJOBQE
abbrev pub remove_queue : State → Rmvjobqe → Stepped
remove_queue s c =
    made_unless s (with_description c.sbsd (without_queue c.jobq) s.objects)
    (unless_in_use s c.sbsd (remove_queue_refusal s.objects c.sbsd c.jobq))

-- RMVRTGE
abbrev pub remove_route : State → Rmvrtge → Stepped
remove_route s c =
    made_unless s (with_description c.sbsd (without_route c.seqnbr) s.objects)
    (unless_in_use s c.sbsd (remove_route_refusal s.objects c.sbsd c.seqnbr))

-- RMVAJE
abbrev pub remove_auto : State → Rmvaje → Stepped
remove_auto s c =
    made_unless s (with_description c.sbsd (without_auto c.job) s.objects)
    (unless_in_use s c.sbsd (remove_auto_refusal s.objects c.sbsd c.job))

-- RMVPJE
abbrev pub remove_pre : State → Rmvpje → Stepped
remove_pre s c =
    made_unless s (with_description c.sbsd (without_pre c.pgm) s.objects)
    (unless_in_use s c.sbsd (remove_pre_refusal s.objects c.sbsd c.pgm))
