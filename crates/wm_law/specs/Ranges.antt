-- Which ends and which objects keep the ranges of their values.
use Rattle.std.specs.Prelude.{◌≡◌, ◌≤◌, false}
use Rattle.wm_base.specs.declared.job.Class.{Class}
use Rattle.wm_base.specs.declared.job.EndCause.{EndCause}
use Rattle.wm_base.specs.declared.job.EndCause.TheVariants.{Completed, Exited, Killed, Endjob, Endsbs, Endpj, Maxuse, NoRoute, RouteFull, BadRequest, NoProgram, StartFailed, Cleared, EndedOnQueue, Restarted}
use Rattle.wm_base.specs.declared.qname.QName.{QName}
use Rattle.wm_desc.specs.declared.description.Jobd.{Jobd}
use Rattle.wm_desc.specs.declared.description.Jobq.{Jobq}
use Rattle.wm_desc.specs.declared.description.Program.{Program}
use Rattle.wm_desc.specs.declared.description.Sbsd.{Sbsd}
use Rattle.wm_desc.specs.declared.entry.AutoEntry.{AutoEntry}
use Rattle.wm_desc.specs.declared.entry.PreEntry.{PreEntry}
use Rattle.wm_desc.specs.declared.entry.QueueEntry.{QueueEntry}
use Rattle.wm_desc.specs.declared.entry.RouteEntry.{RouteEntry}
use Rattle.wm_desc.specs.declared.objects.Objects.{Objects}
use Rattle.wm_desc.specs.Table.{is_qcmd}
use Rattle.wm_law.specs.Again.{crtcls_of, crtpgmref_of, crtjobq_of, crtjobd_of, crtsbsd_of, addjobqe_of, addrtge_of, addaje_of, addpje_of}
use Rattle.wm_law.specs.Fit.{IsCommand}
use Rattle.wm_law.specs.Laws.{IsIn}
use Rattle.wm_law.specs.declared.command.Command.TheVariants as command

-- an exit code is a byte, and the number of a routing entry 1 to 9999
abbrev pub IsCause : EndCause → Type 0
IsCause Completed = Unit {0}
IsCause (Exited code) = code ≤ 255
IsCause Killed = Unit {0}
IsCause Endjob = Unit {0}
IsCause Endsbs = Unit {0}
IsCause Endpj = Unit {0}
IsCause Maxuse = Unit {0}
IsCause NoRoute = Unit {0}
IsCause (RouteFull seq) = (1 ≤ seq) × (seq ≤ 9999)
IsCause BadRequest = Unit {0}
IsCause NoProgram = Unit {0}
IsCause (StartFailed cause) = Unit {0}
IsCause Cleared = Unit {0}
IsCause EndedOnQueue = Unit {0}
IsCause Restarted = Unit {0}

-- the command that makes each entry again keeps its ranges
pub record HasEntriesInRange (sbsd : QName) (d : Sbsd) : Type 0 where
  pub queues : (e : QueueEntry) → IsIn e d.queues → IsCommand (command.Addjobqe (addjobqe_of sbsd e))
  pub routes : (e : RouteEntry) → IsIn e d.routes → IsCommand (command.Addrtge (addrtge_of sbsd e))
  pub autos : (e : AutoEntry) → IsIn e d.autos → IsCommand (command.Addaje (addaje_of sbsd e))
  pub pres : (e : PreEntry) → IsIn e d.pres → IsCommand (command.Addpje (addpje_of sbsd e))

-- the command that makes each object again keeps its ranges, and so do those of the entries; QSYS/QCMD is no object
pub record AreInRange (objects : Objects) : Type 0 where
  pub classes : (o : QName × Class) → IsIn o objects.classes → IsCommand (command.Crtcls (crtcls_of o.0 o.1))
  pub programs : (o : QName × Program) → IsIn o objects.programs → IsCommand (command.Crtpgmref (crtpgmref_of o.0 o.1))
  pub no_qcmd : (o : QName × Program) → IsIn o objects.programs → is_qcmd o.0 ≡ false
  pub jobqs : (o : QName × Jobq) → IsIn o objects.jobqs → IsCommand (command.Crtjobq (crtjobq_of o.0))
  pub jobds : (o : QName × Jobd) → IsIn o objects.jobds → IsCommand (command.Crtjobd (crtjobd_of o.0 o.1))
  pub sbsds : (o : QName × Sbsd) → IsIn o objects.sbsds → IsCommand (command.Crtsbsd (crtsbsd_of o.0 o.1))
  pub entries : (o : QName × Sbsd) → IsIn o objects.sbsds → HasEntriesInRange o.0 o.1
