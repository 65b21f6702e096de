-- What a call may change of the objects and the held queues.
use Rattle.std.specs.Prelude.{Bool, true, Option, Some, None}
use Rattle.wm_base.specs.declared.qname.QName.{QName}
use Rattle.wm_base.specs.declared.refusal.Kind.{Kind}
use Rattle.wm_base.specs.declared.refusal.Kind.TheVariants as kind
use Rattle.wm_desc.specs.Table.{has_object}
use Rattle.wm_desc.specs.declared.objects.Objects.{Objects}
use Rattle.wm_law.specs.declared.call.Call.{Call}
use Rattle.wm_law.specs.declared.call.Call.TheVariants.{Change, Hand, Started, StartFailed, Finished, UseDone, Tick}
use Rattle.wm_law.specs.declared.command.Command.{Command}
use Rattle.wm_law.specs.declared.command.Command.TheVariants as command
use Rattle.wm_law.specs.declared.configured.Configured.{Configured}
use Rattle.wm_law.specs.declared.configured.Configured.TheVariants.{Object, Description, HeldQueues}

-- a command makes an object, makes or removes an entry of a description, or holds or releases a queue; others do none of these
abbrev pub configured : Command → Option Configured
configured (command.Crtcls c) = Some (Object kind.Cls c.cls)
configured (command.Crtjobq c) = Some (Object kind.Jobq c.jobq)
configured (command.Crtpgmref c) = Some (Object kind.Pgm c.pgm)
configured (command.Crtjobd c) = Some (Object kind.Jobd c.jobd)
configured (command.Crtsbsd c) = Some (Object kind.Sbsd c.sbsd)
configured (command.Addjobqe c) = Some (Description c.sbsd)
configured (command.Addrtge c) = Some (Description c.sbsd)
configured (command.Addaje c) = Some (Description c.sbsd)
configured (command.Addpje c) = Some (Description c.sbsd)
configured (command.Rmvjobqe c) = Some (Description c.sbsd)
configured (command.Rmvrtge c) = Some (Description c.sbsd)
configured (command.Rmvaje c) = Some (Description c.sbsd)
configured (command.Rmvpje c) = Some (Description c.sbsd)
configured (command.Hldjobq c) = Some HeldQueues
configured (command.Rlsjobq c) = Some HeldQueues
configured c = None

-- and so does a call
abbrev pub configured_by : Call → Option Configured
configured_by (Change user c) = configured c
configured_by Hand = None
configured_by (Started serial) = None
configured_by (StartFailed serial why) = None
configured_by (Finished serial end) = None
configured_by (UseDone serial) = None
configured_by Tick = None

-- an object of a kind is there; kinds of entries have no objects to be made
abbrev pub is_there : Kind → QName → Objects → Bool
is_there kind.Cls name objects = has_object name objects.classes
is_there kind.Jobq name objects = has_object name objects.jobqs
is_there kind.Pgm name objects = has_object name objects.programs
is_there kind.Jobd name objects = has_object name objects.jobds
is_there kind.Sbsd name objects = has_object name objects.sbsds
is_there kind name objects = true
