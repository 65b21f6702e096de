-- Which calls tell jobs or subsystems to end, and which change objects or held queues.
use Rattle.std.specs.Prelude.{Bool, true, false, is_some}
use Rattle.wm_law.specs.declared.call.Call.{Call}
use Rattle.wm_law.specs.declared.call.Call.TheVariants.{Change, Hand, Started, StartFailed, Finished, UseDone, Tick}
use Rattle.wm_law.specs.declared.command.Command.{Command}
use Rattle.wm_law.specs.declared.command.Command.TheVariants as command
use Rattle.wm_law.specs.Configured.{configured, configured_by}

-- the command tells jobs or subsystems to end
abbrev pub tells_to_end : Command → Bool
tells_to_end (command.Crtcls c) = false
tells_to_end (command.Crtjobq c) = false
tells_to_end (command.Crtpgmref c) = false
tells_to_end (command.Crtjobd c) = false
tells_to_end (command.Crtsbsd c) = false
tells_to_end (command.Addjobqe c) = false
tells_to_end (command.Addrtge c) = false
tells_to_end (command.Addaje c) = false
tells_to_end (command.Addpje c) = false
tells_to_end (command.Rmvjobqe c) = false
tells_to_end (command.Rmvrtge c) = false
tells_to_end (command.Rmvaje c) = false
tells_to_end (command.Rmvpje c) = false
tells_to_end (command.Strsbs c) = false
tells_to_end (command.Endsbs c) = true
tells_to_end (command.Sbmjob c) = false
tells_to_end (command.Hldjob c) = false
tells_to_end (command.Rlsjob c) = false
tells_to_end (command.Chgjob c) = false
tells_to_end (command.Endjob c) = true
tells_to_end (command.Hldjobq c) = false
tells_to_end (command.Rlsjobq c) = false
tells_to_end (command.Clrjobq c) = false
tells_to_end (command.Strpj c) = false
tells_to_end (command.Endpj c) = true
tells_to_end (command.Evoke c) = false
tells_to_end (command.Enduse c) = false
tells_to_end (command.Pwrdwnsys c) = true

-- a call of such a command
abbrev pub is_ending_call : Call → Bool
is_ending_call (Change user c) = tells_to_end c
is_ending_call Hand = false
is_ending_call (Started serial) = false
is_ending_call (StartFailed serial why) = false
is_ending_call (Finished serial end) = false
is_ending_call (UseDone serial) = false
is_ending_call Tick = false

-- the command may change objects or held queues
abbrev pub configures : Command → Bool
configures c = is_some (configured c)

-- a call of such a command
abbrev pub is_configuring_call : Call → Bool
is_configuring_call call = is_some (configured_by call)
