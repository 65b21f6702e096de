-- A step of the machine: the clock is set, the call is applied, and the state settles.
use Rattle.std.specs.Prelude.{ℕ, true, false, List, max}
use Rattle.wm_base.specs.declared.job.EndCause.TheVariants as cause
use Rattle.wm_law.specs.declared.call.Call.{Call}
use Rattle.wm_law.specs.declared.call.Call.TheVariants.{Change, Hand, Started, StartFailed, Finished, UseDone, Tick}
use Rattle.wm_law.specs.declared.command.Command.{Command}
use Rattle.wm_law.specs.declared.command.Command.TheVariants as command
use Rattle.wm_law.specs.declared.call.Reply.TheVariants.{Noted}
use Rattle.wm_law.specs.declared.job.Phase.TheVariants.{Running, Ended}
use Rattle.wm_law.specs.declared.state.State.{State}
use Rattle.wm_law.specs.Making.{make_class, make_queue, make_program, make_job_description, make_description, add_queue, add_route, add_auto, add_pre, remove_queue, remove_route, remove_auto, remove_pre}
use Rattle.wm_law.specs.Changing.{change_job}
use Rattle.wm_law.specs.Holding.{hold_job, release_job}
use Rattle.wm_law.specs.Queues.{clear_queue, hold_queue, release_queue}
use Rattle.wm_law.specs.Stepped.{Stepped}
use Rattle.wm_law.specs.Endings.{end_job, end_subsystem, power_down}
use Rattle.wm_law.specs.Subsystems.{start_subsystem}
use Rattle.wm_law.specs.Submitting.{submit}
use Rattle.wm_law.specs.Reports.{hand, is_handed_to, is_run_by, is_unused, report, end_cause}
use Rattle.wm_law.specs.Prestarting.{end_prestart, start_prestart}
use Rattle.wm_law.specs.Settling.{settle}
use Rattle.wm_law.specs.Uses.{end_use, evoke, use_done}

-- what each command does
abbrev pub change : State → List ℕ → Command → Stepped
change s user (command.Crtcls c) = make_class s c
change s user (command.Crtjobq c) = make_queue s c
change s user (command.Crtpgmref c) = make_program s c
change s user (command.Crtjobd c) = make_job_description s c
change s user (command.Crtsbsd c) = make_description s c
change s user (command.Addjobqe c) = add_queue s c
change s user (command.Addrtge c) = add_route s c
change s user (command.Addaje c) = add_auto s c
change s user (command.Addpje c) = add_pre s c
change s user (command.Rmvjobqe c) = remove_queue s c
change s user (command.Rmvrtge c) = remove_route s c
change s user (command.Rmvaje c) = remove_auto s c
change s user (command.Rmvpje c) = remove_pre s c
change s user (command.Strsbs c) = start_subsystem s c.sbsd
change s user (command.Endsbs c) = end_subsystem s c
change s user (command.Sbmjob c) = submit s user c
change s user (command.Hldjob c) = hold_job s c.job
change s user (command.Rlsjob c) = release_job s c.job
change s user (command.Chgjob c) = change_job s c
change s user (command.Endjob c) = end_job s c
change s user (command.Hldjobq c) = hold_queue s c.jobq
change s user (command.Rlsjobq c) = release_queue s c.jobq
change s user (command.Clrjobq c) = clear_queue s c.jobq
change s user (command.Strpj c) = start_prestart s c
change s user (command.Endpj c) = end_prestart s c
change s user (command.Evoke c) = evoke s user c
change s user (command.Enduse c) = end_use s c
change s user (command.Pwrdwnsys c) = power_down s c

-- the reply to a call, and the state before it settles
abbrev pub apply : State → ℕ → Call → Stepped
apply s caller (Change user c) = change s user c
apply s caller Hand = hand s caller
apply s caller (Started serial) = report s serial (is_handed_to caller) (λ j. Running caller) (λ j. false)
apply s caller (StartFailed serial why) = report s serial (is_handed_to caller) (λ j. Ended (cause.StartFailed why)) (λ j. true)
apply s caller (Finished serial end) = report s serial (is_run_by caller) (λ j. Ended (end_cause end j.wish)) is_unused
apply s caller (UseDone serial) = use_done s caller serial
apply s caller Tick = record { reply = Noted; state = s }

-- the clock never goes back
abbrev pub with_clock : State → ℕ → State
with_clock s moment = record s { clock = max s.clock moment }

-- the reply, and the state once it has settled
abbrev pub settled : Stepped → Stepped
settled t = record { reply = t.reply; state = settle t.state }

-- the clock is set, the call is applied, and the state settles
unfoldable pub step : State → ℕ → Call → ℕ → Stepped
step s caller call moment = settled (apply (with_clock s moment) caller call)
