-- Which calls keep the forms and ranges of their values.
use Rattle.std.specs.Prelude.{◌≡◌, ℕ, ◌<◌, ◌≤◌, ◌^◌, List, length, Option, IfSome, IsTrue, ⊤}
use Rattle.wm_base.specs.declared.job.Exit.{Exit}
use Rattle.wm_base.specs.declared.job.Exit.TheVariants as exit
use Rattle.wm_base.specs.declared.job.JobName.{JobName}
use Rattle.wm_base.specs.declared.qname.QName.{QName}
use Rattle.wm_base.specs.Name.{IsName}
use Rattle.wm_base.specs.Text.{IsText}
use Rattle.wm_desc.specs.Ranges.{class_in_range, path_in_range, jobd_in_range, maxjobs_in_range, queue_in_range, route_in_range, pre_in_range}
use Rattle.wm_desc.specs.declared.entry.Cmp.{Cmp}
use Rattle.wm_desc.specs.declared.entry.Cmp.TheVariants.{Any, Val}
use Rattle.wm_when.specs.Schedule.{date_in_range, time_in_range}
use Rattle.wm_law.specs.declared.call.Call.{Call}
use Rattle.wm_law.specs.declared.call.Call.TheVariants.{Change, Hand, Started, StartFailed, Finished, UseDone, Tick}
use Rattle.wm_law.specs.declared.command.Command.{Command}
use Rattle.wm_law.specs.declared.command.Command.TheVariants as command
use Rattle.wm_law.specs.declared.command.Addaje.{Addaje}
use Rattle.wm_law.specs.declared.command.Addjobqe.{Addjobqe}
use Rattle.wm_law.specs.declared.command.Addpje.{Addpje}
use Rattle.wm_law.specs.declared.command.Addrtge.{Addrtge}
use Rattle.wm_law.specs.declared.command.Chgjob.{Chgjob}
use Rattle.wm_law.specs.declared.command.Crtjobd.{Crtjobd}
use Rattle.wm_law.specs.declared.command.JobRef.{JobRef}
use Rattle.wm_law.specs.declared.command.JobRef.TheVariants.{Simple, ByUser, Full}
use Rattle.wm_law.specs.declared.command.Sbmjob.{Sbmjob}
use Rattle.wm_law.specs.Making.{class_of, jobd_of, pre_entry_of, queue_entry_of, route_entry_of}

-- a qualified name is of two names
pub record IsQName (q : QName) : Type 0 where
  pub lib : IsName q.lib
  pub name : IsName q.name

-- a text of at least and at most so many characters
pub record IsTextOf (low high : ℕ) (bytes : List ℕ) : Type 0 where
  pub text : IsText bytes
  pub least : low ≤ length bytes
  pub most : length bytes ≤ high

-- the number is in a range, its ends included
pub record IsBetween (low high n : ℕ) : Type 0 where
  pub least : low ≤ n
  pub most : n ≤ high

-- a full job name has a number from 1 to 999999 and two names
pub record IsJobName (j : JobName) : Type 0 where
  pub number : IsBetween 1 999999 j.number
  pub user : IsName j.user
  pub name : IsName j.name

-- a reference to a job is made of names, and of a number where it has one
abbrev pub IsJobRef : JobRef → Type 0
IsJobRef (Simple name) = IsName name
IsJobRef (ByUser user name) = IsName user × IsName name
IsJobRef (Full job) = IsJobName job

-- the value that routing data are compared with is a text
abbrev pub IsCompared : Cmp → Type 0
IsCompared Any = ⊤
IsCompared (Val value start) = IsText value

-- the values of CRTJOBD
pub record IsJobDescription (c : Crtjobd) : Type 0 where
  pub jobd : IsQName c.jobd
  pub jobq : IsQName c.jobq
  pub jobpty : IsBetween 1 9 c.jobpty
  pub rtgdta : IsText c.rtgdta
  pub rqsdta : IfSome c.rqsdta IsText
  pub ranges : IsTrue (jobd_in_range (jobd_of c))

-- the values of ADDJOBQE
pub record IsQueueEntry (c : Addjobqe) : Type 0 where
  pub sbsd : IsQName c.sbsd
  pub jobq : IsQName c.jobq
  pub maxpty : length c.maxpty ≡ 9
  pub ranges : IsTrue (queue_in_range (queue_entry_of c))

-- the values of ADDRTGE
pub record IsRoutingEntry (c : Addrtge) : Type 0 where
  pub sbsd : IsQName c.sbsd
  pub pgm : IsQName c.pgm
  pub cls : IsQName c.cls
  pub cmpval : IsCompared c.cmpval
  pub ranges : IsTrue (route_in_range (route_entry_of c))

-- the values of ADDAJE
pub record IsAutostartEntry (c : Addaje) : Type 0 where
  pub sbsd : IsQName c.sbsd
  pub job : IsName c.job
  pub jobd : IsQName c.jobd

-- the values of ADDPJE
pub record IsPrestartEntry (c : Addpje) : Type 0 where
  pub sbsd : IsQName c.sbsd
  pub pgm : IsQName c.pgm
  pub cls : IsQName c.cls
  pub ranges : IsTrue (pre_in_range (pre_entry_of c))

-- the values of SBMJOB
pub record IsSubmission (c : Sbmjob) : Type 0 where
  pub rqsdta : IfSome c.rqsdta (IsTextOf 0 1000)
  pub job : IfSome c.job IsName
  pub jobd : IsQName c.jobd
  pub jobq : IfSome c.jobq IsQName
  pub jobpty : IfSome c.jobpty (IsBetween 1 9)
  pub rtgdta : IfSome c.rtgdta (IsTextOf 1 80)
  pub scddate : IsTrue (date_in_range c.scddate)
  pub scdtime : IsTrue (time_in_range c.scdtime)

-- the values of CHGJOB
pub record IsJobChange (c : Chgjob) : Type 0 where
  pub job : IsJobRef c.job
  pub jobpty : IfSome c.jobpty (IsBetween 1 9)
  pub jobq : IfSome c.jobq IsQName
  pub scddate : IfSome c.scddate (λ d. IsTrue (date_in_range d))
  pub scdtime : IfSome c.scdtime (λ t. IsTrue (time_in_range t))

-- a delay of at most 99,999 seconds, or none
abbrev pub IsDelay : Option ℕ → Type 0
IsDelay delay = IfSome delay (IsBetween 1 99999)

-- a command's values keep their forms and ranges
abbrev pub IsCommand : Command → Type 0
IsCommand (command.Crtcls c) = IsQName c.cls × IsTrue (class_in_range (class_of c))
IsCommand (command.Crtjobq c) = IsQName c.jobq
IsCommand (command.Crtpgmref c) = IsQName c.pgm × IsText c.path × IsTrue (path_in_range c.path)
IsCommand (command.Crtjobd c) = IsJobDescription c
IsCommand (command.Crtsbsd c) = IsQName c.sbsd × IsTrue (maxjobs_in_range c.maxjobs)
IsCommand (command.Addjobqe c) = IsQueueEntry c
IsCommand (command.Addrtge c) = IsRoutingEntry c
IsCommand (command.Addaje c) = IsAutostartEntry c
IsCommand (command.Addpje c) = IsPrestartEntry c
IsCommand (command.Rmvjobqe c) = IsQName c.sbsd × IsQName c.jobq
IsCommand (command.Rmvrtge c) = IsQName c.sbsd × IsBetween 1 9999 c.seqnbr
IsCommand (command.Rmvaje c) = IsQName c.sbsd × IsName c.job
IsCommand (command.Rmvpje c) = IsQName c.sbsd × IsQName c.pgm
IsCommand (command.Strsbs c) = IsQName c.sbsd
IsCommand (command.Endsbs c) = IsName c.sbs × IsDelay c.delay
IsCommand (command.Sbmjob c) = IsSubmission c
IsCommand (command.Hldjob c) = IsJobRef c.job
IsCommand (command.Rlsjob c) = IsJobRef c.job
IsCommand (command.Chgjob c) = IsJobChange c
IsCommand (command.Endjob c) = IsJobRef c.job × IsBetween 1 999999 c.delay
IsCommand (command.Hldjobq c) = IsQName c.jobq
IsCommand (command.Rlsjobq c) = IsQName c.jobq
IsCommand (command.Clrjobq c) = IsQName c.jobq
IsCommand (command.Strpj c) = IsName c.sbs × IsQName c.pgm
IsCommand (command.Endpj c) = IsName c.sbs × IsQName c.pgm × IsDelay c.delay
IsCommand (command.Evoke c) = IsName c.sbs × IsQName c.pgm
IsCommand (command.Enduse c) = IsJobRef c.job
IsCommand (command.Pwrdwnsys c) = IsDelay c.delay

-- what a u64 can be
abbrev pub IsSerial : ℕ → Type 0
IsSerial serial = serial < 2 ^ 64

-- an exit code is what a u8 can be
abbrev pub IsExit : Exit → Type 0
IsExit (exit.Code code) = code < 2 ^ 8
IsExit exit.Killed = ⊤

-- a call's values keep their forms and ranges
abbrev pub IsCall : Call → Type 0
IsCall (Change user c) = IsName user × IsCommand c
IsCall Hand = ⊤
IsCall (Started serial) = IsSerial serial
IsCall (StartFailed serial why) = IsSerial serial
IsCall (Finished serial end) = IsSerial serial × IsExit end
IsCall (UseDone serial) = IsSerial serial
IsCall Tick = ⊤
