-- What is said of replies and of faults, without a line's end.
use Rattle.std.specs.Prelude.{ℕ, List, [], ◌++◌, codes}
use Rattle.std.specs.Fmt.{decimal}
use Rattle.wm_base.specs.declared.job.Asked.{Asked}
use Rattle.wm_base.specs.declared.job.Asked.TheVariants.{Start, Kill}
use Rattle.wm_base.specs.JobName.{job_name_text}
use Rattle.wm_base.specs.Key.{key_word}
use Rattle.wm_base.specs.QName.{qname_text}
use Rattle.wm_base.specs.Refusal.{refusal_text}
use Rattle.wm_clwords.specs.declared.fault.ClFault.{ClFault}
use Rattle.wm_clwords.specs.declared.fault.ClFault.TheVariants.{Empty, BadName, OpenQuote, OpenParen, StrayParen, OpenComment, TooLong, BadByte, TooDeep}
use Rattle.wm_clwords.specs.declared.fault.ClFault.TheVariants as cl
use Rattle.wm_command.specs.Shown.{verb_of}
use Rattle.wm_command.specs.Table.{change_word}
use Rattle.wm_command.specs.declared.fault.CmdFault.{CmdFault}
use Rattle.wm_command.specs.declared.fault.CmdFault.TheVariants.{UnknownCommand, UnknownKeyword, Twice, Missing, BadValue, TooManyValues, Conflict, NotCall}
use Rattle.wm_command.specs.declared.fault.CmdFault.TheVariants as cm
use Rattle.wm_law.specs.declared.command.Command.{Command}
use Rattle.wm_law.specs.declared.command.Command.TheVariants as command
use Rattle.wm_law.specs.declared.call.Reply.{Reply}
use Rattle.wm_law.specs.declared.call.Reply.TheVariants.{Made, SbsStarted, SbsEnding, Submitted, Held, Released, Changed, JobEnding, JobEnded, QueueHeld, QueueReleased, QueueCleared, PreStarted, PreEnding, Evoked, EvokeWaits, UseEnded, PowerDown, Order, Nothing, Noted, No}
use Rattle.wm_listing.specs.declared.line_fault.LineFault.{LineFault}
use Rattle.wm_listing.specs.declared.line_fault.LineFault.TheVariants.{Cl, Cm}
use Rattle.wm_listing.specs.declared.mention.Mention.{Mention}
use Rattle.wm_listing.specs.declared.mention.Subject.{Subject}
use Rattle.wm_listing.specs.declared.mention.Subject.TheVariants as subject

-- what is ordered, with the job's serial
abbrev pub order_text : Asked → List ℕ
order_text (Start o) = codes "ORDER START " ++ decimal o.serial
order_text (Kill serial) = codes "ORDER KILL " ++ decimal serial

-- what a command is about: an object that it makes or changes, a queue, or a prestart entry
abbrev pub subject_of : Command → Subject
subject_of (command.Crtcls c) = subject.Object c.cls
subject_of (command.Crtjobq c) = subject.Object c.jobq
subject_of (command.Crtpgmref c) = subject.Object c.pgm
subject_of (command.Crtjobd c) = subject.Object c.jobd
subject_of (command.Crtsbsd c) = subject.Object c.sbsd
subject_of (command.Addjobqe c) = subject.Object c.sbsd
subject_of (command.Addrtge c) = subject.Object c.sbsd
subject_of (command.Addaje c) = subject.Object c.sbsd
subject_of (command.Addpje c) = subject.Object c.sbsd
subject_of (command.Rmvjobqe c) = subject.Object c.sbsd
subject_of (command.Rmvrtge c) = subject.Object c.sbsd
subject_of (command.Rmvaje c) = subject.Object c.sbsd
subject_of (command.Rmvpje c) = subject.Object c.sbsd
subject_of (command.Hldjobq c) = subject.Object c.jobq
subject_of (command.Rlsjobq c) = subject.Object c.jobq
subject_of (command.Clrjobq c) = subject.Object c.jobq
subject_of (command.Strpj c) = subject.PreEntry c.pgm c.sbs
subject_of (command.Endpj c) = subject.PreEntry c.pgm c.sbs
subject_of c = subject.Nothing

-- what the line of a reply mentions of its command
abbrev pub mention_of : Command → Mention
mention_of c = record { verb = verb_of c; subject = subject_of c }

-- a blank and what it is about, where it is about something
abbrev pub behind_blank : Subject → List ℕ
behind_blank subject.Nothing = []
behind_blank (subject.Object q) = codes " " ++ qname_text q
behind_blank (subject.PreEntry pgm sbs) = codes " " ++ qname_text pgm ++ codes " in " ++ sbs

-- the command's word, and what it is about
abbrev pub made_text : Mention → List ℕ
made_text m = codes "OK " ++ change_word m.verb ++ behind_blank m.subject

-- what is said of a command about a queue
abbrev pub queue_text : Subject → List ℕ → List ℕ
queue_text s end = codes "OK queue" ++ behind_blank s ++ end

-- what is said of a command about a prestart entry
abbrev pub prestart_text : Subject → List ℕ → List ℕ
prestart_text s end = codes "OK prestart" ++ behind_blank s ++ end

-- what is said of the reply to a monitor's call, which is an order, nothing, noted or a refusal
abbrev pub noted_text : Reply → List ℕ
noted_text (Order asked) = order_text asked
noted_text Nothing = codes "NOTHING"
noted_text Noted = codes "NOTED"
noted_text (No refusal) = codes "NO " ++ refusal_text refusal
noted_text Made = []
noted_text (SbsStarted sbs) = []
noted_text (SbsEnding sbs) = []
noted_text (Submitted job jobq) = []
noted_text (Held job) = []
noted_text (Released job) = []
noted_text (Changed job) = []
noted_text (JobEnding job) = []
noted_text (JobEnded job) = []
noted_text QueueHeld = []
noted_text QueueReleased = []
noted_text (QueueCleared count) = []
noted_text PreStarted = []
noted_text PreEnding = []
noted_text (Evoked job) = []
noted_text (EvokeWaits position) = []
noted_text (UseEnded job) = []
noted_text PowerDown = []

-- what is said of the reply to a command of which this is mentioned
abbrev pub said_of : Mention → Reply → List ℕ
said_of m Made = made_text m
said_of m (SbsStarted sbs) = codes "OK subsystem " ++ qname_text sbs ++ codes " started"
said_of m (SbsEnding sbs) = codes "OK subsystem " ++ qname_text sbs ++ codes " ending"
said_of m (Submitted job jobq) = codes "OK " ++ job_name_text job ++ codes " submitted to " ++ qname_text jobq
said_of m (Held job) = codes "OK " ++ job_name_text job ++ codes " held"
said_of m (Released job) = codes "OK " ++ job_name_text job ++ codes " released"
said_of m (Changed job) = codes "OK " ++ job_name_text job ++ codes " changed"
said_of m (JobEnding job) = codes "OK " ++ job_name_text job ++ codes " ending"
said_of m (JobEnded job) = codes "OK " ++ job_name_text job ++ codes " ended"
said_of m QueueHeld = queue_text m.subject (codes " held")
said_of m QueueReleased = queue_text m.subject (codes " released")
said_of m (QueueCleared count) = queue_text m.subject (codes " cleared of " ++ decimal count ++ codes " jobs")
said_of m PreStarted = prestart_text m.subject (codes " started")
said_of m PreEnding = prestart_text m.subject (codes " ending")
said_of m (Evoked job) = codes "OK " ++ job_name_text job ++ codes " has the request"
said_of m (EvokeWaits position) = codes "OK request waits as " ++ decimal position
said_of m (UseEnded job) = codes "OK " ++ job_name_text job ++ codes " use ended"
said_of m PowerDown = codes "OK power down"
said_of m (Order asked) = noted_text (Order asked)
said_of m Nothing = noted_text Nothing
said_of m Noted = noted_text Noted
said_of m (No refusal) = noted_text (No refusal)

-- what is said of a command's reply
abbrev pub said_text : Command → Reply → List ℕ
said_text c = said_of (mention_of c)

-- the number and the word of a text's fault, and its place; want of memory has no line
abbrev pub cl_text : ClFault → List ℕ
cl_text Empty = codes "CL 1 EMPTY"
cl_text BadName = codes "CL 2 BADNAME"
cl_text (OpenQuote place) = codes "CL 3 OPENQUOTE " ++ decimal place
cl_text (OpenParen place) = codes "CL 4 OPENPAREN " ++ decimal place
cl_text (StrayParen place) = codes "CL 5 STRAYPAREN " ++ decimal place
cl_text (OpenComment place) = codes "CL 6 OPENCOMMENT " ++ decimal place
cl_text TooLong = codes "CL 7 TOOLONG"
cl_text (BadByte place) = codes "CL 8 BADBYTE " ++ decimal place
cl_text (TooDeep place) = codes "CL 9 TOODEEP " ++ decimal place
cl_text cl.NoMemory = []

-- those of a command's fault, and its place or keys
abbrev pub cm_text : CmdFault → List ℕ
cm_text UnknownCommand = codes "CM 1 UNKNOWNCOMMAND"
cm_text (UnknownKeyword place) = codes "CM 2 UNKNOWNKEYWORD " ++ decimal place
cm_text (Twice place) = codes "CM 3 TWICE " ++ decimal place
cm_text (Missing key) = codes "CM 4 MISSING " ++ key_word key
cm_text (BadValue place) = codes "CM 5 BADVALUE " ++ decimal place
cm_text (TooManyValues place) = codes "CM 6 TOOMANYVALUES " ++ decimal place
cm_text (Conflict first second) = codes "CM 7 CONFLICT " ++ key_word first ++ codes " " ++ key_word second
cm_text (NotCall place) = codes "CM 8 NOTCALL " ++ decimal place
cm_text cm.NoMemory = []

-- what is answered to a line that is no command
abbrev pub fault_text : LineFault → List ℕ
fault_text (Cl fault) = cl_text fault
fault_text (Cm fault) = cm_text fault
