-- What becomes of a job whose turn has come, and what its monitor is told to start.
use Rattle.std.specs.Prelude.{ℕ, Bool, true, false, ◌-◌, ◌++◌, ◌==◌, List, [], take, drop, Option, Some, None, find, replicate, nat_eq, if◌then◌else◌, option_and_then, option_to_list}
use Rattle.std.specs.List.{starts_with}
use Rattle.wm_base.specs.declared.qname.QName.{QName}
use Rattle.wm_base.specs.declared.job.How.{How}
use Rattle.wm_base.specs.declared.job.How.TheVariants.{NotYet, FromQueue, Auto, Pre}
use Rattle.wm_base.specs.declared.job.EndCause.{EndCause}
use Rattle.wm_base.specs.declared.job.EndCause.TheVariants.{NoRoute, RouteFull, BadRequest, NoProgram}
use Rattle.wm_base.specs.declared.job.StartOrder.{StartOrder}
use Rattle.wm_base.specs.declared.job.Class.{Class}
use Rattle.wm_base.specs.Limit.{is_below}
use Rattle.wm_law.specs.declared.job.Job.{Job}
use Rattle.wm_law.specs.declared.job.Phase.TheVariants.{Starting, Ended}
use Rattle.wm_desc.specs.declared.entry.Cmp.{Cmp}
use Rattle.wm_desc.specs.declared.entry.Cmp.TheVariants.{Any, Val}
use Rattle.wm_desc.specs.declared.description.Program.{Program}
use Rattle.wm_desc.specs.declared.entry.PreEntry.{PreEntry}
use Rattle.wm_desc.specs.declared.entry.RouteEntry.{RouteEntry}
use Rattle.wm_desc.specs.declared.description.Sbsd.{Sbsd}
use Rattle.wm_law.specs.declared.state.State.{State}
use Rattle.wm_law.specs.declared.choice.Candidate.{Candidate}
use Rattle.wm_law.specs.declared.launch.Launched.{Launched}
use Rattle.wm_law.specs.Counts.{count_by_route}
use Rattle.wm_law.specs.Jobs.{with_job}
use Rattle.wm_desc.specs.Sorted.{with_key}
use Rattle.wm_desc.specs.Table.{object_named, is_qcmd, same_qname}
use Rattle.wm_clwords.specs.Called.{called_pgm, called_parms}

-- routing data, extended with blanks to 80 characters
abbrev pub extended : List ℕ → List ℕ
extended rtgdta = take 80 (rtgdta ++ replicate 80 32)

-- whether routing data, so extended, has the value from a position, counted from 1
abbrev pub has_value : List ℕ → ℕ → List ℕ → Bool
has_value value start rtgdta = starts_with nat_eq (drop (start - 1) (extended rtgdta)) value

-- whether routing data passes a comparison
abbrev pub is_match : Cmp → List ℕ → Bool
is_match Any rtgdta = true
is_match (Val value start) rtgdta = has_value value start rtgdta

-- the first routing entry, in the order of the sequence numbers, that routing data passes
abbrev pub route : Sbsd → List ℕ → Option RouteEntry
route d rtgdta = find (λ e. is_match e.cmp rtgdta) d.routes

-- the program that a request calls, where there is one and it is a CALL
abbrev pub requested : Option (List ℕ) → Option QName
requested None = None
requested (Some request) = called_pgm request

-- the values of a request that is a CALL
abbrev pub args_of : Option (List ℕ) → List (List ℕ)
args_of None = []
args_of (Some request) = called_parms request

-- the program that a routing entry's program calls: QSYS/QCMD that of the request, another program itself
abbrev pub called_program : RouteEntry → Option (List ℕ) → Option QName
called_program e request = if is_qcmd e.pgm then requested request else Some e.pgm

-- the arguments that it gets: from QSYS/QCMD the values of the request, else the request, where there is one
abbrev pub called_args : RouteEntry → Option (List ℕ) → List (List ℕ)
called_args e request = if is_qcmd e.pgm then args_of request else option_to_list request

-- why a program object can't be started: there is none
abbrev pub missing_program : Option Program → Option EndCause
missing_program None = Some NoProgram
missing_program (Some p) = None

-- why what is called can't be started
abbrev pub program_fault : State → Option QName → Option EndCause
program_fault s None = Some BadRequest
program_fault s (Some pgm) = missing_program (object_named pgm s.objects.programs)

-- why a job that the entry matches can't start in the subsystem
abbrev pub route_fault : State → QName → RouteEntry → Job → Option EndCause
route_fault s sbs e j =
    if is_below (count_by_route sbs e.seq s.jobs) e.maxact
    then program_fault s (called_program e j.rqsdta)
    else Some (RouteFull e.seq)

-- a launch that ends the job by the cause
abbrev pub ends_by : EndCause → Launched
ends_by cause = record { phase = Ended cause; how = NotYet }

-- a launch that starts the job
abbrev pub starts_as : How → Launched
starts_as how = record { phase = Starting; how = how }

-- how a job of a queue comes into the subsystem, by the number of its routing entry
abbrev pub from_queue : QName → QName → Job → ℕ → How
from_queue sbs queue j = λ seq. FromQueue sbs queue j.pty seq

-- how an autostart job comes into the subsystem, by the number of its routing entry
abbrev pub as_auto : QName → ℕ → How
as_auto sbs = λ seq. Auto sbs seq

-- a launch through the routing entry of a number: the job starts, unless there is a fault
abbrev pub starts_unless : (ℕ → How) → ℕ → Option EndCause → Launched
starts_unless how seq None = starts_as (how seq)
starts_unless how seq (Some cause) = ends_by cause

-- a launch through the routing entry that was found; where there is none the job ends
abbrev pub routed_through : State → QName → (ℕ → How) → Job → Option RouteEntry → Launched
routed_through s sbs how j None = ends_by NoRoute
routed_through s sbs how j (Some e) = starts_unless how e.seq (route_fault s sbs e j)

-- the launch of a job in a subsystem: no entry matches, the entry is full, the request is no CALL, the program is missing, or it starts
abbrev pub routed_in : State → QName → (ℕ → How) → Job → Launched
routed_in s sbs how j = routed_through s sbs how j (option_and_then (λ d. route d j.rtgdta) (object_named sbs s.objects.sbsds))

-- the launch of a job of a queue
abbrev pub routed_from_queue : State → QName → QName → Job → Launched
routed_from_queue s sbs queue j = routed_in s sbs (from_queue sbs queue j) j

-- the job as launched
abbrev pub as_launched : Launched → Job → Job
as_launched l j = record j { phase = l.phase; how = l.how }

-- the state after the launch of a job, where there is one
abbrev pub with_routed : State → Candidate → Option Job → State
with_routed s c None = s
with_routed s c (Some j) = with_job s c.serial (as_launched (routed_from_queue s c.sbs c.jobq j))

-- the state after the launch of a candidate's job
abbrev pub launch : State → Candidate → State
launch s c = with_routed s c (find (λ j. j.serial == c.serial) s.jobs)

-- the order to start a called program with a class, where both are objects, for a prestart job or another one
abbrev pub order_with : Bool → Job → List (List ℕ) → Option Program → Option Class → Option StartOrder
order_with pre j args None cls = None
order_with pre j args (Some p) None = None
order_with pre j args (Some p) (Some cls) = Some (record { serial = j.serial; job = j.job; path = p.path; args = args; cls = cls; pre = pre })

-- the order of a job whose routing entry calls a program
abbrev pub order_called : State → Job → RouteEntry → Option QName → Option StartOrder
order_called s j e None = None
order_called s j e (Some pgm) = order_with false j (called_args e j.rqsdta) (object_named pgm s.objects.programs) (object_named e.cls s.objects.classes)

-- the order of a job by its routing entry
abbrev pub order_through : State → Job → Option RouteEntry → Option StartOrder
order_through s j None = None
order_through s j (Some e) = order_called s j e (called_program e j.rqsdta)

-- a description's routing entry of that number
abbrev pub entry_numbered : ℕ → Sbsd → Option RouteEntry
entry_numbered seq d = with_key (λ e. e.seq) nat_eq seq d.routes

-- a subsystem's routing entry of that number
abbrev pub route_entry : State → QName → ℕ → Option RouteEntry
route_entry s sbs seq = option_and_then (entry_numbered seq) (object_named sbs s.objects.sbsds)

-- a description's prestart entry for the program
abbrev pub pre_entry_for : QName → Sbsd → Option PreEntry
pre_entry_for pgm d = with_key (λ e. e.pgm) same_qname pgm d.pres

-- a subsystem's prestart entry for the program
abbrev pub pre_entry : State → QName → QName → Option PreEntry
pre_entry s sbs pgm = option_and_then (pre_entry_for pgm) (object_named sbs s.objects.sbsds)

-- the order of a prestart job by its entry: the entry's program without arguments, with the entry's class
abbrev pub order_pre : State → Job → Option PreEntry → Option StartOrder
order_pre s j None = None
order_pre s j (Some e) = order_with true j [] (object_named e.pgm s.objects.programs) (object_named e.cls s.objects.classes)

-- the order of a job by how it came into its subsystem
abbrev pub order_by : State → Job → How → Option StartOrder
order_by s j NotYet = None
order_by s j (FromQueue sbs jobq pty seq) = order_through s j (route_entry s sbs seq)
order_by s j (Auto sbs seq) = order_through s j (route_entry s sbs seq)
order_by s j (Pre sbs pgm) = order_pre s j (pre_entry s sbs pgm)

-- the order of a Starting job: the program of its routing or prestart entry with the entry's class
abbrev pub order_of : State → Job → Option StartOrder
order_of s j = order_by s j j.how
