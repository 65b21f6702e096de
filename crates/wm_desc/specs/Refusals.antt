-- Why adding or removing is refused: the tests of each call in their order, of which the first that holds answers.
use Rattle.std.specs.Prelude.{◌≡◌, ℕ, Bool, true, false, not, nat_eq, nat_lt, nat_le, ◌&&◌, ◌||◌, List, [], ◌∷◌, ◌++◌, length, find, Option, Some, None, option_map, Result, Ok, Err, IsOkUnless}
use Rattle.std.specs.List.{list_any}
use Rattle.std.specs.Option.{option_map_or}
use Rattle.std.specs.Cmp.Lexicographic.{pointwise}
use Rattle.wm_base.specs.Limit.{is_below}
use Rattle.wm_base.specs.declared.limit.Limit.{Limit}
use Rattle.wm_base.specs.declared.limit.Limit.TheVariants.{NoMax, Most}
use Rattle.wm_base.specs.declared.qname.QName.{QName}
use Rattle.wm_base.specs.declared.refusal.Kind.{Kind}
use Rattle.wm_base.specs.declared.refusal.Kind.TheVariants as kind
use Rattle.wm_base.specs.declared.refusal.Key.TheVariants.{Threshold, Inljobs, Adljobs, Maxjobs}
use Rattle.wm_base.specs.declared.refusal.Refusal.{Refusal}
use Rattle.wm_base.specs.declared.refusal.Refusal.TheVariants.{Exists, NoObject, SeqUsed, AnyNotLast, TableFull, BadRelation}
use Rattle.wm_desc.specs.declared.description.Sbsd.{Sbsd}
use Rattle.wm_desc.specs.declared.entry.AutoEntry.{AutoEntry}
use Rattle.wm_desc.specs.declared.entry.Cmp.{Cmp}
use Rattle.wm_desc.specs.declared.entry.Cmp.TheVariants.{Any, Val}
use Rattle.wm_desc.specs.declared.entry.PreEntry.{PreEntry}
use Rattle.wm_desc.specs.declared.entry.QueueEntry.{QueueEntry}
use Rattle.wm_desc.specs.declared.entry.RouteEntry.{RouteEntry}
use Rattle.wm_desc.specs.declared.fault.DescFault.{DescFault}
use Rattle.wm_desc.specs.declared.fault.DescFault.TheVariants.{No, NoMemory}
use Rattle.wm_desc.specs.declared.objects.Objects.{Objects}
use Rattle.wm_desc.specs.Sorted.{has_key}
use Rattle.wm_desc.specs.Table.{same_qname, is_qcmd, has_object, object_named}

-- the refusal of the first test that holds, if one does
abbrev pub first_refusal : List (Bool × Refusal) → Option Refusal
first_refusal tests = option_map (λ test. test.1) (find (λ test. test.0) tests)

-- what a call answers: the refusal, if there is one; else Ok, or want of memory
abbrev pub IsAnswer : Option Refusal → Result (Unit {0}) DescFault → Type 0
IsAnswer (Some refusal) answer = answer ≡ Err (No refusal)
IsAnswer None answer = IsOkUnless answer NoMemory

-- what a call that takes no memory answers
abbrev pub answer_of : Option Refusal → Result (Unit {0}) Refusal
answer_of (Some refusal) = Err refusal
answer_of None = Ok tt

-- whether a list has its limit
abbrev pub is_full : {E : Type 0} → ℕ → List E → Bool
is_full most xs = nat_le most (length xs)

-- the name is used, or there are 1,000 objects of the kind
abbrev pub object_refusal : {V : Type 0} → Kind → QName → List (QName × V) → Option Refusal
object_refusal kind name objects = first_refusal ((has_object name objects, Exists kind) ∷ (is_full 1000 objects, TableFull kind 1000) ∷ [])

-- the same, where QSYS/QCMD counts as used
abbrev pub program_refusal : {V : Type 0} → QName → List (QName × V) → Option Refusal
program_refusal name programs = first_refusal ((is_qcmd name || has_object name programs, Exists kind.Pgm) ∷ (is_full 1000 programs, TableFull kind.Pgm 1000) ∷ [])

-- the refusal by a description's entries, or that there is no such description
abbrev pub by_description : Objects → QName → (Sbsd → Option Refusal) → Option Refusal
by_description objects sbsd refusal = option_map_or refusal (object_named sbsd objects.sbsds) (Some (NoObject kind.Sbsd))

abbrev pub seq_used : {E : Type 0} → (E → ℕ) → ℕ → List E → Bool
seq_used seq n entries = has_key seq nat_eq n entries

-- whether a description has an entry for a queue
abbrev pub has_queue : QName → List QueueEntry → Bool
has_queue jobq queues = list_any (λ entry. same_qname entry.jobq jobq) queues

-- ADDJOBQE
abbrev pub queue_tests : Objects → QueueEntry → Sbsd → List (Bool × Refusal)
queue_tests objects entry description =
    (not (has_object entry.jobq objects.jobqs), NoObject kind.Jobq)
    ∷ (has_queue entry.jobq description.queues, Exists kind.Jobqe)
    ∷ (seq_used (λ e. e.seq) entry.seq description.queues, SeqUsed)
    ∷ (is_full 100 description.queues, TableFull kind.Jobqe 100)
    ∷ []

abbrev pub queue_refusal : Objects → QName → QueueEntry → Option Refusal
queue_refusal objects sbsd entry = by_description objects sbsd (λ description. first_refusal (queue_tests objects entry description))

abbrev pub is_any : Cmp → Bool
is_any Any = true
is_any (Val value start) = false

-- whether an entry is *ANY and has a lesser number than another
abbrev pub is_any_before : RouteEntry → RouteEntry → Bool
is_any_before entry other = is_any entry.cmp && nat_lt entry.seq other.seq

-- whether *ANY wouldn't have the greatest number, with the entry among the others
abbrev pub any_not_last : RouteEntry → List RouteEntry → Bool
any_not_last entry routes = list_any (λ other. is_any_before entry other || is_any_before other entry) routes

-- ADDRTGE
abbrev pub route_tests : Objects → RouteEntry → Sbsd → List (Bool × Refusal)
route_tests objects entry description =
    (not (is_qcmd entry.pgm || has_object entry.pgm objects.programs), NoObject kind.Pgm)
    ∷ (not (has_object entry.cls objects.classes), NoObject kind.Cls)
    ∷ (seq_used (λ e. e.seq) entry.seq description.routes, SeqUsed)
    ∷ (any_not_last entry description.routes, AnyNotLast)
    ∷ (is_full 999 description.routes, TableFull kind.Rtge 999)
    ∷ []

abbrev pub route_refusal : Objects → QName → RouteEntry → Option Refusal
route_refusal objects sbsd entry = by_description objects sbsd (λ description. first_refusal (route_tests objects entry description))

-- whether a description has an autostart entry with a job name
abbrev pub has_auto : List ℕ → List AutoEntry → Bool
has_auto job autos = has_key (λ e. e.job) (pointwise nat_eq) job autos

-- ADDAJE
abbrev pub auto_tests : Objects → AutoEntry → Sbsd → List (Bool × Refusal)
auto_tests objects entry description =
    (not (has_object entry.jobd objects.jobds), NoObject kind.Jobd)
    ∷ (has_auto entry.job description.autos, Exists kind.Aje)
    ∷ (is_full 100 description.autos, TableFull kind.Aje 100)
    ∷ []

abbrev pub auto_refusal : Objects → QName → AutoEntry → Option Refusal
auto_refusal objects sbsd entry = by_description objects sbsd (λ description. first_refusal (auto_tests objects entry description))

-- whether a number is above a limit
abbrev pub is_above : ℕ → Limit → Bool
is_above n NoMax = false
is_above n (Most most) = nat_lt most n

-- whether a description has a prestart entry for a program
abbrev pub has_pre : QName → List PreEntry → Bool
has_pre pgm pres = has_key (λ e. e.pgm) same_qname pgm pres

-- which two values of a prestart entry don't go together: THRESHOLD above INLJOBS, INLJOBS above MAXJOBS, ADLJOBS not below MAXJOBS
abbrev pub relation_tests : PreEntry → List (Bool × Refusal)
relation_tests entry =
    (nat_lt entry.inljobs entry.threshold, BadRelation Threshold Inljobs)
    ∷ (is_above entry.inljobs entry.maxjobs, BadRelation Inljobs Maxjobs)
    ∷ (not (is_below entry.adljobs entry.maxjobs), BadRelation Adljobs Maxjobs)
    ∷ []

-- ADDPJE
abbrev pub pre_tests : Objects → PreEntry → Sbsd → List (Bool × Refusal)
pre_tests objects entry description =
    (not (has_object entry.pgm objects.programs), NoObject kind.Pgm)
    ∷ (not (has_object entry.cls objects.classes), NoObject kind.Cls)
    ∷ (has_pre entry.pgm description.pres, Exists kind.Pje)
    ∷ (relation_tests entry ++ (is_full 100 description.pres, TableFull kind.Pje 100) ∷ [])

abbrev pub pre_refusal : Objects → QName → PreEntry → Option Refusal
pre_refusal objects sbsd entry = by_description objects sbsd (λ description. first_refusal (pre_tests objects entry description))

-- RMVJOBQE
abbrev pub remove_queue_refusal : Objects → QName → QName → Option Refusal
remove_queue_refusal objects sbsd jobq = by_description objects sbsd (λ description. first_refusal ((not (has_queue jobq description.queues), NoObject kind.Jobqe) ∷ []))

-- RMVRTGE
abbrev pub remove_route_refusal : Objects → QName → ℕ → Option Refusal
remove_route_refusal objects sbsd seq = by_description objects sbsd (λ description. first_refusal ((not (seq_used (λ e. e.seq) seq description.routes), NoObject kind.Rtge) ∷ []))

-- RMVAJE
abbrev pub remove_auto_refusal : Objects → QName → List ℕ → Option Refusal
remove_auto_refusal objects sbsd job = by_description objects sbsd (λ description. first_refusal ((not (has_auto job description.autos), NoObject kind.Aje) ∷ []))

-- RMVPJE
abbrev pub remove_pre_refusal : Objects → QName → QName → Option Refusal
remove_pre_refusal objects sbsd pgm = by_description objects sbsd (λ description. first_refusal ((not (has_pre pgm description.pres), NoObject kind.Pje) ∷ []))
