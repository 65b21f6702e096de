-- STRSBS: a subsystem is started, and with it its autostart jobs and its first prestart jobs.
use Rattle.std.specs.Prelude.{ℕ, Bool, not, [], ◌∷◌, ◌++◌, List, length, fold, Option, Some, None, nat_eq, nat_le, nat_lt, if◌then◌else◌, is_some}
use Rattle.std.specs.List.{list_any}
use Rattle.std.specs.Cmp.Lexicographic.{pointwise}
use Rattle.wm_base.specs.declared.qname.QName.{QName}
use Rattle.wm_base.specs.declared.refusal.Refusal.{Refusal}
use Rattle.wm_base.specs.declared.refusal.Refusal.TheVariants.{NoObject, AlreadyActive, TableFull, NumbersUsed, PoweringDown}
use Rattle.wm_base.specs.declared.refusal.Kind.TheVariants as kind
use Rattle.wm_law.specs.declared.call.Reply.TheVariants.{SbsStarted}
use Rattle.wm_law.specs.declared.state.State.{State}
use Rattle.wm_law.specs.declared.state.SbsPhase.TheVariants.{Active}
use Rattle.wm_law.specs.Stepped.{Stepped, refused}
use Rattle.wm_desc.specs.Table.{object_named}
use Rattle.wm_law.specs.Autos.{autos_of, make_auto}
use Rattle.wm_law.specs.Power.{is_on}
use Rattle.wm_law.specs.Submitting.{numbers_left}
use Rattle.wm_law.specs.Supply.{first_stops, make_firsts}

-- how many subsystems may be started
abbrev pub max_started : ℕ
max_started = 32

-- a started subsystem has the simple name
abbrev pub is_started : State → List ℕ → Bool
is_started s name = list_any (λ b. pointwise nat_eq b.sbsd.name name) s.started

-- why a subsystem can't be started
abbrev pub start_refusal : State → QName → Option Refusal
start_refusal s q =
    if not (is_on s.power) then Some PoweringDown
    else if not (is_some (object_named q s.objects.sbsds)) then Some (NoObject kind.Sbsd)
    else if is_started s q.name then Some AlreadyActive
    else if nat_le max_started (length s.started) then Some (TableFull kind.Sbs max_started)
    else if nat_lt (numbers_left s) (length (autos_of s q)) then Some NumbersUsed
    else None

-- the subsystem goes last among the started ones, Active, and its entries with STRJOBS(*NO) are stopped
abbrev pub begun : State → QName → State
begun s q = record s { started = s.started ++ record { sbsd = q; phase = Active } ∷ []; stopped = s.stopped ++ first_stops s q }

-- the state in which the subsystem is started, and the jobs of its autostart entries are made and launched
abbrev pub with_autos : State → QName → State
with_autos s q = fold (make_auto q) (begun s q) (autos_of s q)

-- the state in which its first prestart jobs are made, too
abbrev pub started_up : State → QName → State
started_up s q = make_firsts q (with_autos s q)

-- STRSBS, unless it is refused
abbrev pub start_unless : State → QName → Option Refusal → Stepped
start_unless s q (Some x) = refused s x
start_unless s q None = record { reply = SbsStarted q; state = started_up s q }

-- the subsystem starts with its autostart jobs and its first prestart jobs
abbrev pub start_subsystem : State → QName → Stepped
start_subsystem s q = start_unless s q (start_refusal s q)
