-- Histories of the machine.
use Rattle.std.specs.Prelude.{◌≡◌, ℕ, ◌<◌, ◌≤◌, ◌^◌, Bool, true, false, ◌==◌, ◌&&◌, List, [], ◌∷◌, Option, Some, None, filter, if◌then◌else◌, ⊤}
use Rattle.std.specs.List.{filter_map}
use Rattle.wm_base.specs.declared.job.Asked.{Asked}
use Rattle.wm_law.specs.declared.call.Call.{Call}
use Rattle.wm_law.specs.declared.call.Call.TheVariants.{Change, Hand, Started, StartFailed, Finished, UseDone, Tick}
use Rattle.wm_law.specs.declared.call.Entry.{Entry}
use Rattle.wm_law.specs.declared.call.Reply.{Reply}
use Rattle.wm_law.specs.declared.call.Reply.TheVariants.{Made, SbsStarted, SbsEnding, Submitted, Held, Released, Changed, JobEnding, JobEnded, QueueHeld, QueueReleased, QueueCleared, PreStarted, PreEnding, Evoked, EvokeWaits, UseEnded, PowerDown, Order, Nothing, Noted, No}
use Rattle.wm_law.specs.declared.state.State.{State}
use Rattle.wm_law.specs.Fit.{IsCall}
use Rattle.wm_law.specs.Machine.{step}
use Rattle.wm_law.specs.Stepped.{Stepped}

-- what the machine does at an entry
abbrev pub stepped : State → Entry → Stepped
stepped s e = step s e.caller e.call e.moment

-- the state that the calls of a history reach
abbrev pub after : State → List Entry → State
after s [] = s
after s (e ∷ es) = after (stepped s e).state es

-- an entry that the machine can have made in a state: its values keep their ranges, and its reply is the machine's
pub record IsEntry (s : State) (e : Entry) : Type 0 where
  pub caller : e.caller < 2 ^ 32
  pub call : IsCall e.call
  pub moment : e.moment ≤ 253402214399
  pub reply : e.reply ≡ (stepped s e).reply

-- each entry is one of the machine, from the state that the entries before it reach
abbrev pub IsLegal : State → List Entry → Type 0
IsLegal s [] = ⊤
IsLegal s (e ∷ es) = IsEntry s e × IsLegal (stepped s e).state es

-- the entries of a caller
abbrev pub entries_of : ℕ → List Entry → List Entry
entries_of caller log = filter (λ e. e.caller == caller) log

-- whether monitors alone make the call
abbrev pub is_monitor_call : Call → Bool
is_monitor_call (Change user c) = false
is_monitor_call Hand = true
is_monitor_call (Started serial) = true
is_monitor_call (StartFailed serial why) = true
is_monitor_call (Finished serial end) = true
is_monitor_call (UseDone serial) = true
is_monitor_call Tick = true

-- what a reply orders
abbrev pub order_in : Reply → Option Asked
order_in Made = None
order_in (SbsStarted sbs) = None
order_in (SbsEnding sbs) = None
order_in (Submitted job jobq) = None
order_in (Held job) = None
order_in (Released job) = None
order_in (Changed job) = None
order_in (JobEnding job) = None
order_in (JobEnded job) = None
order_in QueueHeld = None
order_in QueueReleased = None
order_in (QueueCleared count) = None
order_in PreStarted = None
order_in PreEnding = None
order_in (Evoked job) = None
order_in (EvokeWaits place) = None
order_in (UseEnded job) = None
order_in PowerDown = None
order_in (Order asked) = Some asked
order_in Nothing = None
order_in Noted = None
order_in (No refusal) = None

-- whether a call of a monitor is a report: it is any but Hand and Tick
abbrev pub is_report : Call → Bool
is_report (Change user c) = true
is_report Hand = false
is_report (Started serial) = true
is_report (StartFailed serial why) = true
is_report (Finished serial end) = true
is_report (UseDone serial) = true
is_report Tick = false

-- whether the call is Hand
abbrev pub is_hand : Call → Bool
is_hand (Change user c) = false
is_hand Hand = true
is_hand (Started serial) = false
is_hand (StartFailed serial why) = false
is_hand (Finished serial end) = false
is_hand (UseDone serial) = false
is_hand Tick = false

-- what an entry of a caller ordered: the answer of a Hand
abbrev pub ordered : ℕ → Entry → Option Asked
ordered caller e = if e.caller == caller && is_hand e.call then order_in e.reply else None

-- what the Hand entries of a caller answered as orders
abbrev pub orders : List Entry → ℕ → List Asked
orders log caller = filter_map (ordered caller) log

-- what an entry of a caller reported
abbrev pub reported_in : ℕ → Entry → Option Call
reported_in caller e = if e.caller == caller && is_report e.call then Some e.call else None

-- what a caller reported, in order
abbrev pub reports : List Entry → ℕ → List Call
reports log caller = filter_map (reported_in caller) log
