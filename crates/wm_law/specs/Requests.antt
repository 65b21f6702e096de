-- What becomes of the requests that wait for a prestart entry: they are given out in the order of their arrival, each once, or dropped by the call that ends their entry or their subsystem; none is lost.
use Rattle.std.specs.Prelude.{◌≡◌, ◌⊎◌, ◌+◌, ◌&&◌, ℕ, ℤ, Bool, false, List, [], ◌∷◌, ◌++◌, length, count_by, ⊤}
use Rattle.wm_base.specs.declared.qname.QName.{QName}
use Rattle.wm_law.specs.declared.call.Call.{Call}
use Rattle.wm_law.specs.declared.call.Call.TheVariants.{Change}
use Rattle.wm_law.specs.declared.call.Entry.{Entry}
use Rattle.wm_law.specs.declared.call.Reply.{Reply}
use Rattle.wm_law.specs.declared.call.Reply.TheVariants.{EvokeWaits}
use Rattle.wm_law.specs.declared.command.Command.TheVariants as command
use Rattle.wm_law.specs.declared.command.Endpj.{Endpj}
use Rattle.wm_law.specs.declared.command.Endsbs.{Endsbs}
use Rattle.wm_law.specs.declared.command.EvokeCommand.{EvokeCommand}
use Rattle.wm_law.specs.declared.command.Pwrdwnsys.{Pwrdwnsys}
use Rattle.wm_law.specs.declared.job.Job.{Job}
use Rattle.wm_law.specs.declared.state.Evoke.{Evoke}
use Rattle.wm_law.specs.declared.state.Sbs.{Sbs}
use Rattle.wm_law.specs.declared.state.State.{State}
use Rattle.wm_law.specs.Counts.{is_from_pre}
use Rattle.wm_law.specs.History.{after, stepped}
use Rattle.wm_law.specs.Kept.{HasDistinctNames, IsNumbered}
use Rattle.wm_law.specs.Laws.{IsIn}
use Rattle.wm_law.specs.Machine.{apply, step, with_clock}
use Rattle.wm_law.specs.Opening.{opening}
use Rattle.wm_law.specs.Prestart.{evokes_of, is_running}
use Rattle.wm_law.specs.Settling.{is_ending, settle}

-- a job of the entry that runs with a request
abbrev pub is_used_in : QName → QName → Job → Bool
is_used_in sbs pgm j = is_from_pre sbs pgm j.how && is_running j.phase && j.evoke

-- how many jobs of the entry run with a request
abbrev pub count_used : QName → QName → List Job → ℕ
count_used sbs pgm jobs = count_by (is_used_in sbs pgm) jobs

-- the first requests for the entry are given out, and the others wait in their order: for each that is gone one job more runs with a request
pub record GivesOut (sbs pgm : QName) (s t : State) : Type 0 where
  pub given : List Evoke
  pub front : evokes_of sbs pgm s.evokes ≡ given ++ evokes_of sbs pgm t.evokes
  pub used : count_used sbs pgm t.jobs ≡ count_used sbs pgm s.jobs + length given

-- no request waits for an entry of an ending subsystem
abbrev pub NoneWaitsAtEnd : State → Type 0
NoneWaitsAtEnd s = (e : Evoke) (b : Sbs) → IsIn e s.evokes → IsIn b s.started → b.sbsd ≡ e.sbs → is_ending b.phase ≡ false

-- the call is EVOKE of an entry, and the request is its own
pub record IsEvokeFor (sbs pgm : QName) (call : Call) (request : Evoke) : Type 0 where
  pub user : List ℕ
  pub evoke : EvokeCommand
  pub is_call : call ≡ Change user (command.Evoke evoke)
  pub names_subsystem : evoke.sbs ≡ sbs.name
  pub names_program : evoke.pgm ≡ pgm
  pub is_request : request ≡ record { user = user; sbs = sbs; pgm = pgm }

-- the call is ENDPJ of an entry, ENDSBS of its subsystem, or PWRDWNSYS
pub data Drops (sbs pgm : QName) (call : Call) : Type 0 where
  ends_entry : (user : List ℕ) (c : Endpj) → call ≡ Change user (command.Endpj c) → c.sbs ≡ sbs.name → c.pgm ≡ pgm → Drops sbs pgm call
  ends_subsystem : (user : List ℕ) (c : Endsbs) → call ≡ Change user (command.Endsbs c) → c.sbs ≡ sbs.name → Drops sbs pgm call
  powers_down : (user : List ℕ) (c : Pwrdwnsys) → call ≡ Change user (command.Pwrdwnsys c) → Drops sbs pgm call

-- what a call does to the requests that wait for an entry: they stay, one more goes last by EVOKE of the entry, which is answered so, or all go by a call that drops them
pub data IsAfterCall (sbs pgm : QName) (call : Call) (reply : Reply) (before after : List Evoke) : Type 0 where
  stay : after ≡ before → IsAfterCall sbs pgm call reply before after
  arrives : (place : ℕ) (request : Evoke) → reply ≡ EvokeWaits place → IsEvokeFor sbs pgm call request → after ≡ before ++ request ∷ [] → IsAfterCall sbs pgm call reply before after
  dropped : Drops sbs pgm call → after ≡ [] → IsAfterCall sbs pgm call reply before after

-- the state after a call, before it settles
abbrev pub called : State → ℕ → Call → ℕ → State
called s caller call moment = (apply (with_clock s moment) caller call).state

-- what a step does to the requests that wait for an entry: what its call does, and then settling gives out the first ones
pub record IsRequestStep (sbs pgm : QName) (s : State) (caller : ℕ) (call : Call) (moment : ℕ) : Type 0 where
  pub by_call : IsAfterCall sbs pgm call (step s caller call moment).reply (evokes_of sbs pgm s.evokes) (evokes_of sbs pgm (called s caller call moment).evokes)
  pub by_settling : GivesOut sbs pgm (called s caller call moment) (step s caller call moment).state

-- so at each entry of a history
abbrev pub KeepsRequests : QName → QName → State → List Entry → Type 0
KeepsRequests sbs pgm s [] = ⊤
KeepsRequests sbs pgm s (e ∷ es) = IsRequestStep sbs pgm s e.caller e.call e.moment × KeepsRequests sbs pgm (stepped s e).state es

-- a call drops requests of an entry only where it is ENDPJ of it, ENDSBS of its subsystem or PWRDWNSYS, and it adds one only where it is EVOKE of it
abbrev pub CallsKeepRequests : Type 0
CallsKeepRequests = (s : State) (caller : ℕ) (call : Call) (sbs pgm : QName) → IsAfterCall sbs pgm call (apply s caller call).reply (evokes_of sbs pgm s.evokes) (evokes_of sbs pgm (apply s caller call).state.evokes)

-- the call is EVOKE of an entry, and its request goes last among those that wait for it, to the place that is told
pub record IsLast (s t : State) (call : Call) (place : ℕ) : Type 0 where
  pub sbs : QName
  pub pgm : QName
  pub request : Evoke
  pub own : IsEvokeFor sbs pgm call request
  pub last : evokes_of sbs pgm t.evokes ≡ evokes_of sbs pgm s.evokes ++ request ∷ []
  pub told : place ≡ length (evokes_of sbs pgm s.evokes) + 1

-- a request that is answered with a place waits there
abbrev pub AnsweredRequestsWait : Type 0
AnsweredRequestsWait = (s : State) (caller : ℕ) (call : Call) (place : ℕ) → (apply s caller call).reply ≡ EvokeWaits place → IsLast s (apply s caller call).state call place

-- settling gives out the first requests of each entry, in a numbered state in which none waits at an ending subsystem
abbrev pub SettlingGivesOut : Type 0
SettlingGivesOut = (s : State) (sbs pgm : QName) → IsNumbered s → NoneWaitsAtEnd s → GivesOut sbs pgm s (settle s)

-- no request waits in the opening state
abbrev pub OpeningHasNoneWaiting : Type 0
OpeningHasNoneWaiting = (offset : ℤ) → NoneWaitsAtEnd (opening offset)

-- no step lets a request wait at an ending subsystem
abbrev pub StepKeepsNoneWaiting : Type 0
StepKeepsNoneWaiting = (s : State) (caller : ℕ) (call : Call) (moment : ℕ) → HasDistinctNames s → NoneWaitsAtEnd s → NoneWaitsAtEnd (step s caller call moment).state

-- every step loses no request and gives none out twice
abbrev pub StepKeepsRequests : Type 0
StepKeepsRequests = (s : State) (caller : ℕ) (call : Call) (moment : ℕ) (sbs pgm : QName) → IsNumbered s → HasDistinctNames s → NoneWaitsAtEnd s → IsRequestStep sbs pgm s caller call moment

-- nor does any history
abbrev pub RequestsAreKept : Type 0
RequestsAreKept = (s : State) (h : List Entry) (sbs pgm : QName) → IsNumbered s → HasDistinctNames s → NoneWaitsAtEnd s → KeepsRequests sbs pgm s h

-- requests for an entry that came to wait by calls of a history from a state, in their order: each call leaves those that wait, or adds the next one
abbrev pub Came : QName → QName → State → List Entry → List Evoke → Type 0
Came sbs pgm s [] requests = requests ≡ []
Came sbs pgm s (e ∷ es) requests =
    ((evokes_of sbs pgm (called s e.caller e.call e.moment).evokes ≡ evokes_of sbs pgm s.evokes) × Came sbs pgm (stepped s e).state es requests)
    ⊎ ((place : ℕ) × (request : Evoke) × (rest : List Evoke) × ((stepped s e).reply ≡ EvokeWaits place) × IsEvokeFor sbs pgm e.call request × Came sbs pgm (stepped s e).state es rest × (requests ≡ request ∷ rest))

-- no call of a history drops requests of an entry
abbrev pub DropsNone : QName → QName → List Entry → Type 0
DropsNone sbs pgm [] = ⊤
DropsNone sbs pgm (e ∷ es) = (Drops sbs pgm e.call → ⊥) × DropsNone sbs pgm es

-- over a history the requests that waited for an entry and behind them those that came are those that were given out and behind them those that wait
pub record IsQueue (sbs pgm : QName) (s : State) (h : List Entry) : Type 0 where
  pub came : List Evoke
  pub given : List Evoke
  pub arrival : Came sbs pgm s h came
  pub order : evokes_of sbs pgm s.evokes ++ came ≡ given ++ evokes_of sbs pgm (after s h).evokes

-- as long as no call drops them, requests are given out in the order of their arrival, each once, whatever else is called
abbrev pub RequestsAreQueue : Type 0
RequestsAreQueue = (s : State) (h : List Entry) (sbs pgm : QName) → IsNumbered s → HasDistinctNames s → NoneWaitsAtEnd s → DropsNone sbs pgm h → IsQueue sbs pgm s h
