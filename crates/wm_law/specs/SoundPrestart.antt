-- What holds of prestart jobs in each state that a history reaches.
use Rattle.std.specs.Prelude.{◌≡◌, ◌≤◌, ℕ, ℤ, Bool, true, false, List}
use Rattle.wm_base.specs.declared.job.How.TheVariants.{Pre}
use Rattle.wm_base.specs.declared.qname.QName.{QName}
use Rattle.wm_law.specs.declared.call.Call.{Call}
use Rattle.wm_law.specs.declared.call.Entry.{Entry}
use Rattle.wm_law.specs.declared.job.Job.{Job}
use Rattle.wm_law.specs.declared.job.JobKind.TheVariants.{Pj}
use Rattle.wm_law.specs.declared.job.Phase.{Phase}
use Rattle.wm_law.specs.declared.job.Phase.TheVariants.{Waiting, Starting, Handed, Running, Ended}
use Rattle.wm_law.specs.declared.state.Evoke.{Evoke}
use Rattle.wm_law.specs.declared.state.State.{State}
use Rattle.wm_law.specs.declared.state.Stop.{Stop}
use Rattle.wm_law.specs.History.{after}
use Rattle.wm_law.specs.Laws.{IsIn}
use Rattle.wm_law.specs.Machine.{step}
use Rattle.wm_law.specs.Named.{is_ended}
use Rattle.wm_law.specs.Opening.{opening}
use Rattle.wm_law.specs.Prestart.{HavePresInOrder, count_evokes, is_running}
use Rattle.wm_law.specs.Sound.{CameByEntry, IsSound}
use Rattle.wm_law.specs.Uses.{max_evokes}

-- whether a job of the phase is yet to run
abbrev pub is_yet_to_run : Phase → Bool
is_yet_to_run Waiting = true
is_yet_to_run Starting = true
is_yet_to_run (Handed m) = true
is_yet_to_run (Running m) = false
is_yet_to_run (Ended c) = false

-- of the jobs that haven't ended only Running prestart jobs have a request
abbrev pub OnlyRunningHaveRequests : State → Type 0
OnlyRunningHaveRequests s = (j : Job) → IsIn j s.jobs → is_ended j.phase ≡ false → j.evoke ≡ true → (is_running j.phase ≡ true) × (j.kind ≡ Pj)

-- a job that is yet to run has no uses
abbrev pub OnlyRunHaveUses : State → Type 0
OnlyRunHaveUses s = (j : Job) → IsIn j s.jobs → is_yet_to_run j.phase ≡ true → j.uses ≡ 0

-- each stopped entry is one of a started subsystem's description
abbrev pub HasNamedStops : State → Type 0
HasNamedStops s = (e : Stop) → IsIn e s.stopped → CameByEntry s.started s.objects (Pre e.sbs e.pgm)

-- each request that waits is for an entry of a started subsystem's description
abbrev pub HasNamedRequests : State → Type 0
HasNamedRequests s = (e : Evoke) → IsIn e s.evokes → CameByEntry s.started s.objects (Pre e.sbs e.pgm)

-- no more requests wait for one entry than may
abbrev pub HasFewRequests : State → Type 0
HasFewRequests s = (sbs pgm : QName) → count_evokes sbs pgm s.evokes ≤ max_evokes

-- what holds of prestart jobs: those that came by prestart entries stand in the order of their numbers, and of requests, uses and stopped entries what is told above
pub record IsPrestartSound (s : State) : Type 0 where
  pub order : HavePresInOrder s.jobs
  pub requests : OnlyRunningHaveRequests s
  pub uses : OnlyRunHaveUses s
  pub stops_named : HasNamedStops s
  pub requests_named : HasNamedRequests s
  pub requests_few : HasFewRequests s

-- it holds of the opening state
abbrev pub OpeningIsPrestartSound : Type 0
OpeningIsPrestartSound = (offset : ℤ) → IsPrestartSound (opening offset)

-- every step from a sound state keeps it
abbrev pub StepKeepsPrestartSound : Type 0
StepKeepsPrestartSound = (s : State) (caller : ℕ) (call : Call) (moment : ℕ) → IsSound s → IsPrestartSound s → IsPrestartSound (step s caller call moment).state

-- whatever is called from a sound state, it holds
abbrev pub StatesArePrestartSound : Type 0
StatesArePrestartSound = (s : State) (h : List Entry) → IsSound s → IsPrestartSound s → IsPrestartSound (after s h)
