-- Which order Hand gives: the kill of least serial that its caller is yet to be handed, else the start of least serial.
use Rattle.std.specs.Prelude.{◌≡◌, ℕ, ◌≤◌, false, List}
use Rattle.wm_base.specs.declared.job.Asked.TheVariants.{Start, Kill}
use Rattle.wm_base.specs.declared.job.StartOrder.{StartOrder}
use Rattle.wm_law.specs.declared.call.Call.TheVariants.{Hand}
use Rattle.wm_law.specs.declared.call.Reply.TheVariants.{Order}
use Rattle.wm_law.specs.declared.job.Job.{Job}
use Rattle.wm_law.specs.declared.job.Phase.TheVariants.{Running, Starting}
use Rattle.wm_law.specs.declared.job.Why.{Why}
use Rattle.wm_law.specs.declared.job.Wish.TheVariants.{Now}
use Rattle.wm_law.specs.declared.state.State.{State}
use Rattle.wm_law.specs.Laws.{IsIn}
use Rattle.wm_law.specs.Machine.{apply}
use Rattle.wm_law.specs.Sound.{HasJobsInOrder}

-- the monitor runs the job, and is yet to be handed its kill
abbrev pub IsToBeKilled : ℕ → Job → Type 0
IsToBeKilled monitor j = (j.phase ≡ Running monitor) × ((why : Why) × (j.wish ≡ Now why false))

-- the serial is that of a job that has a property, and of none that has it is a lesser one
pub record IsLeastSerial (Has : Job → Type 0) (jobs : List Job) (serial : ℕ) : Type 0 where
  pub job : Job
  pub stands : IsIn job jobs
  pub has : Has job
  pub its : job.serial ≡ serial
  pub least : (k : Job) → IsIn k jobs → Has k → serial ≤ k.serial

-- a kill that Hand orders is of a job that its caller runs, the one of least serial whose kill is yet to be handed
abbrev pub HandedKillIsLeast : Type 0
HandedKillIsLeast = (s : State) (caller serial : ℕ) → HasJobsInOrder s → (apply s caller Hand).reply ≡ Order (Kill serial) → IsLeastSerial (IsToBeKilled caller) s.jobs serial

-- where a Hand orders a start, no kill is yet to be handed to its caller, and the start is that of least serial
abbrev pub HandedStartIsLeast : Type 0
HandedStartIsLeast =
    (s : State) (caller : ℕ) (o : StartOrder)
    → HasJobsInOrder s
    → (apply s caller Hand).reply ≡ Order (Start o)
    → ((k : Job) → IsIn k s.jobs → IsToBeKilled caller k → ⊥) × IsLeastSerial (λ j. j.phase ≡ Starting) s.jobs o.serial
