-- What makes a stored job good by itself, and beside the others; and which rows make nothing.
use Rattle.std.specs.Prelude.{◌≡◌, false}
use Rattle.wm_desc.specs.declared.objects.Objects.{Objects}
use Rattle.wm_law.specs.declared.job.JobKind.TheVariants.{Bch}
use Rattle.wm_rows.specs.declared.stored_job.StoredJob.{StoredJob}
use Rattle.wm_rows.specs.declared.stored_job.StoredPhase.TheVariants.{Waiting}
use Rattle.wm_law.specs.declared.state.State.{State}
use Rattle.wm_traits.specs.declared.row.Row.{Row}
use Rattle.wm_tables.specs.Restart.{HasLengths, IsOfKind, Takes, is_used, is_taken}

-- it has its lengths and the values of its kind, and waits only where it was submitted
pub record IsPlausible (objects : Objects) (j : StoredJob) : Type 0 where
  pub lengths : HasLengths j
  pub kind : IsOfKind objects j.kind j
  pub waits : j.phase ≡ Waiting → j.kind ≡ Bch

-- no job has its number, and none waits at its place where it waits
pub record IsApart (s : State) (j : StoredJob) : Type 0 where
  pub number : is_used j.number s.jobs ≡ false
  pub place : j.phase ≡ Waiting → is_taken j.place s.jobs ≡ false

-- the row makes no state of this one
abbrev pub TakesNone : State → Row → Type 0
TakesNone s row = (t : State) → Takes s row t → ⊥
