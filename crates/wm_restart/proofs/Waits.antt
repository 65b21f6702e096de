-- Whether a stored job waits.
use Rattle.std.proofs.Common.{◌≡◌, ◌↔◌, Bool, true, false, IsTrue, refl}
use Rattle.wm_law.specs.Counts.{is_waiting}
use Rattle.wm_rows.specs.declared.stored_job.StoredPhase.{StoredPhase}
use Rattle.wm_rows.specs.declared.stored_job.StoredPhase.TheVariants.{Waiting, Active, Ended}
use Rattle.wm_tables.specs.Restart.{phase_of}

pub waits_as : (phase : StoredPhase) (waits : Bool) → (IsTrue waits ↔ (phase ≡ Waiting)) → waits ≡ is_waiting (phase_of phase)
waits_as Waiting true h = refl
waits_as Waiting false h = let w : IsTrue false = h.1 refl in absurd (cc)
waits_as Active true h = let w = h.0 refl in absurd (cc)
waits_as Active false h = refl
waits_as (Ended cause) true h = let w = h.0 refl in absurd (cc)
waits_as (Ended cause) false h = refl
