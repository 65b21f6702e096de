-- What phases are to one another.
use Rattle.std.proofs.Common.{◌≡◌, true, refl}
use Rattle.wm_law.specs.declared.job.Phase.{Phase}
use Rattle.wm_law.specs.declared.job.Phase.TheVariants.{Waiting, Starting, Handed, Running, Ended}
use Rattle.wm_law.specs.Counts.{is_active, is_starting}

-- a Starting job is active
pub starting_active : (p : Phase) → is_starting p ≡ true → is_active p ≡ true
starting_active Waiting e = absurd (cc)
starting_active Starting e = refl
starting_active (Handed m) e = absurd (cc)
starting_active (Running m) e = absurd (cc)
starting_active (Ended c) e = absurd (cc)
