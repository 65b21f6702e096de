-- Which job gets a request, by its serial.
use Rattle.std.proofs.Common.{◌≡◌, ℕ, Option, Some, None, option_map, refl, sym}
use Rattle.wm_base.proofs.Tests.{Some-injective}
use Rattle.wm_law.specs.declared.job.Job.{Job}

-- the job of the serial
pub of_serial : (o : Option Job) (serial : ℕ) → Some serial ≡ option_map (λ (j : Job). j.serial) o → (j : Job) × (o ≡ Some j) × (j.serial ≡ serial)
of_serial None serial e = absurd (cc)
of_serial (Some j) serial e = (j, refl, sym (Some-injective serial j.serial e))

-- no job, where there is no serial
pub of_none : (o : Option Job) → None ≡ option_map (λ (j : Job). j.serial) o → o ≡ None
of_none None e = refl
of_none (Some j) e = absurd (cc)
