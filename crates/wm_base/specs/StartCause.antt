-- The word of a failed start's cause.
use Rattle.std.specs.Prelude.{ℕ, List, codes}
use Rattle.wm_base.specs.declared.job.StartCause.{StartCause}
use Rattle.wm_base.specs.declared.job.StartCause.TheVariants.{Spawner, Memory}

abbrev pub start_cause_word : StartCause → List ℕ
start_cause_word Spawner = codes "SPAWNER"
start_cause_word Memory = codes "MEMORY"
