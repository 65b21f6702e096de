-- The words of the phases of a job.
use Rattle.std.specs.Prelude.{ℕ, List, codes}
use Rattle.wm_base.specs.declared.refusal.PhaseWord.{PhaseWord}
use Rattle.wm_base.specs.declared.refusal.PhaseWord.TheVariants.{Waiting, Starting, Active, Ended}

abbrev pub phase_word : PhaseWord → List ℕ
phase_word Waiting = codes "WAITING"
phase_word Starting = codes "STARTING"
phase_word Active = codes "ACTIVE"
phase_word Ended = codes "ENDED"
