-- The text of a job's name.
use Rattle.std.specs.Prelude.{ℕ, List, ◌++◌, codes}
use Rattle.wm_base.specs.declared.job.JobName.{JobName}
use Rattle.wm_base.specs.Number.{zero_padded}

abbrev pub job_name_text : JobName → List ℕ
job_name_text job = zero_padded 6 job.number ++ codes "/" ++ job.user ++ codes "/" ++ job.name
