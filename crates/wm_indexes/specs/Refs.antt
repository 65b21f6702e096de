-- The references that name a job without its number.
use Rattle.wm_law.specs.declared.job.Job.{Job}
use Rattle.wm_indexes.specs.declared.keys.SimpleName.{SimpleName}
use Rattle.wm_indexes.specs.declared.keys.UserName.{UserName}

-- a job's simple name
abbrev pub simple_name_of : Job → SimpleName
simple_name_of j = record { name = j.job.name }

-- a job's name by user
abbrev pub user_name_of : Job → UserName
user_name_of j = record { user = j.job.user; name = j.job.name }
