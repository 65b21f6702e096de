-- The commands made of their keys' values.
use Rattle.std.specs.Prelude.{List}
use Rattle.wm_base.specs.declared.refusal.Key.TheVariants as key
use Rattle.wm_law.specs.declared.command.Command.{Command}
use Rattle.wm_law.specs.declared.command.Command.TheVariants as command
use Rattle.wm_command.specs.declared.value.Given.{Given}
use Rattle.wm_command.specs.declared.verb.ChangeVerb.{ChangeVerb}
use Rattle.wm_command.specs.declared.verb.ChangeVerb.TheVariants as change
use Rattle.wm_command.specs.Fields.{object_in, job_in}
use Rattle.wm_command.specs.Objects.{crtcls, crtpgmref, crtjobd, crtsbsd}
use Rattle.wm_command.specs.Entries.{addjobqe, addrtge, addaje, addpje, rmvjobqe, rmvrtge, rmvaje, rmvpje}
use Rattle.wm_command.specs.Jobs.{sbmjob, chgjob, endjob}
use Rattle.wm_command.specs.Control.{endsbs, strpj, endpj, evoke, pwrdwnsys}

-- the command with these values
abbrev pub change_made : ChangeVerb → List Given → Command
change_made change.Crtcls g = command.Crtcls (crtcls g)
change_made change.Crtjobq g = command.Crtjobq (record { jobq = object_in key.Jobq g })
change_made change.Crtpgmref g = command.Crtpgmref (crtpgmref g)
change_made change.Crtjobd g = command.Crtjobd (crtjobd g)
change_made change.Crtsbsd g = command.Crtsbsd (crtsbsd g)
change_made change.Addjobqe g = command.Addjobqe (addjobqe g)
change_made change.Addrtge g = command.Addrtge (addrtge g)
change_made change.Addaje g = command.Addaje (addaje g)
change_made change.Addpje g = command.Addpje (addpje g)
change_made change.Rmvjobqe g = command.Rmvjobqe (rmvjobqe g)
change_made change.Rmvrtge g = command.Rmvrtge (rmvrtge g)
change_made change.Rmvaje g = command.Rmvaje (rmvaje g)
change_made change.Rmvpje g = command.Rmvpje (rmvpje g)
change_made change.Strsbs g = command.Strsbs (record { sbsd = object_in key.Sbsd g })
change_made change.Endsbs g = command.Endsbs (endsbs g)
change_made change.Sbmjob g = command.Sbmjob (sbmjob g)
change_made change.Hldjob g = command.Hldjob (record { job = job_in key.Job g })
change_made change.Rlsjob g = command.Rlsjob (record { job = job_in key.Job g })
change_made change.Chgjob g = command.Chgjob (chgjob g)
change_made change.Endjob g = command.Endjob (endjob g)
change_made change.Hldjobq g = command.Hldjobq (record { jobq = object_in key.Jobq g })
change_made change.Rlsjobq g = command.Rlsjobq (record { jobq = object_in key.Jobq g })
change_made change.Clrjobq g = command.Clrjobq (record { jobq = object_in key.Jobq g })
change_made change.Strpj g = command.Strpj (strpj g)
change_made change.Endpj g = command.Endpj (endpj g)
change_made change.Evoke g = command.Evoke (evoke g)
change_made change.Enduse g = command.Enduse (record { job = job_in key.Job g })
change_made change.Pwrdwnsys g = command.Pwrdwnsys (pwrdwnsys g)
