-- The values of a command's keys, in the order of the table.
use Rattle.std.specs.Prelude.{List, [], ◌∷◌}
use Rattle.wm_base.specs.declared.refusal.Key.TheVariants as key
use Rattle.wm_law.specs.declared.command.Command.{Command}
use Rattle.wm_law.specs.declared.command.Command.TheVariants as command
use Rattle.wm_command.specs.declared.value.Value.TheVariants as value
use Rattle.wm_command.specs.declared.value.Given.{Given}
use Rattle.wm_command.specs.declared.verb.ChangeVerb.{ChangeVerb}
use Rattle.wm_command.specs.declared.verb.ChangeVerb.TheVariants as change
use Rattle.wm_command.specs.Fields.{with_key}
use Rattle.wm_command.specs.Objects.{crtcls_values, crtpgmref_values, crtjobd_values, crtsbsd_values}
use Rattle.wm_command.specs.Entries.{addjobqe_values, addrtge_values, addaje_values, addpje_values, rmvjobqe_values, rmvrtge_values, rmvaje_values, rmvpje_values}
use Rattle.wm_command.specs.Jobs.{sbmjob_values, chgjob_values, endjob_values}
use Rattle.wm_command.specs.Control.{endsbs_values, strpj_values, endpj_values, evoke_values, pwrdwnsys_values}

abbrev pub values_of : Command → List Given
values_of (command.Crtcls c) = crtcls_values c
values_of (command.Crtjobq c) = with_key key.Jobq (value.Object c.jobq) ∷ []
values_of (command.Crtpgmref c) = crtpgmref_values c
values_of (command.Crtjobd c) = crtjobd_values c
values_of (command.Crtsbsd c) = crtsbsd_values c
values_of (command.Addjobqe c) = addjobqe_values c
values_of (command.Addrtge c) = addrtge_values c
values_of (command.Addaje c) = addaje_values c
values_of (command.Addpje c) = addpje_values c
values_of (command.Rmvjobqe c) = rmvjobqe_values c
values_of (command.Rmvrtge c) = rmvrtge_values c
values_of (command.Rmvaje c) = rmvaje_values c
values_of (command.Rmvpje c) = rmvpje_values c
values_of (command.Strsbs c) = with_key key.Sbsd (value.Object c.sbsd) ∷ []
values_of (command.Endsbs c) = endsbs_values c
values_of (command.Sbmjob c) = sbmjob_values c
values_of (command.Hldjob c) = with_key key.Job (value.Job c.job) ∷ []
values_of (command.Rlsjob c) = with_key key.Job (value.Job c.job) ∷ []
values_of (command.Chgjob c) = chgjob_values c
values_of (command.Endjob c) = endjob_values c
values_of (command.Hldjobq c) = with_key key.Jobq (value.Object c.jobq) ∷ []
values_of (command.Rlsjobq c) = with_key key.Jobq (value.Object c.jobq) ∷ []
values_of (command.Clrjobq c) = with_key key.Jobq (value.Object c.jobq) ∷ []
values_of (command.Strpj c) = strpj_values c
values_of (command.Endpj c) = endpj_values c
values_of (command.Evoke c) = evoke_values c
values_of (command.Enduse c) = with_key key.Job (value.Job c.job) ∷ []
values_of (command.Pwrdwnsys c) = pwrdwnsys_values c

abbrev pub verb_of : Command → ChangeVerb
verb_of (command.Crtcls c) = change.Crtcls
verb_of (command.Crtjobq c) = change.Crtjobq
verb_of (command.Crtpgmref c) = change.Crtpgmref
verb_of (command.Crtjobd c) = change.Crtjobd
verb_of (command.Crtsbsd c) = change.Crtsbsd
verb_of (command.Addjobqe c) = change.Addjobqe
verb_of (command.Addrtge c) = change.Addrtge
verb_of (command.Addaje c) = change.Addaje
verb_of (command.Addpje c) = change.Addpje
verb_of (command.Rmvjobqe c) = change.Rmvjobqe
verb_of (command.Rmvrtge c) = change.Rmvrtge
verb_of (command.Rmvaje c) = change.Rmvaje
verb_of (command.Rmvpje c) = change.Rmvpje
verb_of (command.Strsbs c) = change.Strsbs
verb_of (command.Endsbs c) = change.Endsbs
verb_of (command.Sbmjob c) = change.Sbmjob
verb_of (command.Hldjob c) = change.Hldjob
verb_of (command.Rlsjob c) = change.Rlsjob
verb_of (command.Chgjob c) = change.Chgjob
verb_of (command.Endjob c) = change.Endjob
verb_of (command.Hldjobq c) = change.Hldjobq
verb_of (command.Rlsjobq c) = change.Rlsjobq
verb_of (command.Clrjobq c) = change.Clrjobq
verb_of (command.Strpj c) = change.Strpj
verb_of (command.Endpj c) = change.Endpj
verb_of (command.Evoke c) = change.Evoke
verb_of (command.Enduse c) = change.Enduse
verb_of (command.Pwrdwnsys c) = change.Pwrdwnsys
