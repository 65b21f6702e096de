-- Which states keep the ranges of what is stored of them.
use Rattle.std.specs.Prelude.{◌≤◌}
use Rattle.wm_base.specs.declared.qname.QName.{QName}
use Rattle.wm_desc.specs.declared.objects.Objects.{Objects}
use Rattle.wm_law.specs.Fit.{IsQName}
use Rattle.wm_law.specs.Laws.{IsIn}
use Rattle.wm_law.specs.Ranges.{AreInRange}
use Rattle.wm_law.specs.declared.job.Job.{Job}
use Rattle.wm_law.specs.declared.state.State.{State}
use Rattle.wm_rows.specs.Stored.{IsStored, stored_of}
use Rattle.wm_tables.specs.Restart.{HasLengths, IsOfKind}

-- what is stored of a job keeps its ranges, and the job has the values of its kind
pub record IsJobInRange (objects : Objects) (j : Job) : Type 0 where
  pub stored : IsStored (stored_of j)
  pub lengths : HasLengths (stored_of j)
  pub kind : IsOfKind objects j.kind (stored_of j)

-- all that is stored of a state keeps its ranges, and so does the clock, by which autostart jobs are due
pub record IsInRange (s : State) : Type 0 where
  pub objects : AreInRange s.objects
  pub held : (q : QName) → IsIn q s.held → IsQName q
  pub jobs : (j : Job) → IsIn j s.jobs → IsJobInRange s.objects j
  pub clock : s.clock ≤ 253402214399
