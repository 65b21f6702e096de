-- What the jobs that are made for a prestart entry rest on.
use Rattle.std.specs.Prelude.{◌≡◌}
use Rattle.wm_base.specs.declared.qname.QName.{QName}
use Rattle.wm_desc.specs.declared.description.Sbsd.{Sbsd}
use Rattle.wm_desc.specs.declared.entry.PreEntry.{PreEntry}
use Rattle.wm_law.specs.declared.state.State.{State}
use Rattle.wm_law.specs.Counts.{count_in_sbs, count_from_pre}
use Rattle.wm_law.specs.Prestart.{count_available, is_stopped}
use Rattle.wm_law.specs.Submitting.{numbers_left}
use Rattle.wm_indexes.specs.declared.bounds.Supply.{Supply}

-- it is what the state has for a prestart entry of a subsystem
pub record IsSupply (s : State) (sbs : QName) (d : Sbsd) (e : PreEntry) (supply : Supply) : Type 0 where
  pub stopped : supply.stopped ≡ is_stopped s sbs e.pgm
  pub available : supply.available ≡ count_available sbs e.pgm s.jobs
  pub count : supply.count ≡ count_from_pre sbs e.pgm s.jobs
  pub sbs_maxjobs : supply.sbs_maxjobs ≡ d.maxjobs
  pub sbs_count : supply.sbs_count ≡ count_in_sbs sbs s.jobs
  pub numbers_left : supply.numbers_left ≡ numbers_left s
