-- Autostart jobs: made and launched one after another as their subsystem starts.
use Rattle.std.specs.Prelude.{ℕ, false, ◌+◌, codes, List, [], ◌∷◌, ◌++◌, Option, Some, None}
use Rattle.std.specs.Option.{option_map_or}
use Rattle.wm_base.specs.declared.job.How.TheVariants.{NotYet}
use Rattle.wm_base.specs.declared.qname.QName.{QName}
use Rattle.wm_desc.specs.declared.description.Jobd.{Jobd}
use Rattle.wm_desc.specs.declared.entry.AutoEntry.{AutoEntry}
use Rattle.wm_desc.specs.Table.{object_named}
use Rattle.wm_law.specs.declared.job.Job.{Job}
use Rattle.wm_law.specs.declared.job.JobKind.TheVariants.{Asj}
use Rattle.wm_law.specs.declared.job.Phase.TheVariants.{Waiting}
use Rattle.wm_law.specs.declared.job.Wish.TheVariants.{NoWish}
use Rattle.wm_law.specs.declared.state.State.{State}
use Rattle.wm_law.specs.Launch.{as_auto, as_launched, routed_in}

-- the user of autostart jobs
abbrev pub auto_user : List ℕ
auto_user = codes "QUSER"

-- an autostart job with its name, routing data and request, as the launch takes it
abbrev pub new_auto_job : State → List ℕ → List ℕ → Option (List ℕ) → Job
new_auto_job s name rtgdta rqsdta =
    record {
      serial = s.next_serial;
      job = record { number = s.next_number; user = auto_user; name = name };
      kind = Asj;
      jobq = None;
      pty = 5;
      place = 0;
      rtgdta = rtgdta;
      rqsdta = rqsdta;
      held = false;
      due = s.clock;
      phase = Waiting;
      how = NotYet;
      wish = NoWish;
      uses = 0;
      evoke = false;
    }

-- the autostart job of an entry, with the routing data and the request of the entry's job description
abbrev pub auto_job : State → AutoEntry → Jobd → Job
auto_job s e d = new_auto_job s e.job d.rtgdta d.rqsdta

-- an autostart job as its launch leaves it, whatever MAXJOBS is
abbrev pub routed_auto : State → QName → Job → Job
routed_auto s sbs j = as_launched (routed_in s sbs (as_auto sbs) j) j

-- the job goes last among the jobs, and its number and serial are taken, but no place
abbrev pub joined : State → Job → State
joined s j = record s { jobs = s.jobs ++ j ∷ []; next_number = s.next_number + 1; next_serial = s.next_serial + 1 }

-- the entry's job is made and launched at once, so it never waits
abbrev pub auto_made : State → QName → AutoEntry → Jobd → State
auto_made s sbs e d = joined s (routed_auto s sbs (auto_job s e d))

-- the state after the job of an entry is made, where the entry's job description is an object, as it always is
abbrev pub auto_described : State → QName → AutoEntry → Option Jobd → State
auto_described s sbs e None = s
auto_described s sbs e (Some d) = auto_made s sbs e d

-- the state after the autostart job of an entry is made and launched
abbrev pub make_auto : QName → State → AutoEntry → State
make_auto sbs s e = auto_described s sbs e (object_named e.jobd s.objects.jobds)

-- the autostart entries of a description, in the order of their job names
abbrev pub autos_of : State → QName → List AutoEntry
autos_of s sbs = option_map_or (λ d. d.autos) (object_named sbs s.objects.sbsds) []
