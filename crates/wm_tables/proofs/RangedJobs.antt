-- What keeps the ranges of jobs.
use Rattle.std.proofs.Common.{◌≡◌, ◌++◌, List, [], ◌∷◌, map, sym, subst, inl, inr}
use Rattle.std.specs.Option.{IsSome}
use Rattle.wm_base.specs.declared.qname.QName.{QName}
use Rattle.wm_desc.specs.Table.{object_named}
use Rattle.wm_desc.specs.declared.objects.Objects.{Objects}
use Rattle.wm_law.specs.Laws.{IsIn}
use Rattle.wm_law.specs.declared.job.Job.{Job}
use Rattle.wm_law.specs.declared.job.JobKind.{JobKind}
use Rattle.wm_law.specs.declared.job.JobKind.TheVariants.{Bch, Asj, Pj}
use Rattle.wm_law.proofs.Members.{of_last, of_mapped}
use Rattle.wm_rows.specs.Stored.{IsPhase, IsStored, stored_of, stored_phase}
use Rattle.wm_rows.specs.declared.stored_job.StoredJob.{StoredJob}
use Rattle.wm_rows.specs.declared.stored_job.StoredPhase.{StoredPhase}
use Rattle.wm_tables.specs.Ranges.{IsJobInRange}
use Rattle.wm_tables.specs.Restart.{HasLengths, IsOfKind}

-- each job keeps its ranges
abbrev pub AreJobs : Objects → List Job → Type 0
AreJobs o jobs = (j : Job) → IsIn j jobs → IsJobInRange o j

pub jobs_mapped : (o : Objects) (f : Job → Job) (jobs : List Job) → ((j : Job) → IsIn j jobs → IsJobInRange o j → IsJobInRange o (f j)) → AreJobs o jobs → AreJobs o (map f jobs)
jobs_mapped o f jobs h each j i = let m = of_mapped f jobs j i in subst (IsJobInRange o) (sym m.2) (h m.0 m.1 (each m.0 m.1))

pub jobs_last : (o : Objects) (jobs : List Job) (last : Job) → AreJobs o jobs → IsJobInRange o last → AreJobs o (jobs ++ last ∷ [])
jobs_last o jobs last each h j i = elim (of_last jobs last j i) as (λ _. IsJobInRange o j) [ inl was ↦ each j was | inr same ↦ subst (IsJobInRange o) (sym same) h ]

-- where queues are still there
kind_more : (a b : Objects) (k : JobKind) (j : StoredJob) → ((q : QName) → IsSome (object_named q a.jobqs) → IsSome (object_named q b.jobqs)) → IsOfKind a k j → IsOfKind b k j
kind_more a b Bch j still h = (h.0, h.1, still h.0 h.2)
kind_more a b Asj j still h = h
kind_more a b Pj j still h = h

pub jobs_still : (a b : Objects) (jobs : List Job) → ((q : QName) → IsSome (object_named q a.jobqs) → IsSome (object_named q b.jobqs)) → AreJobs a jobs → AreJobs b jobs
jobs_still a b jobs still each j i = let h = each j i in record { stored = h.stored; lengths = h.lengths; kind = kind_more a b j.kind (stored_of j) still h.kind }

-- a job in another phase
pub phased_stored : (a : StoredJob) (p : StoredPhase) → IsPhase p → IsStored a → IsStored (record a { phase = p })
phased_stored a p h s = record {
  serial = s.serial;
  number_least = s.number_least;
  number_most = s.number_most;
  user = s.user;
  name = s.name;
  jobq = s.jobq;
  pty_least = s.pty_least;
  pty_most = s.pty_most;
  place = s.place;
  rtgdta = s.rtgdta;
  rqsdta = s.rqsdta;
  due = s.due;
  phase = h;
}

pub phased_kind : (o : Objects) (k : JobKind) (a : StoredJob) (p : StoredPhase) → IsOfKind o k a → IsOfKind o k (record a { phase = p })
phased_kind o Bch a p h = h
phased_kind o Asj a p h = record { jobq = h.jobq; pty = h.pty; place = h.place; held = h.held }
phased_kind o Pj a p h = (record { jobq = h.0.jobq; pty = h.0.pty; place = h.0.place; held = h.0.held }, h.1, h.2)

pub phased : (o : Objects) (j k : Job) → stored_of k ≡ record (stored_of j) { phase = stored_phase k.phase } → IsPhase (stored_phase k.phase) → IsJobInRange o j → IsJobInRange o k
phased o j k e h r =
    let a = record (stored_of j) { phase = stored_phase k.phase } in
    record {
      stored = subst IsStored (sym e) (phased_stored (stored_of j) (stored_phase k.phase) h r.stored);
      lengths = subst HasLengths (sym e) (record { rtgdta = r.lengths.rtgdta; rqsdta = r.lengths.rqsdta });
      kind = subst (λ (x : StoredJob). IsOfKind o x.kind x) (sym e) (phased_kind o j.kind (stored_of j) (stored_phase k.phase) r.kind);
    }
