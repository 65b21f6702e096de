-- Wishes and requests keep the ranges of jobs, and so do prestart jobs that are made.
use Rattle.std.proofs.Common.{◌≡◌, ◌≤◌, ◌<◌, ℕ, cond, nat_le, min, ◌-◌, List, Some, refl, sym, ap, subst, inl, inr, arith}
use Rattle.std.proofs.lemmas.Bool.Decides.{nat_tests}
use Rattle.wm_base.specs.Name.{IsName}
use Rattle.wm_base.specs.declared.qname.QName.{QName}
use Rattle.wm_desc.specs.Table.{object_named}
use Rattle.wm_desc.specs.declared.description.Sbsd.{Sbsd}
use Rattle.wm_desc.specs.declared.entry.PreEntry.{PreEntry}
use Rattle.wm_law.specs.Counts.{count_from_pre, count_in_sbs}
use Rattle.wm_law.specs.Jobs.{active_at}
use Rattle.wm_law.specs.Laws.{IsIn}
use Rattle.wm_law.specs.Ranges.{AreInRange}
use Rattle.wm_law.specs.Prestart.{left_by, new_pre_job, with_evoke}
use Rattle.wm_law.specs.Submitting.{numbers_end, numbers_left, serials_end}
use Rattle.wm_law.specs.declared.job.Job.{Job}
use Rattle.wm_law.specs.declared.job.Phase.{Phase}
use Rattle.wm_law.specs.declared.state.Evoke.{Evoke}
use Rattle.wm_law.specs.declared.state.Power.{Power}
use Rattle.wm_law.specs.declared.state.Sbs.{Sbs}
use Rattle.wm_law.specs.declared.state.State.{State}
use Rattle.wm_law.specs.declared.state.Stop.{Stop}
use Rattle.wm_law.proofs.Endings.{IsPhaseAfter, IsWishing, using, wished}
use Rattle.wm_law.proofs.Moves.{why_range}
use Rattle.wm_law.proofs.Rounds.{left, left-few}
use Rattle.wm_law.proofs.Supplies.{IsSuppliable, IsSupplied, number_left, serial_left}
use Rattle.wm_rows.specs.Stored.{IsPhase, stored_of, stored_phase}
use Rattle.wm_tables.specs.Ranges.{IsInRange, IsJobInRange}
use Rattle.wm_tables.proofs.RangedJobs.{jobs_last, jobs_mapped, phased}
use Rattle.wm_tables.proofs.RangedLaunches.{described_in}

after_range : (p q : Phase) → IsPhaseAfter p q → IsPhase (stored_phase p) → IsPhase (stored_phase q)
after_range p q (inl e) h = subst (λ (x : Phase). IsPhase (stored_phase x)) (sym e) h
after_range p q (inr e) h = subst (λ (x : Phase). IsPhase (stored_phase x)) (sym e.1.1) (why_range e.1.0)

-- jobs are wished to end, or get a request: of what is stored of them only the phase changes, of those that end so
pub wished_range : (s : State) (change : Job → Job) (started : List Sbs) (stopped : List Stop) (evokes : List Evoke) (power : Power) → IsWishing change → IsInRange s → IsInRange (wished s change started stopped evokes power)
wished_range s change started stopped evokes power w r = record {
  objects = r.objects;
  held = r.held;
  jobs = jobs_mapped s.objects change s.jobs (λ j i x. phased s.objects j (change j) (ap stored_of (w.same j)) (after_range j.phase (change j).phase (w.phase j) x.stored.phase) x) r.jobs;
  clock = r.clock;
}

numbered : (n m : ℕ) → 0 < cond (nat_le 1 n) m 0 → 1 ≤ n
numbered n m h = grind (arith, nat_tests)

-- where a job can be made for an entry, what comes next is a number
least_number : (q : QName) (d : Sbsd) (e : PreEntry) (t : State) → 0 < left q d e t → 1 ≤ t.next_number
least_number q d e t some =
    let outer = left-few d.maxjobs (count_in_sbs q t.jobs) (left_by e.maxjobs (count_from_pre q e.pgm t.jobs) (numbers_left t)) in
    let inner = left-few e.maxjobs (count_from_pre q e.pgm t.jobs) (numbers_left t) in
    numbered t.next_number (min (numbers_end - t.next_number) (serials_end - t.next_serial)) (omega (arith, outer, inner, some))

-- the program of an entry has a name
entry_name : (s : State) (q : QName) (d : Sbsd) (e : PreEntry) → AreInRange s.objects → object_named q s.objects.sbsds ≡ Some d → IsIn e d.pres → IsName e.pgm.name
entry_name s q d e r named i =
    let m = described_in q s.objects.sbsds d named in
    ((r.entries m.0 m.1).pres e (subst (λ (x : Sbsd). IsIn e x.pres) (sym m.2) i)).pgm.name

pre_job_range : (q : QName) (d : Sbsd) (e : PreEntry) (t : State) → IsSuppliable q d e t → IsInRange t → IsJobInRange t.objects (new_pre_job t q e.pgm)
pre_job_range q d e t can r =
    let least = least_number q d e t can.some in
    let number = number_left q d e t can.some in
    let serial = serial_left q d e t can.some in
    record {
      stored = record {
        serial = omega arith;
        number_least = least;
        number_most = omega arith;
        user = refl;
        name = entry_name t q d e r.objects can.described can.entered;
        jobq = tt;
        pty_least = omega arith;
        pty_most = omega arith;
        place = omega arith;
        rtgdta = refl;
        rqsdta = tt;
        due = r.clock;
        phase = tt;
      };
      lengths = record { rtgdta = record { least = omega arith; most = omega arith }; rqsdta = refl };
      kind = (record { jobq = refl; pty = refl; place = refl; held = refl }, refl, refl);
    }

-- prestart jobs that are made, and requests that jobs get
pub supplies_range : IsSupplied IsInRange
supplies_range = record {
  makes = λ q d e t can r. record {
    objects = r.objects;
    held = r.held;
    jobs = jobs_last t.objects t.jobs (new_pre_job t q e.pgm) r.jobs (pre_job_range q d e t can r);
    clock = r.clock;
  };
  assigns = λ t q pgm job evokes can r. wished_range t (active_at job.serial with_evoke) t.started t.stopped evokes t.power (using job.serial) r;
}
