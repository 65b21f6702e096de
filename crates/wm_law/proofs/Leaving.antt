-- No ending subsystem stays without an active job.
use Rattle.std.proofs.Common.{◌≡◌, ℕ, zero, suc, ◌<◌, ◌≤◌, ◌==◌, ◌&&◌, not, Bool, true, false, cond, [], ◌∷◌, map, Option, Some, None, refl, ap, ◌∙◌, arith}
use Rattle.std.specs.List.{find}
use Rattle.std.proofs.lemmas.Bool.{and_parts, eqb-true}
use Rattle.wm_base.specs.Iterate.{IsKept}
use Rattle.wm_base.proofs.Iterate.{iterate-keeps}
use Rattle.wm_base.specs.declared.qname.QName.{QName}
use Rattle.wm_law.specs.declared.choice.Candidate.{Candidate}
use Rattle.wm_law.specs.declared.job.Job.{Job}
use Rattle.wm_law.specs.declared.job.Phase.{Phase}
use Rattle.wm_law.specs.declared.job.Phase.TheVariants.{Waiting, Starting, Handed, Running, Ended}
use Rattle.wm_law.specs.declared.launch.Launched.{Launched}
use Rattle.wm_law.specs.declared.state.State.{State}
use Rattle.wm_law.specs.declared.state.Sbs.{Sbs}
use Rattle.wm_law.specs.Choice.{next}
use Rattle.wm_law.specs.Counts.{count_in_sbs, is_active, is_in_sbs, is_waiting}
use Rattle.wm_law.specs.History.{stepped}
use Rattle.wm_law.specs.Kept.{IsNumbered}
use Rattle.wm_law.specs.Jobs.{changed_at, active_at}
use Rattle.wm_law.specs.Launch.{as_launched, launch, with_routed, routed_from_queue}
use Rattle.wm_law.specs.Laws.{IsIn}
use Rattle.wm_law.specs.Leaving.{EndingHaveJobs, EndingSubsystemsHaveJobs, StepLeavesEndingJobs}
use Rattle.wm_law.specs.Machine.{apply, step, with_clock}
use Rattle.wm_law.specs.Settling.{come_due, is_ending, is_gone, leave, settle, waiting, ready}
use Rattle.wm_law.proofs.Counted.{no_fewer, count_last}
use Rattle.wm_law.proofs.Firsts.{next_waits}
use Rattle.wm_law.proofs.Forward.{only_one}
use Rattle.wm_law.proofs.Members.{left_passes}
use Rattle.wm_law.proofs.Numbers.{apply_keeps, clock_keeps, launches_keep, ready_keeps, step_keeps_numbers}
use Rattle.wm_law.specs.Prestart.{new_pre_job, with_evoke}
use Rattle.wm_law.proofs.Supplies.{IsSupplied, supplied_keeps}

more_than_none : (n : ℕ) (ending : Bool) → ending ≡ true → not (ending && n == 0) ≡ true → 0 < n
more_than_none zero true e h = absurd (cc)
more_than_none zero false e h = absurd (cc)
more_than_none (suc n) ending e h = omega arith

-- once those that are gone have left, each ending subsystem has an active job
left_with_jobs : (s : State) → EndingHaveJobs (leave s)
left_with_jobs s b i e = more_than_none (count_in_sbs b.sbsd s.jobs) (is_ending b.phase) e (left_passes (λ (b : Sbs). not (is_gone s.jobs b)) s.started b i)

not_both : (p : Phase) → is_waiting p ≡ true → is_active p ≡ true → ⊥
not_both Waiting w a = absurd (cc)
not_both Starting w a = absurd (cc)
not_both (Handed m) w a = absurd (cc)
not_both (Running m) w a = absurd (cc)
not_both (Ended c) w a = absurd (cc)

-- a job that is counted isn't the one that is launched, so it is counted still
module _ (t : State) (c : Candidate) (l : Launched) (sbs : QName) (numbered : IsNumbered t) (is_next : next t ≡ Some c) where
  abbrev is_counted : Job → Bool
  is_counted j = is_active j.phase && is_in_sbs sbs j.how

  counted_at : (b : Bool) (i : Job) → (i.serial == c.serial) ≡ b → IsIn i t.jobs → is_counted i ≡ true → is_counted (cond b (as_launched l i) i) ≡ true
  counted_at true i e m h =
      let w = next_waits t c is_next in
      let its : i.serial ≡ w.0.serial = eqb-true i.serial c.serial e ∙ w.3 in
      let same : i ≡ w.0 = only_one t.jobs numbered.serials.distinct i w.0 m w.1 its in
      absurd (not_both i.phase (ap (λ (j : Job). is_waiting j.phase) same ∙ w.2) (and_parts (is_active i.phase) (is_in_sbs sbs i.how) h).0)
  counted_at false i e m h = h

  no_fewer_counted : count_in_sbs sbs t.jobs ≤ count_in_sbs sbs (map (changed_at c.serial (as_launched l)) t.jobs)
  no_fewer_counted = no_fewer is_counted is_counted (changed_at c.serial (as_launched l)) t.jobs (λ i m h. counted_at (i.serial == c.serial) i refl m h)

launched_with_jobs : (t : State) (c : Candidate) (o : Option Job) → IsNumbered t → next t ≡ Some c → EndingHaveJobs t → EndingHaveJobs (with_routed t c o)
launched_with_jobs t c None n e h = h
launched_with_jobs t c (Some j) n e h = λ b i ending.
    let before = h b i ending in
    let fewer = no_fewer_counted t c (routed_from_queue t c.sbs c.jobq j) b.sbsd n e in
    omega arith

-- numbered, and each ending subsystem has an active job
record IsPeopled (s : State) : Type 0 where
  numbered : IsNumbered s
  jobs : EndingHaveJobs s

launches_keep_jobs : IsKept next (λ c t. launch t c) IsPeopled
launches_keep_jobs = record {
  by_step = λ t c e h. record {
    numbered = launches_keep.by_step t c e h.numbered;
    jobs = launched_with_jobs t c (find (λ (j : Job). j.serial == c.serial) t.jobs) h.numbered e h.jobs;
  };
}

used_counted : (serial : ℕ) (sbs : QName) (b : Bool) (i : Job) → (is_active i.phase && is_in_sbs sbs i.how) ≡ true → (is_active (cond b (with_evoke i) i).phase && is_in_sbs sbs (cond b (with_evoke i) i).how) ≡ true
used_counted serial sbs true i h = h
used_counted serial sbs false i h = h

-- neither a prestart job that is made nor a request that a job gets lessens a count
supplied_with_jobs : IsSupplied EndingHaveJobs
supplied_with_jobs = record {
  makes = λ q d e t can h b i ending. (
      let before = h b i ending in
      let more = count_last (λ (j : Job). is_active j.phase && is_in_sbs b.sbsd j.how) t.jobs (new_pre_job t q e.pgm) in
      omega arith);
  assigns = λ t q pgm job evokes can h b i ending. (
      let before = h b i ending in
      let counted = λ (j : Job). is_active j.phase && is_in_sbs b.sbsd j.how in
      let fewer = no_fewer counted counted (active_at job.serial with_evoke) t.jobs (λ j m x. used_counted job.serial b.sbsd (is_active j.phase && j.serial == job.serial) j x) in
      omega arith);
}

settled_with_jobs : (s : State) → IsNumbered s → EndingHaveJobs (settle s)
settled_with_jobs s n =
    let jobs : EndingHaveJobs (ready s) = supplied_keeps EndingHaveJobs supplied_with_jobs (leave (come_due s)) (left_with_jobs (come_due s)) in
    (iterate-keeps IsPeopled launches_keep_jobs (waiting (ready s)) (ready s) (record { numbered = ready_keeps s n; jobs = jobs })).jobs

pub step_leaves_ending_jobs : StepLeavesEndingJobs
unfolding step
step_leaves_ending_jobs s caller call moment n = settled_with_jobs (apply (with_clock s moment) caller call).state (apply_keeps (with_clock s moment) caller call (clock_keeps s moment n))

pub ending_subsystems_have_jobs : EndingSubsystemsHaveJobs
ending_subsystems_have_jobs s [] n h = h
ending_subsystems_have_jobs s (e ∷ es) n h = ending_subsystems_have_jobs (stepped s e).state es (step_keeps_numbers s e.caller e.call e.moment n) (step_leaves_ending_jobs s e.caller e.call e.moment n)
