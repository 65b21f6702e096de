-- The jobs stay in the order of their serials.
use Rattle.std.proofs.Common.{◌≡◌, ◌⊎◌, ℕ, ◌<◌, ◌++◌, ◌==◌, List, [], ◌∷◌, map, Option, Some, None, refl, sym, subst, inl, inr}
use Rattle.std.specs.List.{find}
use Rattle.wm_base.specs.Iterate.{IsKept}
use Rattle.wm_law.specs.declared.call.Call.{Call}
use Rattle.wm_law.specs.declared.choice.Candidate.{Candidate}
use Rattle.wm_law.specs.declared.job.Job.{Job}
use Rattle.wm_law.specs.declared.state.State.{State}
use Rattle.wm_law.specs.Autos.{auto_job, routed_auto}
use Rattle.wm_law.specs.Choice.{next}
use Rattle.wm_law.specs.Kept.{IsBelow, IsNumbered}
use Rattle.wm_law.specs.Launch.{as_launched, launch, with_routed, routed_from_queue}
use Rattle.wm_law.specs.Laws.{IsIn}
use Rattle.wm_law.specs.Machine.{step, apply}
use Rattle.wm_law.specs.Reports.{in_phase}
use Rattle.wm_law.specs.Sound.{HasJobsInOrder, IsIncreasing}
use Rattle.wm_law.specs.Submitting.{submitted_job}
use Rattle.wm_law.proofs.Changed.{keys_kept}
use Rattle.wm_law.proofs.Endings.{keys_same, using}
use Rattle.wm_law.proofs.Moves.{HoldsOfStates, autos_made, IsKeptByParts, step_keeps, call_keeps}
use Rattle.wm_law.proofs.Numbers.{calls, clock_keeps, serials_stay, auto_keeps, begun_keeps, only_started, launches_keep}
use Rattle.wm_law.specs.Jobs.{active_at}
use Rattle.wm_law.specs.Prestart.{new_pre_job, with_evoke}

abbrev serials : List Job → List ℕ
serials jobs = map (λ j. j.serial) jobs

of_last : (jobs : List Job) (j : Job) (n : ℕ) → IsIn n (serials (jobs ++ j ∷ [])) → IsIn n (serials jobs) ⊎ (n ≡ j.serial)
of_last [] j n (inl e) = inr e
of_last [] j n (inr i) = absurd i
of_last (k ∷ jobs) j n (inl e) = inl (inl e)
of_last (k ∷ jobs) j n (inr i) = elim (of_last jobs j n i) as (λ _. IsIn n (serials (k ∷ jobs)) ⊎ (n ≡ j.serial)) [ inl m ↦ inl (inr m) | inr e ↦ inr e ]

-- a job with a greater serial goes last
last_increasing : (jobs : List Job) (j : Job) → IsBelow j.serial (serials jobs) → IsIncreasing (serials jobs) → IsIncreasing (serials (jobs ++ j ∷ []))
last_increasing [] j b h = ((λ n i. absurd i), tt)
last_increasing (k ∷ jobs) j b h = (
  λ n i. (elim (of_last jobs j n i) as (λ _. k.serial < n) [ inl m ↦ h.0 n m | inr e ↦ subst (λ (x : ℕ). k.serial < x) (sym e) b.0 ]),
  last_increasing jobs j b.1 h.1,
)

launched_increasing : (s : State) (c : Candidate) (o : Option Job) → HasJobsInOrder s → HasJobsInOrder (with_routed s c o)
launched_increasing s c None h = h
launched_increasing s c (Some j) h = subst IsIncreasing (sym (keys_kept (λ (k : Job). k.serial) c.serial (as_launched (routed_from_queue s c.sbs c.jobq j)) (λ k. refl) s.jobs)) h

launches_increase : IsKept next (λ c t. launch t c) HasJobsInOrder
launches_increase = record { by_step = λ t c e h. launched_increasing t c (find (λ (j : Job). j.serial == c.serial) t.jobs) h }

-- numbered, and the jobs stand in order
record IsInLine (s : State) : Type 0 where
  numbered : IsNumbered s
  increasing : HasJobsInOrder s

calls_increase : (s : State) → IsInLine s → HoldsOfStates IsInLine s
calls_increase s l =
    let n = calls s l.numbered in
    let h = l.increasing in
    record {
      stays = l;
      starts = λ q e. autos_made IsInLine s q e
          (λ t x d m k. record { numbered = auto_keeps q t x d m k.numbered; increasing = last_increasing t.jobs (routed_auto t q (auto_job t x d)) k.numbered.serials.below k.increasing })
          (record { numbered = begun_keeps s q l.numbered; increasing = h });
      supplies = record {
        makes = λ q d e t can k. record { numbered = n.supplies.makes q d e t can k.numbered; increasing = last_increasing t.jobs (new_pre_job t q e.pgm) k.numbered.serials.below k.increasing };
        assigns = λ t q pgm job evokes can k. record { numbered = n.supplies.assigns t q pgm job evokes can k.numbered; increasing = subst IsIncreasing (sym (keys_same (active_at job.serial with_evoke) (using job.serial) (λ (x : Job). x.serial) (λ x p w u e. refl) t.jobs)) k.increasing };
      };
      enters = λ user c d due has. record { numbered = n.enters user c d due has; increasing = last_increasing s.jobs (submitted_job s user c d due) l.numbered.serials.below h };
      alters = λ change place a. record { numbered = n.alters change place a; increasing = subst IsIncreasing (sym (serials_stay s change place a)) h };
      holds = λ held a. record { numbered = n.holds held a; increasing = h };
      lists = λ stopped evokes. record { numbered = n.lists stopped evokes; increasing = h };
      moves = λ serial j phase stopped i e r k. record { numbered = n.moves serial j phase stopped i e r k; increasing = subst IsIncreasing (sym (keys_kept (λ (x : Job). x.serial) serial (in_phase phase) (λ x. refl) s.jobs)) h };
      ends = λ change started stopped evokes power e. record { numbered = n.ends change started stopped evokes power e; increasing = subst IsIncreasing (sym (keys_same change e.jobs (λ (x : Job). x.serial) (λ x p w u e. refl) s.jobs)) h };
      makes = λ o c. record { numbered = n.makes o c; increasing = h };
    }

parts : IsKeptByParts IsInLine
parts = record {
  clock = λ s moment l. record { numbered = clock_keeps s moment l.numbered; increasing = l.increasing };
  calls = calls_increase;
  leaves = λ s l. record { numbered = only_started s l.numbered; increasing = l.increasing };
  launches = record { by_step = λ t c e l. record { numbered = launches_keep.by_step t c e l.numbered; increasing = launches_increase.by_step t c e l.increasing } };
}

pub step_keeps_jobs_in_order : (s : State) (caller : ℕ) (call : Call) (moment : ℕ) → IsNumbered s → HasJobsInOrder s → HasJobsInOrder (step s caller call moment).state
step_keeps_jobs_in_order s caller call moment n h = (step_keeps IsInLine parts s caller call moment (record { numbered = n; increasing = h })).increasing

-- so they do before the state settles
pub apply_keeps_jobs_in_order : (s : State) (caller : ℕ) (call : Call) → IsNumbered s → HasJobsInOrder s → HasJobsInOrder (apply s caller call).state
apply_keeps_jobs_in_order s caller call n h = (call_keeps IsInLine s caller call (calls_increase s (record { numbered = n; increasing = h }))).increasing
