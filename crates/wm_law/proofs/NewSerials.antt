-- A job that comes has the next serial, which never falls.
use Rattle.std.proofs.Common.{◌≡◌, ◌⊎◌, ℕ, ◌≤◌, ◌++◌, ◌==◌, List, [], ◌∷◌, map, Option, Some, None, refl, sym, subst, inl, inr, arith}
use Rattle.std.specs.List.{find}
use Rattle.wm_law.specs.declared.call.Call.{Call}
use Rattle.wm_law.specs.declared.choice.Candidate.{Candidate}
use Rattle.wm_law.specs.declared.job.Job.{Job}
use Rattle.wm_law.specs.declared.state.State.{State}
use Rattle.wm_law.specs.Autos.{auto_job, routed_auto}
use Rattle.wm_law.specs.Jobs.{changed_at, active_at}
use Rattle.wm_law.specs.Launch.{as_launched, with_routed, routed_from_queue}
use Rattle.wm_law.specs.Laws.{IsIn}
use Rattle.wm_law.specs.Machine.{step}
use Rattle.wm_law.specs.Order.{GivesNewSerials}
use Rattle.wm_law.specs.Reports.{in_phase, phased_at}
use Rattle.wm_law.specs.Submitting.{submitted_job}
use Rattle.wm_law.proofs.Changed.{keys_kept}
use Rattle.wm_law.proofs.Endings.{keys_same, using}
use Rattle.wm_law.proofs.Members.{in_mapped, of_last, of_mapped}
use Rattle.wm_law.proofs.Moves.{HoldsOfStates, IsKeptByParts, step_keeps, autos_made}
use Rattle.wm_law.proofs.Numbers.{serials_stay}
use Rattle.wm_law.specs.Prestart.{new_pre_job, with_evoke}

abbrev serials : List Job → List ℕ
serials jobs = map (λ j. j.serial) jobs

module _ (s : State) where
  -- the serial was given before, or is new
  abbrev IsOldOrNew : ℕ → Type 0
  IsOldOrNew serial = IsIn serial (serials s.jobs) ⊎ (s.next_serial ≤ serial)

  itself : GivesNewSerials s s
  itself = record { new = λ j i. inl (in_mapped (λ (x : Job). x.serial) s.jobs j i); next = omega arith }

  -- jobs of the same serials
  same_new : (t : State) (jobs : List Job) → serials jobs ≡ serials t.jobs → GivesNewSerials s t → (j : Job) → IsIn j jobs → IsOldOrNew j.serial
  same_new t jobs e h j i =
      let o = of_mapped (λ (x : Job). x.serial) t.jobs j.serial (subst (IsIn j.serial) e (in_mapped (λ (x : Job). x.serial) jobs j i)) in
      subst IsOldOrNew (sym o.2) (h.new o.0 o.1)

  same : (t : State) (jobs : List Job) → serials jobs ≡ serials t.jobs → GivesNewSerials s t → GivesNewSerials s (record t { jobs = jobs })
  same t jobs e h = record { new = same_new t jobs e h; next = h.next }

  -- and one job more, with the next serial
  last_new : (t : State) (k : Job) → k.serial ≡ t.next_serial → GivesNewSerials s t → (j : Job) → IsIn j (t.jobs ++ k ∷ []) → IsOldOrNew j.serial
  last_new t k e h j i =
      let least = h.next in
      let own : IsOldOrNew k.serial = inr (omega arith) in
      elim (of_last t.jobs k j i) as (λ _. IsOldOrNew j.serial) [ inl m ↦ h.new j m | inr at ↦ subst (λ (x : Job). IsOldOrNew x.serial) (sym at) own ]

  launched_new : (t : State) (c : Candidate) (o : Option Job) → GivesNewSerials s t → GivesNewSerials s (with_routed t c o)
  launched_new t c None h = h
  launched_new t c (Some j) h =
      let l = routed_from_queue t c.sbs c.jobq j in
      same t (map (changed_at c.serial (as_launched l)) t.jobs) (keys_kept (λ (k : Job). k.serial) c.serial (as_launched l) (λ k. refl) t.jobs) h

  calls : (t : State) → GivesNewSerials s t → HoldsOfStates (GivesNewSerials s) t
  calls t h = (let least = h.next in record {
    stays = h;
    starts = λ q e. autos_made (GivesNewSerials s) t q e
        (λ u x d m k. (let most = k.next in record { new = last_new u (routed_auto u q (auto_job u x d)) refl k; next = omega arith }))
        (record { new = h.new; next = h.next });
    supplies = record {
      makes = λ q d e u can k. (let most = k.next in record { new = last_new u (new_pre_job u q e.pgm) refl k; next = omega arith });
      assigns = λ u q pgm job evokes can k. record { new = same_new u (map (active_at job.serial with_evoke) u.jobs) (keys_same (active_at job.serial with_evoke) (using job.serial) (λ (x : Job). x.serial) (λ x p w v e. refl) u.jobs) k; next = k.next };
    };
    enters = λ user c d due has. record { new = last_new t (submitted_job t user c d due) refl h; next = omega arith };
    alters = λ change place a. record { new = same_new t (map change t.jobs) (serials_stay t change place a) h; next = h.next };
    holds = λ held a. record { new = h.new; next = h.next };
    lists = λ stopped evokes. record { new = h.new; next = h.next };
    moves = λ serial j phase stopped i e r k. (let moved = same t (map (phased_at serial phase) t.jobs) (keys_kept (λ (x : Job). x.serial) serial (in_phase phase) (λ x. refl) t.jobs) h in record { new = moved.new; next = moved.next });
    ends = λ change started stopped evokes power e. record { new = same_new t (map change t.jobs) (keys_same change e.jobs (λ (x : Job). x.serial) (λ x p w u e. refl) t.jobs) h; next = h.next };
    makes = λ o c. record { new = h.new; next = h.next };
  })

  kept : IsKeptByParts (GivesNewSerials s)
  kept = record {
    clock = λ t moment h. record { new = h.new; next = h.next };
    calls = calls;
    leaves = λ t h. record { new = h.new; next = h.next };
    launches = record { by_step = λ t c e h. launched_new t c (find (λ (j : Job). j.serial == c.serial) t.jobs) h };
  }

pub step_gives_new_serials : (s : State) (caller : ℕ) (call : Call) (moment : ℕ) → GivesNewSerials s (step s caller call moment).state
step_gives_new_serials s caller call moment = step_keeps (GivesNewSerials s) (kept s) s caller call moment (itself s)
