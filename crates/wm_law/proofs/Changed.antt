-- What is known where the job of one serial is changed.
use Rattle.std.proofs.Common.{◌≡◌, ℕ, ◌==◌, Bool, true, false, cond, List, map, refl, ap, subst}
use Rattle.std.proofs.lemmas.Bool.{eq-eqb}
use Rattle.wm_law.specs.declared.job.Job.{Job}
use Rattle.wm_law.specs.Jobs.{changed_at}
use Rattle.wm_law.specs.Laws.{IsIn}
use Rattle.wm_law.proofs.Members.{in_mapped, map_same}

key_at : {A : Type 0} (key : Job → A) (change : Job → Job) → ((j : Job) → key (change j) ≡ key j) → (t : Bool) (j : Job) → key (cond t (change j) j) ≡ key j
key_at key change h true j = h j
key_at key change h false j = refl

-- a change that leaves a key of each job leaves the list of the keys
pub keys_kept : {A : Type 0} (key : Job → A) (serial : ℕ) (change : Job → Job) → ((j : Job) → key (change j) ≡ key j) → (jobs : List Job) → map key (map (changed_at serial change) jobs) ≡ map key jobs
keys_kept key serial change h jobs = map_same key (changed_at serial change) (λ j. key_at key change h (j.serial == serial) j) jobs

-- the job of the serial stands changed
pub in_changed : (change : Job → Job) (i : Job) (jobs : List Job) → IsIn i jobs → IsIn (change i) (map (changed_at i.serial change) jobs)
in_changed change i jobs k =
    let same = ap (λ (b : Bool). cond b (change i) i) (eq-eqb i.serial i.serial refl) in
    subst (λ (j : Job). IsIn j (map (changed_at i.serial change) jobs)) same (in_mapped (changed_at i.serial change) jobs i k)
