-- What the changes of jobs make of their names, and the one that a reference names.
use Rattle.std.proofs.Common.{◌≡◌, ℕ, ◌+◌, ◌<◌, ◌^◌, ◌≤◌, Bool, true, false, not, ◌&&◌, ◌==◌, cond, List, [], ◌∷◌, ◌++◌, length, Option, Some, Result, Ok, Err, inl, inr, refl, ap, sym, ◌∙◌, arith}
use Rattle.std.specs.List.{filter}
use Rattle.wm_base.specs.declared.job.JobName.{JobName}
use Rattle.wm_base.specs.declared.refusal.Refusal.{Refusal}
use Rattle.wm_law.specs.declared.command.JobRef.{JobRef}
use Rattle.wm_law.specs.declared.command.JobRef.TheVariants.{Simple, ByUser, Full}
use Rattle.wm_law.specs.declared.job.Job.{Job}
use Rattle.wm_law.specs.Laws.{IsIn}
use Rattle.wm_law.specs.Named.{is_ended, is_named, has_name, has_user_name, only_one}
use Rattle.wm_indexes.specs.Namesakes.{joined}
use Rattle.wm_indexes.specs.Names.{Names, IsNames, HasFew, serial_of_one}
use Rattle.wm_indexes.proofs.EachRow.{each-replaced}
use Rattle.wm_indexes.proofs.JobLemmas.{job_serial, total, total-middle, small-replaced}
use Rattle.wm_jobs.specs.TableInside.{HasNames}
use Rattle.wm_law.proofs.Moves.{the_one}

-- one of the same name that has ended where the other has is named by the same references
same-named : (r : JobRef) (x y : Job) → y.job ≡ x.job → is_ended y.phase ≡ is_ended x.phase → is_named r y ≡ is_named r x
same-named (Simple name) x y job ended = ap (λ b. not b && has_name name y.job) ended ∙ ap (λ (n : JobName). not (is_ended x.phase) && has_name name n) job
same-named (ByUser user name) x y job ended = ap (λ b. not b && has_user_name user name y.job) ended ∙ ap (λ (n : JobName). not (is_ended x.phase) && has_user_name user name n) job
same-named (Full full) x y job ended = ap (λ (n : JobName). n.number == full.number && has_user_name full.user full.name n) job

-- so it leaves the names
pub names-alike : (l r : List Job) (x y : Job) (names : Names) → y.serial ≡ x.serial → y.job ≡ x.job → is_ended y.phase ≡ is_ended x.phase → IsNames (l ++ x ∷ r) names → IsNames (l ++ y ∷ r) names
names-alike l r x y names serial job ended are = record {
  serials = small-replaced l x y r serial are.serials;
  rows = λ ref.
      are.rows ref
      ∙ (total-middle job_serial (is_named ref) l x r
      ∙ (ap (λ b. joined b x.serial (total job_serial (is_named ref) (l ++ r))) (sym (same-named ref x y job ended))
      ∙ (ap (λ (n : ℕ). joined (is_named ref y) n (total job_serial (is_named ref) (l ++ r))) (sym serial) ∙ sym (total-middle job_serial (is_named ref) l y r))));
  each = λ row. are.each row ∙ each-replaced l x y r serial job row;
}

-- one that comes into a list of names
pub names-pushed : (jobs : List Job) (j : Job) (old new : Names) (was is : ℕ) → HasNames jobs was old → is + 1 ≡ was → ((js : List Job) → IsNames js old → IsNames (js ++ j ∷ []) new) → old.spare ≤ new.spare + 1 → HasNames (jobs ++ j ∷ []) is new
names-pushed jobs j old new was is had less add spare = record { are = add jobs had.are; to_name = (let room = had.to_name in omega arith) }

pub few-names : (jobs : List Job) (names : Names) (room : ℕ) → HasNames jobs room names → length jobs + room + 2 < 2 ^ 32 → HasFew names
few-names jobs names room had few = record { jobs = jobs; are = had.are; few = omega arith }

-- the only one of some jobs is one of them
module _ (p : Job → Bool) where
  in-kept : (b : Bool) (j k : Job) (js : List Job) → IsIn k (cond b (j ∷ filter p js) (filter p js)) → (IsIn k (filter p js) → IsIn k js) → IsIn k (j ∷ js)
  in-kept true j k js (inl e) rest = inl e
  in-kept true j k js (inr i) rest = inr (rest i)
  in-kept false j k js i rest = inr (rest i)

  in-filter : (js : List Job) (k : Job) → IsIn k (filter p js) → IsIn k js
  in-filter [] k i = i
  in-filter (j ∷ js) k i = in-kept (p j) j k js i (in-filter js k)

by-serial : (o : Result Job Refusal) (s : ℕ) → Ok s ≡ serial_of_one o → (k : Job) × (o ≡ Ok k) × (k.serial ≡ s)
by-serial (Ok k) s e = (k, refl, cc (sym e))
by-serial (Err x) s e = absurd (cc e)

by-refusal : (o : Result Job Refusal) (x : Refusal) → ◌≡◌ {A = Result ℕ Refusal} (Err x) (serial_of_one o) → o ≡ Err x
by-refusal (Ok k) x e = absurd (cc e)
by-refusal (Err y) x e = ap (λ (z : Refusal). Err z) (cc (sym e))

module _ (ref : JobRef) (jobs : List Job) where
  abbrev one : Result Job Refusal
  one = only_one (filter (is_named ref) jobs)

  -- one is found by the serial of the one that is named
  pub named-there : (s : ℕ) (o : Option Job) → Ok s ≡ serial_of_one one → ((j : Job) → IsIn j jobs → j.serial ≡ s → o ≡ Some j) → (k : Job) × (one ≡ Ok k) × (o ≡ Some k)
  named-there s o found only =
      let k = by-serial one s found in
      (k.0, k.1, only k.0 (in-filter (is_named ref) jobs k.0 (the_one (filter (is_named ref) jobs) k.0 k.1)) k.2)

  pub not-named : (x : Refusal) → ◌≡◌ {A = Result ℕ Refusal} (Err x) (serial_of_one one) → one ≡ Err x
  not-named x e = by-refusal one x e
