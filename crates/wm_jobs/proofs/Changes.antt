-- What one job that changes leaves of a list of jobs.
use Rattle.std.proofs.Common.{◌≡◌, ℕ, ◌<◌, ◌≤◌, true, List, [], ◌∷◌, ◌++◌, length, is_some, refl, subst, sym, arith, All}
use Rattle.std.proofs.lemmas.List.Elements.{All-head, All-tail, All-cons}
use Rattle.wm_indexes.specs.declared.acting.Acting.{Acting}
use Rattle.wm_law.specs.declared.job.Job.{Job}
use Rattle.wm_law.specs.Counts.{is_waiting}
use Rattle.wm_ordered.specs.Ordered.{Pairs}
use Rattle.wm_pick.specs.Tally.{Counts, HasFew}
use Rattle.wm_ordered.specs.Waiting.{Waiting}
use Rattle.wm_pick.specs.Tallied.{hows}
use Rattle.wm_jobs.specs.Table.{serial_of}
use Rattle.wm_jobs.specs.TableInside.{IsListed, AreListed, IsIndexed, HasRoom}
use Rattle.wm_jobs.proofs.JobParts.{hows-few}
use Rattle.wm_jobs.proofs.Splits.{sorted-changed}
use Rattle.wm_indexes.specs.declared.prestart_job.PrestartJob.{PrestartJob}

module _ {X : Type 0} (P : X → Type 0) where
  pub all-changed : (l r : List X) (x y : X) → P y → All P (l ++ x ∷ r) → All P (l ++ y ∷ r)
  all-changed [] r x y holds all = All-cons P y r holds (All-tail P x r all)
  all-changed (z ∷ zs) r x y holds all = All-cons P z (zs ++ y ∷ r) (All-head P z (zs ++ x ∷ r) all) (all-changed zs r x y holds (All-tail P z (zs ++ x ∷ r) all))

  pub all-there : (l r : List X) (x : X) → All P (l ++ x ∷ r) → P x
  all-there [] r x all = All-head P x r all
  all-there (z ∷ zs) r x all = all-there zs r x (All-tail P z (zs ++ x ∷ r) all)

-- a job between those of lesser serials and of greater, and another of its serial in its place
module _ (s : ℕ) (l r : List Job) (x y : Job) (here : x.serial ≡ s) (lower : All (λ k. k.serial < s) l) (higher : All (λ k. s < k.serial) r) (serial : y.serial ≡ x.serial) where
  pub renewed-listed : (ns old np : ℕ) → old ≤ np → y.place < np → (is_waiting y.phase ≡ true → is_some y.jobq ≡ true) → AreListed ns old (l ++ x ∷ r) → AreListed ns np (l ++ y ∷ r)
  renewed-listed ns old np le place queue h = record {
    first_place = (let first = h.first_place in omega arith);
    sorted = sorted-changed serial_of s (l ++ x ∷ r) l r x y (record { whole = refl; here = here; lower = lower; higher = higher }) serial h.sorted;
    each = all-changed (IsListed ns np) l r x y (let was = all-there (IsListed ns old) l r x h.each in record { serial = subst (λ n. n < ns) (sym serial) was.serial; place = place; queue = queue })
        (λ k d lt. let was = h.each k d lt in let place = was.place in record { serial = was.serial; place = omega arith; queue = was.queue });
  }

pub few-hows : (jobs : List Job) (w : Waiting) (t : Counts) (o : Pairs ℕ (Unit {0})) (a : Pairs ℕ Acting) (p : Pairs ℕ PrestartJob) (b cap room : ℕ) → IsIndexed jobs w t o a p b → HasRoom (length jobs) cap room w t o → HasFew t
few-hows jobs w t o a p b cap room i h = record { hows = hows jobs; are = i.hows_are; few = (let n = hows-few jobs in let f = h.few in omega arith) }
