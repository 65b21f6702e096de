-- The idle job of least number is the first in the list, where jobs stand in the order of their numbers.
use Rattle.std.proofs.Common.{◌≡◌, ℕ, suc, ◌<◌, nat_lt, Bool, true, false, cond, List, [], ◌∷◌, length, fold, filter, get_or, Some, None, refl, ap, ◌∙◌, arith}
use Rattle.std.specs.List.{find}
use Rattle.std.proofs.lemmas.Bool.{and_parts}
use Rattle.std.proofs.lemmas.Bool.Decides.{nat_tests}
use Rattle.wm_base.specs.declared.job.How.{How}
use Rattle.wm_base.specs.declared.job.How.TheVariants.{NotYet, FromQueue, Auto, Pre}
use Rattle.wm_base.specs.declared.qname.QName.{QName}
use Rattle.wm_law.specs.declared.job.Job.{Job}
use Rattle.wm_law.specs.Counts.{is_from_pre}
use Rattle.wm_law.specs.Prestart.{FirstIdleIsFirst, HavePresInOrder, is_by_pre, is_idle, is_idle_in, of_lesser_number}

pub by-entry : (sbs pgm : QName) (how : How) → is_from_pre sbs pgm how ≡ true → is_by_pre how ≡ true
by-entry sbs pgm NotYet h = h
by-entry sbs pgm (FromQueue q queue pty route) h = h
by-entry sbs pgm (Auto q route) h = h
by-entry sbs pgm (Pre q program) h = refl

idle-by-pre : (sbs pgm : QName) (j : Job) → is_idle_in sbs pgm j ≡ true → is_by_pre j.how ≡ true
idle-by-pre sbs pgm j h = by-entry sbs pgm j.how (and_parts (is_from_pre sbs pgm j.how) (is_idle j) h).0

-- one prestart job has a lesser number than another
abbrev Before : Job → Job → Type 0
Before i j = is_by_pre i.how ≡ true → is_by_pre j.how ≡ true → i.job.number < j.job.number

no-less : (a b : ℕ) → a < b → nat_lt b a ≡ false
no-less a b h = grind (arith, nat_tests)

stays : (i j : Job) → i.job.number < j.job.number → of_lesser_number (Some i) j ≡ Some i
stays i j h = ap (λ b. cond b (Some j) (Some i)) (no-less i.job.number j.job.number h)

module _ (sbs pgm : QName) where
  abbrev idle : Job → Bool
  idle j = is_idle_in sbs pgm j

  -- those behind a job in the list
  abbrev AllBehind : Job → List Job → Type 0
  AllBehind i jobs = (k : ℕ) (d : Job) → k < length jobs → Before i (get_or jobs k d)

  kept-by : (b : Bool) (i x : Job) (xs : List Job) → idle x ≡ b → is_by_pre i.how ≡ true → Before i x → fold of_lesser_number (Some i) (filter idle xs) ≡ Some i → fold of_lesser_number (Some i) (cond b (x ∷ filter idle xs) (filter idle xs)) ≡ Some i
  kept-by true i x xs e pre before rest = ap (λ o. fold of_lesser_number o (filter idle xs)) (stays i x (before pre (idle-by-pre sbs pgm x e))) ∙ rest
  kept-by false i x xs e pre before rest = rest

  kept : (i : Job) (jobs : List Job) → is_by_pre i.how ≡ true → AllBehind i jobs → fold of_lesser_number (Some i) (filter idle jobs) ≡ Some i
  kept i [] pre behind = refl
  kept i (x ∷ xs) pre behind = kept-by (idle x) i x xs refl pre (behind 0 x (omega arith)) (kept i xs pre (λ k d lt. behind (suc k) d (omega (arith, lt))))

  first-by : (b : Bool) (x : Job) (xs : List Job) → idle x ≡ b → AllBehind x xs → fold of_lesser_number None (filter idle xs) ≡ find idle xs → fold of_lesser_number None (cond b (x ∷ filter idle xs) (filter idle xs)) ≡ cond b (Some x) (find idle xs)
  first-by true x xs e behind rest = kept x xs (idle-by-pre sbs pgm x e) behind
  first-by false x xs e behind rest = rest

  first : (jobs : List Job) → HavePresInOrder jobs → fold of_lesser_number None (filter idle jobs) ≡ find idle jobs
  first [] sorted = refl
  first (x ∷ xs) sorted =
      first-by (idle x) x xs refl (λ k d lt. sorted 0 (suc k) d (omega arith) (omega (arith, lt))) (first xs (λ i j d lt le. sorted (suc i) (suc j) d (omega (arith, lt)) (omega (arith, le))))

pub first_idle_is_first : FirstIdleIsFirst
first_idle_is_first sbs pgm jobs sorted = first sbs pgm jobs sorted
