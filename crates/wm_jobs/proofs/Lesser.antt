-- The idle job of least number is one of the jobs.
use Rattle.std.proofs.Common.{◌≡◌, ◌⊎◌, nat_lt, Bool, true, false, cond, List, [], ◌∷◌, filter, fold, Option, Some, None, inl, inr, sym}
use Rattle.wm_base.specs.declared.qname.QName.{QName}
use Rattle.wm_law.specs.declared.job.Job.{Job}
use Rattle.wm_law.specs.Laws.{IsIn}
use Rattle.wm_law.specs.Prestart.{first_idle, is_idle_in, of_lesser_number}

lesser-by : (b : Bool) (i x j : Job) (xs : List Job) → cond b (Some x) (Some i) ≡ Some j → (◌≡◌ {A = Option Job} (Some i) (Some j)) ⊎ IsIn j (x ∷ xs)
lesser-by true i x j xs e = let same : x ≡ j = cc e in inr (inl (sym same))
lesser-by false i x j xs e = inl e

-- the lesser of two is one of them
lesser-one : (least : Option Job) (x j : Job) (xs : List Job) → of_lesser_number least x ≡ Some j → (least ≡ Some j) ⊎ IsIn j (x ∷ xs)
lesser-one None x j xs e = let same : x ≡ j = cc e in inr (inl (sym same))
lesser-one (Some i) x j xs e = lesser-by (nat_lt x.job.number i.job.number) i x j xs e

-- the lesser of what passes of some jobs and one more is one of them
lesser-on : (b : Bool) (x : Job) (xs rest : List Job) (least : Option Job) (j : Job) → ((from : Option Job) → fold of_lesser_number from rest ≡ Some j → (from ≡ Some j) ⊎ IsIn j xs) → fold of_lesser_number least (cond b (x ∷ rest) rest) ≡ Some j → (least ≡ Some j) ⊎ IsIn j (x ∷ xs)
lesser-on true x xs rest least j later is = elim (later (of_lesser_number least x) is) as (λ _. (least ≡ Some j) ⊎ IsIn j (x ∷ xs)) [ inl one ↦ lesser-one least x j xs one | inr i ↦ inr (inr i) ]
lesser-on false x xs rest least j later is = elim (later least is) as (λ _. (least ≡ Some j) ⊎ IsIn j (x ∷ xs)) [ inl one ↦ inl one | inr i ↦ inr (inr i) ]

lesser-there : (p : Job → Bool) (jobs : List Job) (least : Option Job) (j : Job) → fold of_lesser_number least (filter p jobs) ≡ Some j → (least ≡ Some j) ⊎ IsIn j jobs
lesser-there p [] least j e = inl e
lesser-there p (x ∷ xs) least j e = lesser-on (p x) x xs (filter p xs) least j (λ from is. lesser-there p xs from j is) e

pub idle-there : (sbs pgm : QName) (jobs : List Job) (j : Job) → first_idle sbs pgm jobs ≡ Some j → IsIn j jobs
idle-there sbs pgm jobs j e = elim (lesser-there (is_idle_in sbs pgm) jobs None j e) as (λ _. IsIn j jobs) [ inl none ↦ absurd (cc none) | inr there ↦ there ]
