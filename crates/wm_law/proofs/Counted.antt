-- How far a change to one job raises a count.
use Rattle.std.proofs.Common.{◌≡◌, ℕ, ◌≤◌, ◌+◌, ◌++◌, ◌==◌, Bool, true, false, cond, List, [], ◌∷◌, map, refl, sym, ap, subst, inl, inr, arith}
use Rattle.std.specs.List.{count_by}
use Rattle.std.proofs.lemmas.List.Sums.{sum_by-cons}
use Rattle.std.proofs.lemmas.Bool.{eqb-true}
use Rattle.wm_law.specs.declared.job.Job.{Job}
use Rattle.wm_law.specs.Jobs.{changed_at}
use Rattle.wm_law.specs.Kept.{IsDistinct}
use Rattle.wm_law.specs.Laws.{IsIn}

abbrev number : Bool → ℕ
number b = cond b 1 0

most : (b : Bool) → number b ≤ 1
most true = omega arith
most false = omega arith

-- one for a job that passes the test
abbrev pub one : (Job → Bool) → Job → ℕ
one test j = cond (test j) 1 0

pub one_most : (test : Job → Bool) (j : Job) → one test j ≤ 1
one_most test j = most (test j)

same_at : (test : Job → Bool) (change : Job → Job) (t : Bool) (j : Job) → (t ≡ true → ⊥) → one test (cond t (change j) j) ≤ one test j
same_at test change true j h = absurd (h refl)
same_at test change false j h = omega arith

-- a change to the job of a serial that no job has raises no count
untouched : (test : Job → Bool) (serial : ℕ) (change : Job → Job) (jobs : List Job) → (IsIn serial (map (λ j. j.serial) jobs) → ⊥) → count_by test (map (changed_at serial change) jobs) ≤ count_by test jobs
untouched test serial change [] h = omega arith
untouched test serial change (j ∷ jobs) h =
    let this = same_at test change (j.serial == serial) j (λ e. h (inl (sym (eqb-true j.serial serial e)))) in
    let rest = untouched test serial change jobs (λ i. h (inr i)) in
    rw (sum_by-cons (one test) (changed_at serial change j) (map (changed_at serial change) jobs), sum_by-cons (one test) j jobs) (omega arith)

no_more_at : (test : Job → Bool) (change : Job → Job) → ((j : Job) → test (change j) ≡ false) → (t : Bool) (j : Job) → one test (cond t (change j) j) ≤ one test j
no_more_at test change h true j =
    let none : one test (change j) ≡ 0 = ap (λ (b : Bool). cond b 1 0) (h j) in
    omega arith
no_more_at test change h false j = omega arith

-- a change after which the job doesn't pass the test raises no count
pub no_more : (test : Job → Bool) (serial : ℕ) (change : Job → Job) → ((j : Job) → test (change j) ≡ false) → (jobs : List Job) → count_by test (map (changed_at serial change) jobs) ≤ count_by test jobs
no_more test serial change h [] = omega arith
no_more test serial change h (j ∷ jobs) =
    let this = no_more_at test change h (j.serial == serial) j in
    let rest = no_more test serial change h jobs in
    rw (sum_by-cons (one test) (changed_at serial change j) (map (changed_at serial change) jobs), sum_by-cons (one test) j jobs) (omega arith)

added : (test : Job → Bool) (serial : ℕ) (change : Job → Job) (j : Job) (jobs : List Job) (t : Bool) → (j.serial == serial) ≡ t → (IsIn j.serial (map (λ k. k.serial) jobs) → ⊥) → count_by test (map (changed_at serial change) jobs) ≤ count_by test jobs + 1
    → one test (cond t (change j) j) + count_by test (map (changed_at serial change) jobs) ≤ one test j + count_by test jobs + 1
added test serial change j jobs true e n h =
    let same = eqb-true j.serial serial e in
    let rest = untouched test serial change jobs (λ i. n (subst (λ (x : ℕ). IsIn x (map (λ (k : Job). k.serial) jobs)) (sym same) i)) in
    let this = one_most test (change j) in
    omega arith
added test serial change j jobs false e n h = omega arith

-- a change to one job raises a count by one at most
pub one_more : (test : Job → Bool) (serial : ℕ) (change : Job → Job) (jobs : List Job) → IsDistinct (map (λ j. j.serial) jobs) → count_by test (map (changed_at serial change) jobs) ≤ count_by test jobs + 1
one_more test serial change [] d = omega arith
one_more test serial change (j ∷ jobs) d =
    let both = added test serial change j jobs (j.serial == serial) refl d.0 (one_more test serial change jobs d.1) in
    rw (sum_by-cons (one test) (changed_at serial change j) (map (changed_at serial change) jobs), sum_by-cons (one test) j jobs) (omega arith)

passes : (a b : Bool) → (a ≡ true → b ≡ true) → number a ≤ number b
passes true true h = omega arith
passes true false h = let e = h refl in absurd (cc)
passes false b h = omega arith

-- a count is no less than another, where what passes that one's test passes this one's once it is changed
pub no_fewer : (p q : Job → Bool) (g : Job → Job) (jobs : List Job) → ((i : Job) → IsIn i jobs → p i ≡ true → q (g i) ≡ true) → count_by p jobs ≤ count_by q (map g jobs)
no_fewer p q g [] h = omega arith
no_fewer p q g (j ∷ jobs) h =
    let this : one p j ≤ one q (g j) = passes (p j) (q (g j)) (h j (inl refl)) in
    let rest = no_fewer p q g jobs (λ i m. h i (inr m)) in
    rw (sum_by-cons (one q) (g j) (map g jobs), sum_by-cons (one p) j jobs) (omega arith)

-- nor more, where what passes the test once it is changed passed it before
pub no_more_each : (test : Job → Bool) (g : Job → Job) → ((i : Job) → test (g i) ≡ true → test i ≡ true) → (jobs : List Job) → count_by test (map g jobs) ≤ count_by test jobs
no_more_each test g h [] = omega arith
no_more_each test g h (j ∷ jobs) =
    let this : one test (g j) ≤ one test j = passes (test (g j)) (test j) (h j) in
    let rest = no_more_each test g h jobs in
    rw (sum_by-cons (one test) (g j) (map g jobs), sum_by-cons (one test) j jobs) (omega arith)

-- one job more
pub count_last : (test : Job → Bool) (jobs : List Job) (j : Job) → count_by test (jobs ++ j ∷ []) ≡ count_by test jobs + one test j
count_last test [] j = rw (sum_by-cons (one test) j []) (omega arith)
count_last test (k ∷ jobs) j =
    let rest = count_last test jobs j in
    rw (sum_by-cons (one test) k (jobs ++ j ∷ []), sum_by-cons (one test) k jobs) (omega arith)
