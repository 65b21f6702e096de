-- How many of some jobs, or of some rows of jobs, pass a test, and the sum of their serials.
use Rattle.std.proofs.Common.{◌≡◌, ℕ, zero, suc, ◌+◌, ◌-◌, ◌%◌, ◌^◌, ◌<◌, ◌≤◌, Bool, true, false, cond, List, [], ◌∷◌, ◌++◌, length, take, drop, get_or, All, sum_by, filter, count_by, Some, Ok, Err, refl, ap, sym, ◌∙◌, subst, arith}
use Rattle.std.proofs.Math.Nat.{mod-add-mod, add-mod_right, mod-eq_of_lt, mod-lt}
use Rattle.std.proofs.Math.Seq.{split_at}
use Rattle.std.specs.List.{insert, remove}
use Rattle.std.proofs.lemmas.List.{take-append-drop}
use Rattle.std.proofs.lemmas.List.Elements.{All-head, All-tail, All-cons, All-pop, All-filter}
use Rattle.std.proofs.lemmas.List.Sums.{sum_by-cons, length-filter, count_by-le-length}
use Rattle.wm_base.specs.declared.refusal.Refusal.TheVariants.{Ambiguous, NoJob}
use Rattle.wm_law.specs.declared.job.Job.{Job}
use Rattle.wm_law.specs.Named.{only_one}
use Rattle.wm_indexes.specs.declared.namesakes.Namesakes.{Namesakes}
use Rattle.wm_indexes.specs.Namesakes.{joined, parted, namesakes_among, only, only_of, IsAmong}
use Rattle.wm_indexes.specs.Names.{serial_of_one}

pair : (a b c d : ℕ) → a ≡ c → b ≡ d → ◌≡◌ {A = Namesakes} (record { count = a; serials = b }) (record { count = c; serials = d })
pair a b c d e f = ap (λ (n : ℕ). record { count = n; serials = b }) e ∙ ap (λ (n : ℕ). record { count = c; serials = n }) f

-- two serials join a sum in any order
sum-swap : (n s t m : ℕ) → ((n + s) % m + t) % m ≡ ((n + t) % m + s) % m
sum-swap n s t m =
    let other : n + s + t ≡ n + t + s = omega arith in
    mod-add-mod (n + s) m t ∙ (ap (λ (k : ℕ). k % m) other ∙ sym (mod-add-mod (n + t) m s))

-- a serial that joined a sum and left it again
sum-back : (n s m : ℕ) → s < m → n < m → ((n + s) % m + (m - s)) % m ≡ n
sum-back n s m le lt =
    let whole : n + s + (m - s) ≡ n + m = omega arith in
    mod-add-mod (n + s) m (m - s) ∙ (ap (λ (k : ℕ). k % m) whole ∙ (add-mod_right n m ∙ mod-eq_of_lt lt))

-- two jobs join in any order
joined-swap : (a b : Bool) (s t : ℕ) (row : Namesakes) → joined a s (joined b t row) ≡ joined b t (joined a s row)
joined-swap true true s t row =
    pair (row.count + 1 + 1) (((row.serials + t) % 2 ^ 64 + s) % 2 ^ 64) (row.count + 1 + 1) (((row.serials + s) % 2 ^ 64 + t) % 2 ^ 64) refl (sum-swap row.serials t s (2 ^ 64))
joined-swap true false s t row = refl
joined-swap false true s t row = refl
joined-swap false false s t row = refl

-- a job that joined and left again
pub parted-joined : (b : Bool) (s : ℕ) (row : Namesakes) → s < 2 ^ 64 → row.serials < 2 ^ 64 → parted b s (joined b s row) ≡ row
parted-joined true s row lt below =
    pair (row.count + 1 - 1) (((row.serials + s) % 2 ^ 64 + (2 ^ 64 - s)) % 2 ^ 64) row.count row.serials (omega arith) (sum-back row.serials s (2 ^ 64) lt below)
parted-joined false s row lt below = refl

-- one that leaves isn't counted again
pub parted-fewer : (b : Bool) (s : ℕ) (row : Namesakes) → (parted b s row).count ≤ row.count
parted-fewer true s row = omega arith
parted-fewer false s row = omega arith

module _ {E : Type 0} (serial_of : E → ℕ) where
  abbrev pub IsSmall : E → Type 0
  IsSmall e = serial_of e < 2 ^ 64

  abbrev pub serials_of : List E → ℕ
  serials_of xs = sum_by serial_of xs

  module _ (p : E → Bool) where
    abbrev pub total : List E → Namesakes
    total xs = namesakes_among serial_of p xs

    total_by : (b : Bool) (e : E) (xs : List E) → ◌≡◌ {A = Namesakes} (record { count = cond b 1 0 + count_by p xs; serials = serials_of (cond b (e ∷ filter p xs) (filter p xs)) % 2 ^ 64 }) (joined b (serial_of e) (total xs))
    total_by true e xs =
        let n : ℕ = serials_of (filter p xs) in
        let sum : serials_of (e ∷ filter p xs) ≡ n + serial_of e = omega (arith, sum_by-cons serial_of e (filter p xs)) in
        pair (1 + count_by p xs) (serials_of (e ∷ filter p xs) % 2 ^ 64) (count_by p xs + 1) ((n % 2 ^ 64 + serial_of e) % 2 ^ 64) (omega arith)
        (ap (λ (k : ℕ). k % 2 ^ 64) sum ∙ sym (mod-add-mod n (2 ^ 64) (serial_of e)))
    total_by false e xs = pair (0 + count_by p xs) (serials_of (filter p xs) % 2 ^ 64) (count_by p xs) (serials_of (filter p xs) % 2 ^ 64) (omega arith) refl

    total-cons : (e : E) (xs : List E) → total (e ∷ xs) ≡ joined (p e) (serial_of e) (total xs)
    total-cons e xs =
        ap (λ (n : ℕ). record { count = n; serials = serials_of (filter p (e ∷ xs)) % 2 ^ 64 }) (sum_by-cons (λ (x : E). cond (p x) 1 0) e xs) ∙ total_by (p e) e xs

    -- one of some joins the others
    pub total-middle : (before : List E) (e : E) (behind : List E) → total (before ++ e ∷ behind) ≡ joined (p e) (serial_of e) (total (before ++ behind))
    total-middle [] e behind = total-cons e behind
    total-middle (x ∷ before) e behind =
        total-cons x (before ++ e ∷ behind)
        ∙ (ap (λ (r : Namesakes). joined (p x) (serial_of x) r) (total-middle before e behind)
        ∙ (joined-swap (p x) (p e) (serial_of x) (serial_of e) (total (before ++ behind)) ∙ ap (λ (r : Namesakes). joined (p e) (serial_of e) r) (sym (total-cons x (before ++ behind)))))

    all_nil : (xs : List E) → xs ++ [] ≡ xs
    all_nil [] = refl
    all_nil (x ∷ xs) = ap (λ l. x ∷ l) (all_nil xs)

    -- one more
    pub total-push : (xs : List E) (e : E) → total (xs ++ e ∷ []) ≡ joined (p e) (serial_of e) (total xs)
    total-push xs e = total-middle xs e [] ∙ ap (λ (l : List E). joined (p e) (serial_of e) (total l)) (all_nil xs)

    -- the sum is below 2^64
    pub total-below : (xs : List E) → (total xs).serials < 2 ^ 64
    total-below xs = mod-lt (serials_of (filter p xs)) (omega arith)

    -- one that leaves is no more among them
    pub total-parted : (before : List E) (e : E) (behind : List E) → IsSmall e → parted (p e) (serial_of e) (total (before ++ e ∷ behind)) ≡ total (before ++ behind)
    total-parted before e behind lt =
        ap (λ (r : Namesakes). parted (p e) (serial_of e) r) (total-middle before e behind) ∙ parted-joined (p e) (serial_of e) (total (before ++ behind)) lt (total-below (before ++ behind))

    pub total-pop : (xs : List E) (e : E) → IsSmall e → parted (p e) (serial_of e) (total (xs ++ e ∷ [])) ≡ total xs
    total-pop xs e lt = ap (λ (r : Namesakes). parted (p e) (serial_of e) r) (total-push xs e) ∙ parted-joined (p e) (serial_of e) (total xs) lt (total-below xs)

    -- one that fails the test is passed over
    pub total-pass : (before : List E) (e : E) (behind : List E) → p e ≡ false → total (before ++ e ∷ behind) ≡ total (before ++ behind)
    total-pass before e behind h = total-middle before e behind ∙ ap (λ (b : Bool). joined b (serial_of e) (total (before ++ behind))) h

    joined-none : (b : Bool) (s : ℕ) (row : Namesakes) → (joined b s row).count ≡ 0 → (row.count ≡ 0 → row.serials ≡ 0) → (joined b s row).serials ≡ 0
    joined-none true s row none h = absurd (omega (arith, none))
    joined-none false s row none h = h none

    -- none has no serials
    total-none : (xs : List E) → (total xs).count ≡ 0 → (total xs).serials ≡ 0
    total-none [] none = refl
    total-none (x ∷ xs) none =
        let is = total-cons x xs in
        ap (λ (r : Namesakes). r.serials) is ∙ joined-none (p x) (serial_of x) (total xs) (sym (ap (λ (r : Namesakes). r.count) is) ∙ none) (total-none xs)

    alone_by : (n s : ℕ) → n ≡ 0 → n + s ≡ s
    alone_by n s e = omega (arith, e)

    among : (b : Bool) (s : ℕ) (row : Namesakes) → b ≡ true → s < 2 ^ 64 → (row.count ≡ 0 → row.serials ≡ 0) → IsAmong s (joined b s row)
    among true s row e lt none = record { some = omega arith; alone = λ one. ap (λ (n : ℕ). n % 2 ^ 64) (alone_by row.serials s (none (omega (arith, one)))) ∙ mod-eq_of_lt lt }
    among false s row e lt none = absurd (subst (λ c. cond c ⊥ (Unit {0})) e tt)

    -- one that passes the test is among those that do
    pub total-among : (before : List E) (e : E) (behind : List E) → IsSmall e → p e ≡ true → IsAmong (serial_of e) (total (before ++ e ∷ behind))
    total-among before e behind lt h =
        subst (λ (r : Namesakes). IsAmong (serial_of e) r) (sym (total-middle before e behind)) (among (p e) (serial_of e) (total (before ++ behind)) h lt (total-none (before ++ behind)))

    pub total-at : (xs : List E) (i : ℕ) (d : E) → i < length xs → IsSmall (get_or xs i d) → p (get_or xs i d) ≡ true → IsAmong (serial_of (get_or xs i d)) (total xs)
    total-at xs i d in_range lt h =
        let e : E = get_or xs i d in
        subst (λ (ys : List E). IsAmong (serial_of e) (total ys)) (sym (split_at xs i d in_range)) (total-among (take i xs) e (drop (suc i) xs) lt h)

    -- one that is put in
    pub total-insert : (xs : List E) (i : ℕ) (e : E) → total (insert xs i e) ≡ joined (p e) (serial_of e) (total xs)
    total-insert xs i e = total-middle (take i xs) e (drop i xs) ∙ ap (λ (l : List E). joined (p e) (serial_of e) (total l)) (take-append-drop i xs)

    -- one that is taken out
    pub total-remove : (xs : List E) (i : ℕ) (e : E) → i < length xs → get_or xs i e ≡ e → IsSmall e → total (remove xs i) ≡ parted (p e) (serial_of e) (total xs)
    total-remove xs i e in_range is lt =
        let parts = split_at xs i e in_range ∙ ap (λ (x : E). take i xs ++ x ∷ drop (suc i) xs) is in
        sym (ap (λ (ys : List E). parted (p e) (serial_of e) (total ys)) parts ∙ total-parted (take i xs) e (drop (suc i) xs) lt)

    -- no more than there are
    pub total-few : (xs : List E) → (total xs).count ≤ length xs
    total-few xs = count_by-le-length p xs

abbrev pub job_serial : Job → ℕ
job_serial j = j.serial

only-list : (jobs : List Job) → All (IsSmall job_serial) jobs → only_of (length jobs) (serials_of job_serial jobs % 2 ^ 64) ≡ serial_of_one (only_one jobs)
only-list [] small = refl
only-list (j ∷ []) small =
    let sum : serials_of job_serial (j ∷ []) ≡ j.serial = sum_by-cons job_serial j [] ∙ omega arith in
    ap (λ (n : ℕ). Ok (n % 2 ^ 64)) sum ∙ ap Ok (mod-eq_of_lt (All-head (IsSmall job_serial) j [] small))
only-list (j ∷ k ∷ jobs) small =
    let several : suc (suc (length jobs)) ≡ length jobs + 2 = omega arith in
    ap (λ (n : ℕ). Err (Ambiguous n)) several

-- the only one of those that pass the test
pub total-only : (p : Job → Bool) (jobs : List Job) → All (IsSmall job_serial) jobs → only (total job_serial p jobs) ≡ serial_of_one (only_one (filter p jobs))
total-only p jobs small =
    ap (λ (n : ℕ). only_of n (serials_of job_serial (filter p jobs) % 2 ^ 64)) (sym (length-filter p jobs)) ∙ only-list (filter p jobs) (All-filter p (IsSmall job_serial) jobs small)

only-none_by : (n serials : ℕ) → n ≡ 0 → only_of n serials ≡ Err NoJob
only-none_by zero serials e = refl
only-none_by (suc n) serials e = absurd (omega (arith, e))

only-one_by : (n serials : ℕ) → n ≡ 1 → only_of n serials ≡ Ok serials
only-one_by zero serials e = absurd (omega (arith, e))
only-one_by (suc zero) serials e = refl
only-one_by (suc (suc n)) serials e = absurd (omega (arith, e))

only-several_by : (n serials : ℕ) → 2 ≤ n → only_of n serials ≡ Err (Ambiguous n)
only-several_by zero serials h = absurd (omega (arith, h))
only-several_by (suc zero) serials h = absurd (omega (arith, h))
only-several_by (suc (suc n)) serials h = refl

-- the only one of none, of one and of several
module _ (row : Namesakes) where
  pub only-none : row.count ≡ 0 → only row ≡ Err NoJob
  only-none e = only-none_by row.count row.serials e

  pub only-one : row.count ≡ 1 → only row ≡ Ok row.serials
  only-one e = only-one_by row.count row.serials e

  pub only-several : 2 ≤ row.count → only row ≡ Err (Ambiguous row.count)
  only-several h = only-several_by row.count row.serials h

-- the serials of jobs where another stands in the place of one
pub small-replaced : (before : List Job) (j k : Job) (behind : List Job) → k.serial ≡ j.serial → All (IsSmall job_serial) (before ++ j ∷ behind) → All (IsSmall job_serial) (before ++ k ∷ behind)
small-replaced [] j k behind e small = All-cons (IsSmall job_serial) k behind (subst (λ (n : ℕ). n < 2 ^ 64) (sym e) (All-head (IsSmall job_serial) j behind small)) (All-tail (IsSmall job_serial) j behind small)
small-replaced (i ∷ before) j k behind e small =
    All-cons (IsSmall job_serial) i (before ++ k ∷ behind) (All-head (IsSmall job_serial) i (before ++ j ∷ behind) small) (small-replaced before j k behind e (All-tail (IsSmall job_serial) i (before ++ j ∷ behind) small))

pub small-middle : (before : List Job) (j : Job) (behind : List Job) → All (IsSmall job_serial) (before ++ j ∷ behind) → IsSmall job_serial j
small-middle [] j behind small = All-head (IsSmall job_serial) j behind small
small-middle (i ∷ before) j behind small = small-middle before j behind (All-tail (IsSmall job_serial) i (before ++ j ∷ behind) small)

pub small-push : (jobs : List Job) (j : Job) → IsSmall job_serial j → All (IsSmall job_serial) jobs → All (IsSmall job_serial) (jobs ++ j ∷ [])
small-push [] j lt small = All-cons (IsSmall job_serial) j [] lt small
small-push (i ∷ jobs) j lt small = All-cons (IsSmall job_serial) i (jobs ++ j ∷ []) (All-head (IsSmall job_serial) i jobs small) (small-push jobs j lt (All-tail (IsSmall job_serial) i jobs small))

pub small-front : (jobs : List Job) (j : Job) → All (IsSmall job_serial) (jobs ++ j ∷ []) → All (IsSmall job_serial) jobs
small-front jobs j small = (All-pop (IsSmall job_serial) (jobs ++ j ∷ []) jobs (Some j) refl small).0
