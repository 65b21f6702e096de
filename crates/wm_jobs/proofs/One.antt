-- A job in the list is the one that is found by its serial.
use Rattle.std.proofs.Common.{◌≡◌, ◌∙◌, ◌==◌, ◌<◌, ℕ, suc, Bool, cond, List, [], ◌∷◌, Option, Some, None, option_map, refl, ap, sym, subst, inl, inr, arith}
use Rattle.std.specs.List.{find}
use Rattle.std.specs.Ordering.{nat_cmp}
use Rattle.std.proofs.lemmas.Bool.{eq-eqb}
use Rattle.wm_desc.specs.Sorted.{IsSortedOnce}
use Rattle.wm_law.specs.declared.job.Job.{Job}
use Rattle.wm_law.specs.Laws.{IsIn}
use Rattle.wm_law.proofs.Members.{found_among, All-in}
use Rattle.wm_jobs.specs.Table.{serial_of}
use Rattle.wm_jobs.proofs.Sifted.{differs}
use Rattle.wm_jobs.proofs.Splits.{above-head}

pub found-one : (jobs : List Job) (j : Job) → IsSortedOnce serial_of nat_cmp jobs → IsIn j jobs → find (λ (k : Job). k.serial == j.serial) jobs ≡ Some j
found-one [] j sorted i = absurd i
found-one (k ∷ ks) j sorted (inl e) =
    let same : k.serial ≡ j.serial = sym (ap serial_of e) in
    let rest : Option Job = find (λ (l : Job). l.serial == j.serial) ks in
    ap (λ b. cond b (Some k) rest) (eq-eqb k.serial j.serial same) ∙ ap (λ (l : Job). Some l) (sym e)
found-one (k ∷ ks) j sorted (inr i) =
    let above : k.serial < j.serial = All-in (λ (l : Job). k.serial < l.serial) ks j (above-head serial_of 0 k ks sorted) i in
    let rest : Option Job = find (λ (l : Job). l.serial == j.serial) ks in
    ap (λ b. cond b (Some k) rest) (differs k.serial j.serial (λ q. omega arith)) ∙ found-one ks j (λ a b d lt in_range. sorted (suc a) (suc b) d (omega arith) (omega arith)) i

-- where no serial is found, no job is
pub none-found : (found : Option Job) → option_map serial_of found ≡ None → found ≡ None
none-found None e = refl
none-found (Some j) e = absurd (cc e)

pub some-found : (found : Option Job) (n : ℕ) → option_map serial_of found ≡ Some n → (j : Job) × (found ≡ Some j) × (j.serial ≡ n)
some-found None n e = absurd (cc e)
some-found (Some j) n e = (j, refl, cc e)

-- the job of the serial of one that is found is that one
pub serial-found : (test : Job → Bool) (n : ℕ) (jobs : List Job) → IsSortedOnce serial_of nat_cmp jobs → option_map serial_of (find test jobs) ≡ Some n → find (λ (k : Job). k.serial == n) jobs ≡ find test jobs
serial-found test n jobs sorted is =
    let there = some-found (find test jobs) n is in
    subst (λ (m : ℕ). find (λ (k : Job). k.serial == m) jobs ≡ Some there.0) there.2 (found-one jobs there.0 sorted (found_among test jobs there.0 there.1).0) ∙ sym there.1
