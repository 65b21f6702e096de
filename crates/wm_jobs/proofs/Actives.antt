-- Which active job a look from a serial on finds.
use Rattle.std.proofs.Common.{◌≡◌, ◌∙◌, ℕ, Bool, true, false, not, ◌&&◌, cond, List, [], ◌∷◌, Option, Some, None, option_map, refl, ap, arith, nat_le}
use Rattle.std.specs.List.{find, cons_option}
use Rattle.std.specs.Ordering.{nat_cmp, is_lt}
use Rattle.std.proofs.lemmas.Bool.Decides.{nat_tests}
use Rattle.wm_indexes.specs.declared.acting.Acting.{Acting}
use Rattle.wm_law.specs.declared.job.Job.{Job}
use Rattle.wm_law.specs.Counts.{is_active}
use Rattle.wm_ordered.specs.Ordered.{key_of, first_from}
use Rattle.wm_jobs.specs.Indexed.{acting_of, actives}
use Rattle.wm_jobs.specs.Table.{serial_of}

-- the job is active, and its serial isn't below that one
abbrev pub is_from : ℕ → Job → Bool
is_from s j = is_active j.phase && nat_le s j.serial

-- a row as an active job has it
abbrev pub row_of : Job → ℕ × Acting
row_of j = (j.serial, acting_of j.phase j.wish)

same-test : (s n : ℕ) → not (is_lt (nat_cmp n s)) ≡ nat_le s n
same-test s n = grind (arith, nat_tests)

look : (b : Bool) (e : ℕ × Acting) (es : List (ℕ × Acting)) (s : ℕ) → first_from nat_cmp s (cons_option (cond b (Some e) None) es) ≡ cond b (cond (not (is_lt (nat_cmp e.0 s))) (Some e) (first_from nat_cmp s es)) (first_from nat_cmp s es)
look true e es s = refl
look false e es s = refl

found-by : (b c : Bool) (j : Job) (rest : Option (ℕ × Acting)) (found : Option Job) → rest ≡ option_map row_of found → cond b (cond c (Some (row_of j)) rest) rest ≡ option_map row_of (cond (b && c) (Some j) found)
found-by true true j rest found same = refl
found-by true false j rest found same = same
found-by false c j rest found same = same

-- the row that is found is that of the job which the definition finds
found-row : (s : ℕ) (jobs : List Job) → first_from nat_cmp s (actives jobs) ≡ option_map row_of (find (is_from s) jobs)
found-row s [] = refl
found-row s (j ∷ js) =
    look (is_active j.phase) (row_of j) (actives js) s
    ∙ (ap (λ c. cond (is_active j.phase) (cond c (Some (row_of j)) (first_from nat_cmp s (actives js))) (first_from nat_cmp s (actives js))) (same-test s j.serial)
    ∙ found-by (is_active j.phase) (nat_le s j.serial) j (first_from nat_cmp s (actives js)) (find (is_from s) js) (found-row s js))

serial-in : (found : Option Job) → option_map key_of (option_map row_of found) ≡ option_map serial_of found
serial-in None = refl
serial-in (Some j) = refl

-- and so is its serial
pub from-serial : (s : ℕ) (jobs : List Job) → option_map key_of (first_from nat_cmp s (actives jobs)) ≡ option_map serial_of (find (is_from s) jobs)
from-serial s jobs = ap (option_map key_of) (found-row s jobs) ∙ serial-in (find (is_from s) jobs)
