-- The walk over the active jobs goes over each of them, and what is shown of them is theirs.
use Rattle.std.proofs.Common.{◌≡◌, ◌∙◌, ◌&&◌, ℕ, suc, ◌+◌, ◌<◌, ◌≤◌, Bool, true, false, cond, List, [], ◌∷◌, map, filter, Option, Some, None, nat_le, refl, sym, ap, arith}
use Rattle.std.specs.List.{find}
use Rattle.std.specs.Ordering.{nat_cmp}
use Rattle.std.proofs.lemmas.Bool.Decides.{nat_tests}
use Rattle.std.proofs.lemmas.Bool.{leb-true, and_parts, le-leb}
use Rattle.wm_base.specs.declared.qname.QName.{QName}
use Rattle.wm_desc.specs.Sorted.{IsSortedOnce}
use Rattle.wm_law.specs.declared.job.Job.{Job}
use Rattle.wm_law.specs.declared.state.Sbs.{Sbs}
use Rattle.wm_law.specs.declared.state.State.{State}
use Rattle.wm_law.specs.Counts.{is_active, is_in_sbs}
use Rattle.wm_law.specs.Laws.{IsIn}
use Rattle.wm_law.proofs.Members.{found_among, All-in, left_same}
use Rattle.wm_jobs.specs.Table.{serial_of}
use Rattle.wm_jobs.proofs.Actives.{is_from}
use Rattle.wm_jobs.proofs.Splits.{above-head}
use Rattle.wm_views.specs.declared.shown.ActiveLine.{ActiveLine}
use Rattle.wm_views.specs.declared.shown.Hosted.{Hosted}
use Rattle.wm_views.specs.declared.shown.JobLine.{JobLine}
use Rattle.wm_views.specs.Hosts.{hosted, hosted_jobs, lines_in, line_among}
use Rattle.wm_views.specs.Lines.{job_line}
use Rattle.wm_views.specs.Sorted.{sorted}
use Rattle.wm_views.specs.Views.{active_line, by_number, is_active_in, is_ending}

is_least : (n : ℕ) → nat_le 0 n ≡ true
is_least n = grind (arith, nat_tests)

both_from : (b c : Bool) → c ≡ true → (b && c) ≡ b
both_from true c h = h
both_from false c h = refl

-- from 0 on there are all active jobs
pub from_first : (jobs : List Job) → filter (λ j. is_active j.phase) jobs ≡ filter (is_from 0) jobs
from_first jobs = left_same (is_from 0) (λ j. is_active j.phase) jobs (λ x i. sym (both_from (is_active x.phase) (nat_le 0 x.serial) (is_least x.serial)))

not_from : (b : Bool) (m n : ℕ) → n < m → (b && nat_le m n) ≡ false
not_from true m n h = grind (arith, nat_tests)
not_from false m n h = refl

-- above a job that is found, each job of a greater serial is from both on
from_both : (b : Bool) (from n m : ℕ) → from ≤ n → n < m → (b && nat_le from m) ≡ (b && nat_le (n + 1) m)
from_both b from n m low high = both_from b (nat_le from m) (le-leb from m (omega arith)) ∙ sym (both_from b (nat_le (n + 1) m) (le-leb (n + 1) m (omega arith)))

above : (x z : Job) (xs : List Job) → IsSortedOnce serial_of nat_cmp (x ∷ xs) → IsIn z xs → x.serial < z.serial
above x z xs order i = All-in (λ (k : Job). x.serial < k.serial) xs z (above-head serial_of 0 x xs order) i

later : (x : Job) (xs : List Job) → IsSortedOnce serial_of nat_cmp (x ∷ xs) → IsSortedOnce serial_of nat_cmp xs
later x xs order = λ a b d lt in_range. order (suc a) (suc b) d (omega arith) (omega arith)

-- the first that is found, and those from its successor on
next_by : (b : Bool) (from : ℕ) (x y : Job) (xs : List Job) → IsSortedOnce serial_of nat_cmp (x ∷ xs) → is_from from x ≡ b → cond b (Some x) (find (is_from from) xs) ≡ Some y
    → (find (is_from from) xs ≡ Some y → filter (is_from from) xs ≡ y ∷ filter (is_from (y.serial + 1)) xs)
    → cond b (x ∷ filter (is_from from) xs) (filter (is_from from) xs) ≡ y ∷ filter (is_from (y.serial + 1)) (x ∷ xs)
next_by true from x y xs order e found rest =
    let same : x ≡ y = cc in
    let low : from ≤ x.serial = leb-true from x.serial (and_parts (is_active x.phase) (nat_le from x.serial) e).1 in
    let behind : is_from (x.serial + 1) x ≡ false = not_from (is_active x.phase) (x.serial + 1) x.serial (omega arith) in
    let tail : filter (is_from from) xs ≡ filter (is_from (x.serial + 1)) xs =
    left_same (is_from (x.serial + 1)) (is_from from) xs (λ z i. from_both (is_active z.phase) from x.serial z.serial low (above x z xs order i)) in
    let whole : filter (is_from (x.serial + 1)) (x ∷ xs) ≡ filter (is_from (x.serial + 1)) xs =
    ap (λ (t : Bool). cond t (x ∷ filter (is_from (x.serial + 1)) xs) (filter (is_from (x.serial + 1)) xs)) behind in
    ap (λ (l : List Job). x ∷ l) (tail ∙ sym whole) ∙ ap (λ (k : Job). k ∷ filter (is_from (k.serial + 1)) (x ∷ xs)) same
next_by false from x y xs order e found rest =
    let up : x.serial < y.serial = above x y xs order (found_among (is_from from) xs y found).0 in
    let behind : is_from (y.serial + 1) x ≡ false = not_from (is_active x.phase) (y.serial + 1) x.serial (omega arith) in
    let whole : filter (is_from (y.serial + 1)) (x ∷ xs) ≡ filter (is_from (y.serial + 1)) xs =
    ap (λ (t : Bool). cond t (x ∷ filter (is_from (y.serial + 1)) xs) (filter (is_from (y.serial + 1)) xs)) behind in
    rest found ∙ ap (λ (l : List Job). y ∷ l) (sym whole)

-- the active jobs from a serial on are the one that a look finds, and those from its successor on
pub next_active : (jobs : List Job) (from : ℕ) (y : Job) → IsSortedOnce serial_of nat_cmp jobs → find (is_from from) jobs ≡ Some y → filter (is_from from) jobs ≡ y ∷ filter (is_from (y.serial + 1)) jobs
next_active [] from y order found = absurd (cc found)
next_active (x ∷ xs) from y order found = next_by (is_from from x) from x y xs order refl found (next_active xs from y (later x xs order))

none_by : (b : Bool) (x : Job) (o : Option Job) (l : List Job) → cond b (Some x) o ≡ None → (o ≡ None → l ≡ []) → cond b (x ∷ l) l ≡ []
none_by true x o l none rest = absurd (cc none)
none_by false x o l none rest = rest none

-- where a look finds none, there is none
pub no_active : (jobs : List Job) (from : ℕ) → find (is_from from) jobs ≡ None → filter (is_from from) jobs ≡ []
no_active [] from none = refl
no_active (x ∷ xs) from none = none_by (is_from from x) x (find (is_from from) xs) (filter (is_from from) xs) none (no_active xs from)

module _ (sbs : QName) (clock : ℕ) where
  abbrev line_of : Hosted → JobLine
  line_of h = h.line

  abbrev own : Hosted → Bool
  own h = is_in_sbs sbs h.how

  lines_by : (a b : Bool) (x : Job) (active its : List Job) → is_in_sbs sbs x.how ≡ b → lines_in sbs (map (hosted clock) active) ≡ map (job_line clock) its
      → lines_in sbs (map (hosted clock) (cond a (x ∷ active) active)) ≡ map (job_line clock) (cond (a && b) (x ∷ its) its)
  lines_by true true x active its e rest =
      let others : List Hosted = filter own (map (hosted clock) active) in
      ap (λ (t : Bool). map line_of (cond t (hosted clock x ∷ others) others)) e ∙ ap (λ (l : List JobLine). job_line clock x ∷ l) rest
  lines_by true false x active its e rest =
      let others : List Hosted = filter own (map (hosted clock) active) in
      ap (λ (t : Bool). map line_of (cond t (hosted clock x ∷ others) others)) e ∙ rest
  lines_by false b x active its e rest = rest

  -- a subsystem's lines are those of its active jobs
  own_lines : (jobs : List Job) → lines_in sbs (hosted_jobs clock jobs) ≡ map (job_line clock) (filter (is_active_in sbs) jobs)
  own_lines [] = refl
  own_lines (x ∷ xs) = lines_by (is_active x.phase) (is_in_sbs sbs x.how) x (filter (λ j. is_active j.phase) xs) (filter (is_active_in sbs) xs) refl (own_lines xs)

abbrev with_lines : Sbs → List JobLine → ActiveLine
with_lines b lines = record { sbs = b.sbsd; ending = is_ending b; jobs = sorted by_number lines }

same_line : (s : State) (b : Sbs) → line_among (hosted_jobs s.clock s.jobs) b ≡ active_line s b
same_line s b = ap (with_lines b) (own_lines b.sbsd s.clock s.jobs)

-- so what is shown of each subsystem is the same
pub same_lines : (s : State) (list : List Sbs) → map (line_among (hosted_jobs s.clock s.jobs)) list ≡ map (active_line s) list
same_lines s [] = refl
same_lines s (b ∷ bs) = cc (same_line s b, same_lines s bs)
