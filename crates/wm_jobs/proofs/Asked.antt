-- What the wishes of active jobs ask for.
use Rattle.std.proofs.Common.{◌≡◌, ◌∙◌, ℕ, ◌+◌, Bool, true, false, ◌&&◌, ◌==◌, cond, List, [], ◌∷◌, fold, Option, Some, None, option_map, refl, ap, sym, arith}
use Rattle.std.specs.List.{find, cons_option}
use Rattle.std.proofs.lemmas.List.Sums.{sum_by-cons}
use Rattle.wm_indexes.specs.declared.acting.Acting.{Acting}
use Rattle.wm_indexes.specs.Active as active
use Rattle.wm_law.specs.declared.job.Job.{Job}
use Rattle.wm_law.specs.declared.job.Phase.{Phase}
use Rattle.wm_law.specs.declared.job.Phase.TheVariants.{Waiting, Starting, Handed, Running, Ended}
use Rattle.wm_law.specs.Counts.{is_active}
use Rattle.wm_law.specs.Pending.{active_moment, ahead, soonest}
use Rattle.wm_law.specs.Reports.{is_run_by, is_to_kill}
use Rattle.wm_law.specs.Wishes.{is_unhanded}
use Rattle.wm_ordered.specs.Ordered.{key_of}
use Rattle.wm_jobs.specs.Indexed.{runner, actives}
use Rattle.wm_jobs.specs.Table.{serial_of, kills_in, next_wish_in}
use Rattle.wm_jobs.proofs.Actives.{row_of}

module _ (m : ℕ) where
  and-true : (b : Bool) → b ≡ (b && true)
  and-true true = refl
  and-true false = refl

  and-false : (b : Bool) → false ≡ (b && false)
  and-false true = refl
  and-false false = refl

  asks-by : (p : Phase) (u : Bool) → cond (is_active p) (active.is_monitor m (cond u (runner p) None)) false ≡ (is_run_by m p && u)
  asks-by Waiting u = refl
  asks-by Starting true = refl
  asks-by Starting false = refl
  asks-by (Handed n) true = refl
  asks-by (Handed n) false = refl
  asks-by (Running n) true = and-true (n == m)
  asks-by (Running n) false = and-false (n == m)
  asks-by (Ended c) u = refl

  -- the row of an active job asks for its kill where the job is to be killed
  asks : (j : Job) → cond (is_active j.phase) (active.has_kill m (row_of j)) false ≡ is_to_kill m j
  asks j = asks-by j.phase (is_unhanded j.wish)

  chosen : (c : Bool) (j : Job) (rest : Option (ℕ × Acting)) (found : Option Job) → option_map key_of rest ≡ option_map serial_of found → option_map key_of (cond c (Some (row_of j)) rest) ≡ option_map serial_of (cond c (Some j) found)
  chosen true j rest found same = refl
  chosen false j rest found same = same

  first-by : (b c : Bool) (j : Job) (es : List (ℕ × Acting)) (found : Option Job) → cond b (active.has_kill m (row_of j)) false ≡ c → option_map key_of (find (active.has_kill m) es) ≡ option_map serial_of found → option_map key_of (find (active.has_kill m) (cons_option (cond b (Some (row_of j)) None) es)) ≡ option_map serial_of (cond c (Some j) found)
  first-by true c j es found is rest =
      ap (λ h. option_map key_of (cond h (Some (row_of j)) (find (active.has_kill m) es))) is ∙ chosen c j (find (active.has_kill m) es) found rest
  first-by false c j es found is rest = rest ∙ ap (λ h. option_map serial_of (cond h (Some j) found)) is

  -- the serial of the first kill
  pub first-asked : (jobs : List Job) → active.first_kill m (actives jobs) ≡ option_map serial_of (find (is_to_kill m) jobs)
  first-asked [] = refl
  first-asked (j ∷ js) = first-by (is_active j.phase) (is_to_kill m j) j (actives js) (find (is_to_kill m) js) (asks j) (first-asked js)

  count-by : (b c : Bool) (j : Job) (es : List (ℕ × Acting)) (count : ℕ) → cond b (active.has_kill m (row_of j)) false ≡ c → active.kills m es ≡ count → active.kills m (cons_option (cond b (Some (row_of j)) None) es) ≡ cond c 1 0 + count
  count-by true c j es count is rest =
      sum_by-cons (λ e. cond (active.has_kill m e) 1 0) (row_of j) es ∙ (ap (λ h. cond h 1 0 + active.kills m es) is ∙ ap (λ (n : ℕ). cond c 1 0 + n) rest)
  count-by false c j es count is rest = let none = ap (λ h. cond {A = ℕ} h 1 0) is in omega (arith, none, rest)

  -- how many kills
  pub kills-asked : (jobs : List Job) → active.kills m (actives jobs) ≡ kills_in m jobs
  kills-asked [] = refl
  kills-asked (j ∷ js) =
      count-by (is_active j.phase) (is_to_kill m j) j (actives js) (kills_in m js) (asks j) (kills-asked js) ∙ sym (sum_by-cons (λ k. cond (is_to_kill m k) 1 0) j js)

-- the sooner of a moment and that of a row
abbrev pass : ℕ → Option ℕ → ℕ × Acting → Option ℕ
pass clock least e = soonest least (ahead clock e.1.until)

wish-by : (clock : ℕ) (b : Bool) (least : Option ℕ) (e : ℕ × Acting) (es : List (ℕ × Acting)) → fold (pass clock) least (cons_option (cond b (Some e) None) es) ≡ fold (pass clock) (soonest least (ahead clock (cond b e.1.until None))) es
wish-by clock true least e es = refl
wish-by clock false least e es = refl

wishes-by : (clock : ℕ) (least : Option ℕ) (jobs : List Job) → fold (pass clock) least (actives jobs) ≡ fold (λ least j. soonest least (ahead clock (active_moment j))) least jobs
wishes-by clock least [] = refl
wishes-by clock least (j ∷ js) = wish-by clock (is_active j.phase) least (row_of j) (actives js) ∙ wishes-by clock (soonest least (ahead clock (active_moment j))) js

-- the least moment of a wish
pub wishes-asked : (clock : ℕ) (jobs : List Job) → active.next_above clock (actives jobs) ≡ next_wish_in clock jobs
wishes-asked clock jobs = wishes-by clock None jobs
