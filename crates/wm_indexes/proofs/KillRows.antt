-- The kills of active jobs are rows of theirs, and what is found among them is what is found among the jobs.
use Rattle.std.proofs.Common.{◌≡◌, ◌⊎◌, ℕ, ◌+◌, Bool, true, false, ◌==◌, cond, List, [], ◌∷◌, is_some, nat_eq, Option, Some, None, option_map, inl, inr, refl, ap, sym, ◌∙◌, subst, arith, Contains}
use Rattle.std.specs.Cmp.{tied_itself}
use Rattle.std.specs.List.{find, count_by, cons_option, filter_map}
use Rattle.std.specs.Ordering.{nat_cmp}
use Rattle.std.specs.Prelude.{unwrap_or}
use Rattle.std.specs.declared.cmp.Ordering.TheVariants.{Less}
use mathlib.Core.Bool.{false≢true}
use Rattle.std.proofs.lemmas.Bool.{eqb-true, eq-eqb}
use Rattle.std.proofs.lemmas.Bool.Decides.{nat_tests}
use Rattle.std.proofs.lemmas.Cmp.{nat_cmp_total}
use Rattle.std.proofs.lemmas.List.Sums.{sum_by-cons}
use Rattle.wm_desc.specs.Sorted.{IsSortedOnce}
use Rattle.wm_ordered.specs.Index.{IsIndex}
use Rattle.wm_ordered.specs.Ordered.{key_of}
use Rattle.wm_ordered.proofs.Members.{Contains-cases, Contains-cons, Contains-head, Contains-nil}
use Rattle.wm_ordered.proofs.Parted.{sorted-parted}
use Rattle.wm_indexes.specs.declared.acting.Acting.{Acting}
use Rattle.wm_indexes.specs.Active.{is_monitor, has_kill, first_kill, kills}
use Rattle.wm_indexes.specs.Moments.{is_to_kill, monitor_of}
use Rattle.wm_indexes.proofs.OneList.{one_list}
use Rattle.wm_indexes.proofs.RowLemmas.{IsKey}

abbrev row_at : ℕ → Option ℕ → Option (ℕ × ℕ)
row_at n o = option_map (λ w. (n, w)) o

-- the better of two moments, where the second is above the clock
-- the row of a job's kill, where a monitor is to be handed it
abbrev row_of : ℕ × Acting → Option (ℕ × ℕ)
row_of job = row_at job.0 job.1.kill

abbrev rows_of : List (ℕ × Acting) → List (ℕ × ℕ)
rows_of jobs = filter_map row_of jobs

one-by : (o : Option (ℕ × ℕ)) (x : ℕ × Acting) (r : ℕ × ℕ) (rows : List (ℕ × ℕ)) → row_of x ≡ o → Contains (cons_option o rows) r → (row_of x ≡ Some r) ⊎ Contains rows r
one-by None x r rows e there = inr there
one-by (Some q) x r rows e there = elim (Contains-cases q r rows there) [ inl same ↦ inl (e ∙ ap Some same) | inr later ↦ inr later ]

row-from : (jobs : List (ℕ × Acting)) (r : ℕ × ℕ) → Contains (rows_of jobs) r → (x : ℕ × Acting) × Contains jobs x × (row_of x ≡ Some r)
row-from [] r there = absurd (Contains-nil r there)
row-from (x ∷ xs) r there =
    elim (one-by (row_of x) x r (rows_of xs) refl there) [
      | inl here ↦ (x, Contains-head x xs, here)
      | inr later ↦ (let rest = row-from xs r later in (rest.0, Contains-cons x rest.0 xs rest.1, rest.2))
    ]

kept : (o : Option (ℕ × ℕ)) (r : ℕ × ℕ) (rows : List (ℕ × ℕ)) → Contains rows r → Contains (cons_option o rows) r
kept None r rows there = there
kept (Some q) r rows there = Contains-cons q r rows there

row-to : (jobs : List (ℕ × Acting)) (x : ℕ × Acting) (r : ℕ × ℕ) → Contains jobs x → row_of x ≡ Some r → Contains (rows_of jobs) r
row-to [] x r there is = absurd (Contains-nil x there)
row-to (y ∷ ys) x r there is =
    elim (Contains-cases y x ys there) [
      | inl same ↦ subst (λ o. Contains (cons_option o (rows_of ys)) r) (sym (ap row_of same ∙ is)) (Contains-head r (rows_of ys))
      | inr later ↦ kept (row_of y) r (rows_of ys) (row-to ys x r later is)
    ]

row-some : (n : ℕ) (o : Option ℕ) → is_some o ≡ true → row_at n o ≡ Some (n, unwrap_or o 0)
row-some n None h = absurd (false≢true h)
row-some n (Some w) h = refl

row-is : (n : ℕ) (o : Option ℕ) (r : ℕ × ℕ) → row_at n o ≡ Some r → (is_some o ≡ true) × ((n, unwrap_or o 0) ≡ r)
row-is n None r h = absurd (cc h)
row-is n (Some w) r h = (refl, cc h)

-- each job is the key of its kill
pub kill_key : IsKey {V = Acting} key_of nat_cmp nat_eq
kill_key = record {
  own = λ x y same. eqb-true x.0 y.0 same;
  itself = λ k. eq-eqb k k refl;
  tied = λ k. tied_itself nat_cmp_total k;
}

-- the kills are the rows of the jobs, in their order
pub kills-are : (jobs : List (ℕ × Acting)) (kills : List (ℕ × ℕ)) → IsIndex key_of monitor_of is_to_kill jobs kills → IsSortedOnce key_of nat_cmp jobs → IsSortedOnce key_of nat_cmp kills → kills ≡ rows_of jobs
kills-are jobs kills index sorted in_order =
    one_list (λ (a b : ℕ × ℕ). nat_cmp a.0 b.0 ≡ Less) (λ a b lt gt. grind (arith, nat_tests)) kills (rows_of jobs) in_order (sorted-parted key_of (λ job. job.1.kill) nat_cmp jobs sorted)
    (λ r there. let s = index.sound r there in row-to jobs s.0 r s.3 (row-some s.0.0 s.0.1.kill s.2 ∙ ap Some (sym s.1)))
    (λ r there. let s = row-from jobs r there in let is = row-is s.0.0 s.0.1.kill r s.2 in subst (λ q. Contains kills q) is.1 (index.whole s.0 s.1 is.0))

module _ (m : ℕ) where
  -- the row is a kill of that monitor
  abbrev asks : ℕ × ℕ → Bool
  asks row = row.1 == m

  first-hit : (b : Bool) (n w : ℕ) (x : ℕ × Acting) (rest : Option (ℕ × ℕ)) (found : Option (ℕ × Acting)) → n ≡ x.0 → option_map key_of rest ≡ option_map key_of found → option_map key_of (cond b (Some (n, w)) rest) ≡ option_map key_of (cond b (Some x) found)
  first-hit true n w x rest found same later = ap Some same
  first-hit false n w x rest found same later = later

  first-by : (o : Option ℕ) (x : ℕ × Acting) (rows : List (ℕ × ℕ)) (found : Option (ℕ × Acting)) → option_map key_of (find asks rows) ≡ option_map key_of found → option_map key_of (find asks (cons_option (row_at x.0 o) rows)) ≡ option_map key_of (cond (is_monitor m o) (Some x) found)
  first-by None x rows found later = later
  first-by (Some w) x rows found later = first-hit (w == m) x.0 w x (find asks rows) found refl later

  pub first-is : (jobs : List (ℕ × Acting)) → option_map key_of (find asks (rows_of jobs)) ≡ first_kill m jobs
  first-is [] = refl
  first-is (x ∷ xs) = first-by x.1.kill x (rows_of xs) (find (has_kill m) xs) (first-is xs)

  count-by : (o : Option ℕ) (n : ℕ) (rows : List (ℕ × ℕ)) → count_by asks (cons_option (row_at n o) rows) ≡ cond (is_monitor m o) 1 0 + count_by asks rows
  count-by None n rows = omega arith
  count-by (Some w) n rows = sum_by-cons (λ r. cond (asks r) 1 0) (n, w) rows

  pub count-is : (jobs : List (ℕ × Acting)) → count_by asks (rows_of jobs) ≡ kills m jobs
  count-is [] = refl
  count-is (x ∷ xs) =
      count-by x.1.kill x.0 (rows_of xs) ∙ (ap (λ (k : ℕ). cond (has_kill m x) 1 0 + k) (count-is xs) ∙ sym (sum_by-cons (λ j. cond (has_kill m j) 1 0) x xs))
