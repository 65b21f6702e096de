-- The changes that put the rows of jobs make the found rows the tables of the state.
use Rattle.std.proofs.Common.{◌≡◌, ◌⊎◌, ℤ, ◌++◌, not, Bool, true, false, cond, List, [], ◌∷◌, filter, append_assoc, refl, sym, ap, subst, ◌∙◌, inl, inr}
use Rattle.std.specs.Prelude.{fold}
use Rattle.std.proofs.lemmas.List.{append-nil}
use Rattle.wm_traits.specs.declared.row.Row.{Row}
use Rattle.wm_traits.specs.declared.row.RowChange.{RowChange}
use Rattle.wm_traits.specs.declared.row.RowChange.TheVariants.{Put}
use Rattle.wm_traits.specs.Rows.{changed}
use Rattle.wm_law.specs.Laws.{IsIn}
use Rattle.wm_law.specs.declared.job.Job.{Job}
use Rattle.wm_law.specs.declared.state.State.{State}
use Rattle.wm_law.proofs.Members.{in_left, left_in, of_mapped}
use Rattle.wm_rows.specs.JobText.{job_row}
use Rattle.wm_rows.specs.Stored.{stored_of}
use Rattle.wm_tables.specs.Opened.{is_found, PutsNew}
use Rattle.wm_tables.specs.Restart.{AreGood, HasCounters}
use Rattle.wm_tables.specs.Tables.{job_rows, puts, tables}
use Rattle.wm_tables.proofs.NewRows.{AreNew, put_into_found}
use Rattle.wm_tables.proofs.Passing.{left_passes}
use Rattle.wm_tables.proofs.SameRows.{found_there, there_found}
use Rattle.wm_restart.specs.Written.{job_changes, with_job}

-- the rows of jobs that aren't found
abbrev new_jobs : List Row → List Job → List Row
new_jobs found jobs = filter (λ row. not (is_found found row)) (job_rows jobs)

module _ (found : List Row) where
  changes_by : (jobs : List Job) (changes : List RowChange) (row : Row) (t : Bool) → ((before : List RowChange) → fold (with_job found) before jobs ≡ before ++ puts (new_jobs found jobs)) → fold (with_job found) (cond t changes (changes ++ Put row ∷ [])) jobs ≡ changes ++ puts (cond (not t) (row ∷ new_jobs found jobs) (new_jobs found jobs))
  changes_by jobs changes row true rest = rest changes
  changes_by jobs changes row false rest = rest (changes ++ Put row ∷ []) ∙ append_assoc changes (Put row ∷ []) (puts (new_jobs found jobs))

  -- they are what is put
  changes_are : (jobs : List Job) (changes : List RowChange) → fold (with_job found) changes jobs ≡ changes ++ puts (new_jobs found jobs)
  changes_are [] changes = sym (append-nil changes)
  changes_are (j ∷ jobs) changes = changes_by jobs changes (job_row (stored_of j)) (is_found found (job_row (stored_of j))) (changes_are jobs)

  found_or : (jobs : List Job) (r : Row) (t : Bool) → is_found found r ≡ t → IsIn r (job_rows jobs) → IsIn r found ⊎ IsIn r (new_jobs found jobs)
  found_or jobs r true e i = inl (found_there found r e)
  found_or jobs r false e i = inr (in_left (λ q. not (is_found found q)) (job_rows jobs) r (ap not e) i)

  are_new : (jobs : List Job) → AreNew found jobs (new_jobs found jobs)
  are_new jobs = record { of_jobs = λ r i. left_in (λ q. not (is_found found q)) (job_rows jobs) r i; all = λ r i. found_or jobs r (is_found found r) refl i }

  not_there : (jobs : List Job) (r : Row) → IsIn r (new_jobs found jobs) → IsIn r found → ⊥
  not_there jobs r i there =
      let passes : not (is_found found r) ≡ true = left_passes (λ q. not (is_found found q)) (job_rows jobs) r i in
      let fails : not (is_found found r) ≡ false = ap not (there_found found r there) in
      absurd (cc)

-- changes that put rows of a list, of which none is found
pub put_new : (found rows : List Row) → ((r : Row) → IsIn r rows → IsIn r found → ⊥) → PutsNew found (puts rows)
put_new found rows none change i = let m = of_mapped (λ (row : Row). Put row) rows change i in (m.0, m.2, none m.0 m.1)

-- no row is put that is found
pub jobs_are_new : (found : List Row) (jobs : List Job) → PutsNew found (job_changes found jobs)
jobs_are_new found jobs = subst (PutsNew found) (sym (changes_are found jobs [])) (put_new found (new_jobs found jobs) (not_there found jobs))

-- and the rows become those of the state
pub jobs_make_tables : (offset : ℤ) (found : List Row) (s : State) → AreGood offset found s → HasCounters found → changed (job_changes found s.jobs) found ≡ tables s
jobs_make_tables offset found s good all = ap (λ (cs : List RowChange). changed cs found) (changes_are found s.jobs []) ∙ put_into_found offset found s good all (new_jobs found s.jobs) (are_new found s.jobs)
