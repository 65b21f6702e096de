-- What is made of what is given of a step are its changes.
use Rattle.std.proofs.Common.{◌≡◌, ℕ, ◌++◌, List, length, take, map, Option, sym, ap, subst, ◌∙◌}
use Rattle.std.specs.Option.{option_to_list}
use Rattle.wm_traits.specs.declared.row.RowChange.{RowChange}
use Rattle.wm_law.specs.Laws.{IsIn}
use Rattle.wm_law.specs.Sound.{IsIncreasing}
use Rattle.wm_law.specs.Stepped.{Stepped}
use Rattle.wm_law.specs.declared.call.Call.{Call}
use Rattle.wm_law.specs.declared.call.Reply.{Reply}
use Rattle.wm_law.specs.declared.job.Job.{Job}
use Rattle.wm_law.specs.declared.state.State.{State}
use Rattle.wm_rows.specs.Stored.{IsStored, stored_of}
use Rattle.wm_jobs.specs.Marked.{undone}
use Rattle.wm_jobs.specs.Table.{Table}
use Rattle.wm_tables.specs.Tables.{puts}
use Rattle.wm_tables.specs.Changes.{AreStepChanges, IsTaken, call_change, counter_changes, counts_of, new_job_rows, removed_number}
use Rattle.wm_tables.specs.Noted.{PutsJobs}
use Rattle.wm_tables.specs.declared.counts.Counts.{Counts}
use Rattle.wm_tables.proofs.TouchedRows.{jobs_are}

module _ (s : State) (call : Call) (t : Stepped) (answer : Reply) (table : Table) (number : Option ℕ) (old new : Counts) (h : IsTaken s call t answer table number old new) where
  in_order : IsIncreasing (map (λ j. j.serial) table.jobs)
  in_order = subst (λ (jobs : List Job). IsIncreasing (map (λ j. j.serial) jobs)) (sym h.jobs) h.is.order

  stored_now : (j : Job) → IsIn j table.jobs → IsStored (stored_of j)
  stored_now j i = h.is.stored j (subst (λ (jobs : List Job). IsIn j jobs) h.jobs i)

  stored_then : (j : Job) → IsIn j table.marked.jobs → IsStored (stored_of j)
  stored_then j i = h.was.stored j (subst (λ (jobs : List Job). IsIn j jobs) h.marked i)

  jobs_put : (first more : List RowChange) → table.marked.jobs ≡ undone table.touched (take (length table.marked.jobs) table.jobs) → PutsJobs table first more → more ≡ first ++ puts (new_job_rows s.jobs t.state.jobs)
  jobs_put first more before put =
      jobs_are table before in_order stored_now stored_then first more put
      ∙ ap (λ (jobs : List Job). first ++ puts (new_job_rows jobs table.jobs)) h.marked
      ∙ ap (λ (jobs : List Job). first ++ puts (new_job_rows s.jobs jobs)) h.jobs

  called : option_to_list (call_change number call answer) ≡ option_to_list (call_change (removed_number s.objects call) call t.reply)
  called =
      ap (λ (n : Option ℕ). option_to_list (call_change n call answer)) h.removed
      ∙ ap (λ (r : Reply). option_to_list (call_change (removed_number s.objects call) call r)) h.reply

  counted : counter_changes old new ≡ counter_changes (counts_of s) (counts_of t.state)
  counted = ap (λ (c : Counts). counter_changes c new) h.before ∙ ap (counter_changes (counts_of s)) h.after

  pub are_changes : (first more all : List RowChange) → table.marked.jobs ≡ undone table.touched (take (length table.marked.jobs) table.jobs) → first ≡ option_to_list (call_change number call answer) → PutsJobs table first more → all ≡ more ++ counter_changes old new → AreStepChanges s call t all
  are_changes first more all before a b c =
      c
      ∙ ap (λ (l : List RowChange). l ++ counter_changes old new) (jobs_put first more before b ∙ ap (λ (l : List RowChange). l ++ puts (new_job_rows s.jobs t.state.jobs)) (a ∙ called))
      ∙ ap (λ (l : List RowChange). option_to_list (call_change (removed_number s.objects call) call t.reply) ++ puts (new_job_rows s.jobs t.state.jobs) ++ l) counted
