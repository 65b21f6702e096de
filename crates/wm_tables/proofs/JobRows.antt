-- Which rows of jobs differ.
use Rattle.std.proofs.Common.{◌≡◌, ◌⊎◌, ℕ, ◌<◌, ◌^◌, not, Bool, true, false, cond, List, [], ◌∷◌, map, filter, refl, sym, ap, subst, ◌∙◌, inl, inr, arith}
use Rattle.std.specs.Cmp.Lexicographic.{slice_cmp}
use Rattle.std.specs.Ordering.{is_lt, nat_cmp}
use Rattle.std.proofs.lemmas.Bool.{not-true}
use Rattle.wm_base.specs.Number.{zero_padded}
use Rattle.wm_traits.specs.declared.row.Row.{Row}
use Rattle.wm_traits.specs.declared.row.RowChange.{RowChange}
use Rattle.wm_traits.specs.declared.row.RowChange.TheVariants.{Put, Del}
use Rattle.wm_traits.specs.Rows.{is_before, place_of}
use Rattle.wm_law.specs.Laws.{IsIn}
use Rattle.wm_law.specs.Sound.{IsIncreasing}
use Rattle.wm_law.specs.declared.job.Job.{Job}
use Rattle.wm_law.specs.declared.state.State.{State}
use Rattle.wm_law.proofs.Members.{in_left, in_mapped, left_in, of_mapped}
use Rattle.wm_rows.specs.JobText.{job_row}
use Rattle.wm_rows.specs.Stored.{stored_of}
use Rattle.wm_tables.specs.Opened.{is_found}
use Rattle.wm_tables.specs.Tables.{job_rows, puts}
use Rattle.wm_tables.proofs.Digits.{padded_less}
use Rattle.wm_tables.proofs.Passing.{left_passes}
use Rattle.wm_tables.proofs.RowOrder.{IsAscending}
use Rattle.wm_tables.proofs.SameRows.{found_there, not_found, one_place}
use Rattle.wm_tables.specs.Changes.{AreKept, new_job_rows}
use Rattle.wm_tables.specs.Difference.{AreInOrder, change_place}
use Rattle.wm_tables.proofs.Differs.{Differs, HasChangeAt}

abbrev pub row_of : Job → Row
row_of j = job_row (stored_of j)

-- Their order

pub serial_before : (j k : Job) → j.serial < k.serial → k.serial < 2 ^ 64 → is_before (row_of j) (row_of k) ≡ true
serial_before j k less fits =
    let digits : slice_cmp nat_cmp (zero_padded 20 j.serial) (zero_padded 20 k.serial) ≡ _ = padded_less 19 j.serial k.serial less fits (omega arith) in
    ap is_lt digits

-- rows of jobs in the order of their serials
pub jobs_ascending : (jobs : List Job) → ((j : Job) → IsIn j jobs → j.serial < 2 ^ 64) → IsIncreasing (map (λ j. j.serial) jobs) → IsAscending (job_rows jobs)
jobs_ascending [] fit up = tt
jobs_ascending (j ∷ jobs) fit up = (
  λ r i. (
      let m = of_mapped row_of jobs r i in
      let before = serial_before j m.0 (up.0 m.0.serial (in_mapped (λ (k : Job). k.serial) jobs m.0 m.1)) (fit m.0 (inr m.1)) in
      subst (λ (q : Row). is_before (row_of j) q ≡ true) (sym m.2) before),
  jobs_ascending jobs (λ k i. fit k (inr i)) up.1,
)

pub kept_ascending : (s : State) → AreKept s → IsAscending (job_rows s.jobs)
kept_ascending s h = jobs_ascending s.jobs (λ j i. (h.stored j i).serial) h.order

filter_by : (p : Row → Bool) (t : Bool) (r : Row) (rows : List Row) → IsAscending (r ∷ rows) → IsAscending (filter p rows) → IsAscending (cond t (r ∷ filter p rows) (filter p rows))
filter_by p true r rows up h = ((λ q i. up.0 q (left_in p rows q i)), h)
filter_by p false r rows up h = h

pub filter_ascending : (p : Row → Bool) (rows : List Row) → IsAscending rows → IsAscending (filter p rows)
filter_ascending p [] up = tt
filter_ascending p (r ∷ rows) up = filter_by p (p r) r rows up (filter_ascending p rows up.1)

put_of : (rows : List Row) (c : RowChange) → IsIn c (puts rows) → (r : Row) × IsIn r rows × (c ≡ Put r)
put_of rows c i = of_mapped (λ (row : Row). Put row) rows c i

put_behind : (r : Row) (rows : List Row) (c : RowChange) → ((q : Row) → IsIn q rows → is_before r q ≡ true) → (m : Row) → IsIn m rows → c ≡ Put m → is_lt (slice_cmp nat_cmp (place_of r) (change_place c)) ≡ true
put_behind r rows c up m i e = subst (λ (p : List ℕ). is_lt (slice_cmp nat_cmp (place_of r) p) ≡ true) (sym (ap change_place e)) (up m i)

-- changes that put rows in their order stand in order
pub puts_in_order : (rows : List Row) → IsAscending rows → AreInOrder (puts rows)
puts_in_order [] up = tt
puts_in_order (r ∷ rows) up = (
  λ c i. (let m = put_of rows c i in put_behind r rows c up.0 m.0 m.1 m.2),
  puts_in_order rows up.1,
)

-- What differs

same_put : (r q : Row) → Put r ≡ Put q → r ≡ q
same_put r q e = cc

pub puts_are : (rows : List Row) (r : Row) → IsIn (Put r) (puts rows) → IsIn r rows
puts_are rows r i = let m = put_of rows (Put r) i in subst (λ (q : Row). IsIn q rows) (sym (same_put r m.0 m.2)) m.1

never_put : (tab : ℕ) (key : List ℕ) (r : Row) → Del tab key ≡ Put r → ⊥
never_put tab key r e = absurd (cc)

no_deletion : (rows : List Row) (tab : ℕ) (key : List ℕ) → IsIn (Del tab key) (puts rows) → ⊥
no_deletion rows tab key i = let m = put_of rows (Del tab key) i in never_put tab key m.0 m.2

module _ (before after : List Job) (up : IsAscending (job_rows before)) (goes_on : (j : Job) → IsIn j before → (k : Job) × IsIn k after × (k.serial ≡ j.serial)) where
  abbrev news : List Row
  news = new_job_rows before after

  abbrev is_new : Row → Bool
  is_new row = not (is_found (job_rows before) row)

  new_or_old : (r : Row) (t : Bool) → is_found (job_rows before) r ≡ t → IsIn r (job_rows after) → IsIn (Put r) (puts news) ⊎ IsIn r (job_rows before)
  new_or_old r true e i = inr (found_there (job_rows before) r e)
  new_or_old r false e i = inl (in_mapped (λ (row : Row). Put row) news r (in_left is_new (job_rows after) r (ap not e) i))

  -- the row of a job's successor, where it is the same or another
  kept_by : (r q : Row) → IsIn r (job_rows before) → IsIn q (job_rows after) → place_of q ≡ place_of r → IsIn (Put q) (puts news) ⊎ IsIn q (job_rows before) → IsIn r (job_rows after) ⊎ HasChangeAt (puts news) (place_of r)
  kept_by r q i j e (inl put) = inr (record { change = Put q; stands = put; at = sym e })
  kept_by r q i j e (inr old) = inl (subst (λ (x : Row). IsIn x (job_rows after)) (one_place (job_rows before) q r up old i e) j)

  same_serial : (j k : Job) → k.serial ≡ j.serial → place_of (row_of k) ≡ place_of (row_of j)
  same_serial j k e = ap (λ (n : ℕ). 11 ∷ zero_padded 20 n) e

  kept_row : (r : Row) → IsIn r (job_rows before) → IsIn r (job_rows after) ⊎ HasChangeAt (puts news) (place_of r)
  kept_row r i =
      let m = of_mapped row_of before r i in
      let next = goes_on m.0 m.1 in
      let q = row_of next.0 in
      let there : IsIn q (job_rows after) = in_mapped row_of after next.0 next.1 in
      kept_by r q i there (same_serial m.0 next.0 next.2 ∙ ap place_of (sym m.2)) (new_or_old q (is_found (job_rows before) q) refl there)

  pub jobs_differ : Differs (job_rows before) (job_rows after) (puts news)
  jobs_differ = record {
    put = λ r i. left_in is_new (job_rows after) r (puts_are news r i);
    new = λ r i j. (
        let passes : is_new r ≡ true = left_passes is_new (job_rows after) r (puts_are news r i) in
        not_found (job_rows before) r (not-true (is_found (job_rows before) r) passes) j);
    was = λ tab key i. absurd (no_deletion news tab key i);
    gone = λ tab key i r j e. no_deletion news tab key i;
    each = λ r i. new_or_old r (is_found (job_rows before) r) refl i;
    kept = kept_row;
  }
