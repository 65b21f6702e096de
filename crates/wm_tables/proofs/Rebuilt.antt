-- The tables of a sound state in range make of none what a stop leaves of the state.
use Rattle.std.proofs.Common.{◌≡◌, ◌⊎◌, ℤ, Bool, true, false, cond, List, [], ◌∷◌, map, filter, refl, sym, ap, subst, ◌∙◌, inl, inr}
use Rattle.wm_base.specs.declared.qname.QName.{QName}
use Rattle.wm_desc.specs.declared.description.Sbsd.{Sbsd}
use Rattle.wm_traits.specs.declared.row.Row.{Row}
use Rattle.wm_traits.specs.Rows.{is_before, place_of}
use Rattle.wm_traits.specs.InOrder.{before_later}
use Rattle.wm_law.specs.Laws.{IsIn}
use Rattle.wm_law.specs.Opening.{empty}
use Rattle.wm_law.specs.Sound.{IsSound}
use Rattle.wm_law.specs.declared.state.State.{State}
use Rattle.wm_law.proofs.Members.{each_stays}
use Rattle.wm_rows.specs.Rows.{class_row, program_row, queue_row, jobd_row, sbsd_row, held_row}
use Rattle.wm_rows.specs.declared.stored.Counter.TheVariants as counter
use Rattle.wm_rows.specs.JobText.{job_row}
use Rattle.wm_rows.specs.Stored.{stored_of}
use Rattle.wm_tables.specs.Laws.{TablesMakeTheirState}
use Rattle.wm_tables.specs.Ranges.{IsInRange}
use Rattle.wm_tables.specs.Restart.{AreGood, HasCounters, IsRead, Takes, restarted, restarted_job}
use Rattle.wm_tables.specs.Tables.{rows_of, tables}
use Rattle.wm_tables.proofs.Ends.{in_contains}
use Rattle.wm_tables.proofs.OwnRows.{own_rows}
use Rattle.wm_tables.proofs.Parts.{IsStep, jobs_left, reached, same_entries, same_parts, sbsd_part, state_part}
use Rattle.wm_tables.proofs.Passing.{left_all, left_none}
use Rattle.wm_tables.proofs.Restarts.{good_restart}
use Rattle.wm_tables.proofs.RowOrder.{IsAscending, ascending, in_tables, never_before, of_tables, put_in_order}
use Rattle.wm_tables.proofs.RowsOf.{IsRowOf, in_rows, of_rows, of_class, of_program, of_queue, of_jobd, of_sbsd, of_queue_entry, of_route_entry, of_auto_entry, of_pre_entry, of_held, of_job, of_number, of_place, of_schema, of_serial}
use Rattle.wm_tables.proofs.StepEntries.{queue_made as queue_entry_made, route_made, auto_made, pre_made}
use Rattle.wm_tables.proofs.StepObjects.{class_made, program_made, queue_made, jobd_made, sbsd_made}
use Rattle.wm_tables.proofs.StepRest.{queue_holds, job_enters, number_counts, place_counts, schema_counts, serial_counts}

-- the rows before those to come
abbrev passed : List Row → Row → Bool
passed [] r = true
passed (row ∷ rows) r = is_before r row

turned : (a b : Row) (t : Bool) → is_before a b ≡ true → is_before b a ≡ t → t ≡ false
turned a b true e f =
    let itself : is_before a a ≡ true = before_later a b a e f in
    let never : is_before a a ≡ false = never_before a in
    absurd (cc)
turned a b false e f = refl

-- what stands before a row doesn't stand behind it
not_behind : (a b : Row) → is_before a b ≡ true → is_before b a ≡ false
not_behind a b e = turned a b (is_before b a) e refl

-- each row of the state stands before those to come, or is one of them
abbrev AreCovered : State → List Row → Type 0
AreCovered s rows = (r : Row) → IsIn r (rows_of s) → (passed rows r ≡ true) ⊎ IsIn r rows

first_passed : (row : Row) (rows : List Row) → IsAscending (row ∷ rows) → passed rows row ≡ true
first_passed row [] up = refl
first_passed row (r ∷ rows) up = up.0 r (inl refl)

still_passed : (row r : Row) (rows : List Row) → IsAscending (row ∷ rows) → is_before r row ≡ true → passed rows r ≡ true
still_passed row r [] up e = refl
still_passed row r (n ∷ rows) up e = before_later r row n e (up.0 n (inl refl))

not_passed : (rows : List Row) (r : Row) → IsAscending rows → IsIn r rows → passed rows r ≡ false
not_passed [] r up i = absurd i
not_passed (n ∷ rows) r up (inl same) = ap (λ (x : Row). is_before x n) same ∙ never_before n
not_passed (n ∷ rows) r up (inr i) = not_behind n r (up.0 r i)

covered_rest : (s : State) (row : Row) (rows : List Row) → IsAscending (row ∷ rows) → AreCovered s (row ∷ rows) → AreCovered s rows
covered_rest s row rows up c r i =
    elim (c r i) as (λ _. (passed rows r ≡ true) ⊎ IsIn r rows) [
      | inl e ↦ inl (still_passed row r rows up e)
      | inr m ↦ (elim m as (λ _. (passed rows r ≡ true) ⊎ IsIn r rows) [ inl same ↦ inl (ap (passed rows) same ∙ first_passed row rows up) | inr k ↦ inr k ])
    ]

same_passed : (s : State) (row : Row) (rows : List Row) → IsAscending (row ∷ rows) → (r : Row) → (place_of r ≡ place_of row → ⊥) → (is_before r row ≡ true) ⊎ IsIn r (row ∷ rows) → passed rows r ≡ is_before r row
same_passed s row rows up r n (inl e) = still_passed row r rows up e ∙ sym e
same_passed s row rows up r n (inr (inl same)) = absurd (n (ap place_of same))
same_passed s row rows up r n (inr (inr i)) = not_passed rows r up.1 i ∙ sym (not_behind row r (up.0 r i))

-- from one row to the next
step : (s : State) (row : Row) (rows : List Row) → IsAscending (row ∷ rows) → AreCovered s (row ∷ rows) → IsStep s row (passed (row ∷ rows)) (passed rows)
step s row rows up c = record {
  before = never_before row;
  after = first_passed row rows up;
  others = λ r i n. same_passed s row rows up r n (c r i);
  earlier = λ r i e. e;
  later = λ r i e. not_behind row r e;
}

module _ (offset : ℤ) (s : State) (sound : IsSound s) (range : IsInRange s) where
  -- the row of whatever it is makes the next part
  takes_by : (row : Row) (p q : Row → Bool) → IsStep s row p q → IsRowOf s row → Takes (state_part p offset s) row (state_part q offset s)
  takes_by row p q h (of_class x i e) = inl (class_made offset s sound range row p q h x i (sym e))
  takes_by row p q h (of_program x i e) = inl (program_made offset s sound range row p q h x i (sym e))
  takes_by row p q h (of_queue x i e) = inl (queue_made offset s sound range row p q h x i (sym e))
  takes_by row p q h (of_jobd x i e) = inl (jobd_made offset s sound range row p q h x i (sym e))
  takes_by row p q h (of_sbsd x i e) = inl (sbsd_made offset s sound range row p q h x i (sym e))
  takes_by row p q h (of_queue_entry x d i j e) = inl (queue_entry_made offset s sound range row p q h x d i j (sym e))
  takes_by row p q h (of_route_entry x d i j e) = inl (route_made offset s sound range row p q h x d i j (sym e))
  takes_by row p q h (of_auto_entry x d i j e) = inl (auto_made offset s sound range row p q h x d i j (sym e))
  takes_by row p q h (of_pre_entry x d i j e) = inl (pre_made offset s sound range row p q h x d i j (sym e))
  takes_by row p q h (of_held x i e) = inr (inl (queue_holds offset s sound range row p q h x i (sym e)))
  takes_by row p q h (of_job j i e) = inr (inr (inl (job_enters offset s sound range row p q h j i (sym e))))
  takes_by row p q h (of_number e) = inr (inr (inr (number_counts offset s sound range row p q h (sym e))))
  takes_by row p q h (of_place e) = inr (inr (inr (place_counts offset s sound range row p q h (sym e))))
  takes_by row p q h (of_schema e) = inr (inr (inr (schema_counts offset s sound range row p q h (sym e))))
  takes_by row p q h (of_serial e) = inr (inr (inr (serial_counts offset s sound range row p q h (sym e))))

  -- rows to come make of the part before them the part of all
  read_from : (rows : List Row) → IsAscending rows → ((r : Row) → IsIn r rows → IsIn r (rows_of s)) → AreCovered s rows → IsRead (state_part (passed rows) offset s) rows (state_part (passed []) offset s)
  read_from [] up are c = refl
  read_from (row ∷ rows) up are c = (
    state_part (passed rows) offset s,
    takes_by row (passed (row ∷ rows)) (passed rows) (step s row rows up c) (of_rows s row (are row (inl refl))),
    read_from rows up.1 (λ r i. are r (inr i)) (covered_rest s row rows up c),
  )

  -- the part of no row is that of none
  none_part : (p : Row → Bool) → ((r : Row) → IsRowOf s r → p r ≡ false) → state_part p offset s ≡ empty offset
  none_part p h =
      let no_jobs : jobs_left p s ≡ [] = left_none (λ j. p (job_row (stored_of j))) s.jobs (λ j i. h (job_row (stored_of j)) (of_job j i refl)) in
      same_parts offset
      (left_none (λ x. p (class_row x)) s.objects.classes (λ x i. h (class_row x) (of_class x i refl)))
      (left_none (λ x. p (program_row x)) s.objects.programs (λ x i. h (program_row x) (of_program x i refl)))
      (left_none (λ x. p (queue_row x)) s.objects.jobqs (λ x i. h (queue_row x) (of_queue x i refl)))
      (left_none (λ x. p (jobd_row x)) s.objects.jobds (λ x i. h (jobd_row x) (of_jobd x i refl)))
      (ap (map (sbsd_part p)) (left_none (λ x. p (sbsd_row x)) s.objects.sbsds (λ x i. h (sbsd_row x) (of_sbsd x i refl))))
      (left_none (λ x. p (held_row x)) s.held (λ x i. h (held_row x) (of_held x i refl)))
      (ap (map restarted_job) no_jobs)
      (ap (λ (t : Bool). cond t s.next_number (reached (λ j. j.job.number) (jobs_left p s))) (h _ (of_number refl)) ∙ ap (reached (λ j. j.job.number)) no_jobs)
      (ap (λ (t : Bool). cond t s.next_place (reached (λ j. j.place) (jobs_left p s))) (h _ (of_place refl)) ∙ ap (reached (λ j. j.place)) no_jobs)
      (ap (λ (t : Bool). cond t s.next_serial (reached (λ j. j.serial) (jobs_left p s))) (h _ (of_serial refl)) ∙ ap (reached (λ j. j.serial)) no_jobs)

  all_left : {X : Type 0} (xs : List X) → filter (λ x. true) xs ≡ xs
  all_left xs = left_all (λ x. true) xs (λ x i. refl)

  whole : (x : QName × Sbsd) → IsIn x s.objects.sbsds → sbsd_part (passed []) x ≡ x
  whole x i = same_entries x.0 x.1.maxjobs (all_left x.1.queues) (all_left x.1.routes) (all_left x.1.autos) (all_left x.1.pres)

  -- the part of all rows is what a stop leaves
  all_part : state_part (passed []) offset s ≡ restarted offset s
  all_part =
      same_parts offset (all_left s.objects.classes) (all_left s.objects.programs) (all_left s.objects.jobqs) (all_left s.objects.jobds)
      (ap (map (sbsd_part (passed []))) (all_left s.objects.sbsds) ∙ each_stays (sbsd_part (passed [])) s.objects.sbsds whole)
      (all_left s.held)
      (ap (map restarted_job) (all_left s.jobs))
      refl
      refl
      refl

  there : (r : Row) → IsIn r (rows_of s) → IsIn r (tables s)
  there r i = in_tables (rows_of s) (own_rows s sound range) r i

  up : IsAscending (tables s)
  up = ascending (tables s) (put_in_order (rows_of s))

  read : IsRead (empty offset) (tables s) (restarted offset s)
  read =
      subst (λ (t : State). IsRead t (tables s) (restarted offset s)) (none_part (passed (tables s)) (λ r i. not_passed (tables s) r up (there r (in_rows s r i))))
      (subst (IsRead (state_part (passed (tables s)) offset s) (tables s)) all_part (read_from (tables s) up (of_tables (rows_of s)) (λ r i. inr (there r i))))

  good : AreGood offset (tables s) (restarted offset s)
  good = record { order = put_in_order (rows_of s); read = read }

  counters : HasCounters (tables s)
  counters counter.Number = (s.next_number, in_contains (tables s) _ (there _ (in_rows s _ (of_number refl))))
  counters counter.Place = (s.next_place, in_contains (tables s) _ (there _ (in_rows s _ (of_place refl))))
  counters counter.Schema = (1, in_contains (tables s) _ (there _ (in_rows s _ (of_schema refl))))
  counters counter.Serial = (s.next_serial, in_contains (tables s) _ (there _ (in_rows s _ (of_serial refl))))

pub tables_make_their_state : TablesMakeTheirState
tables_make_their_state offset s sound range = good_restart offset (tables s) (restarted offset s) (good offset s sound range) (counters offset s sound range)
