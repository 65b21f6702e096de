-- The changes of a step are the difference of the tables before and after it.
use Rattle.std.proofs.Common.{◌≡◌, ◌≤◌, ◌++◌, ◌==◌, List, Option, Some, None, find, refl, sym, ap, subst, ◌∙◌, inl, inr, arith}
use Rattle.std.specs.Option.{option_to_list}
use Rattle.wm_base.specs.Iterate.{IsKept}
use Rattle.wm_base.proofs.Iterate.{iterate-keeps}
use Rattle.wm_base.specs.declared.qname.QName.{QName}
use Rattle.wm_traits.specs.declared.row.Row.{Row}
use Rattle.wm_traits.specs.declared.row.RowChange.{RowChange}
use Rattle.wm_law.specs.Choice.{next}
use Rattle.wm_law.specs.Launch.{launch, with_routed}
use Rattle.wm_law.specs.Kept.{GoesOn}
use Rattle.wm_law.specs.Laws.{IsIn}
use Rattle.wm_law.specs.Machine.{apply, step, with_clock}
use Rattle.wm_law.specs.Settling.{come_due, leave, ready, settle, waiting}
use Rattle.wm_law.specs.Sound.{IsSound}
use Rattle.wm_law.specs.declared.choice.Candidate.{Candidate}
use Rattle.wm_law.specs.declared.job.Job.{Job}
use Rattle.wm_law.specs.declared.state.State.{State}
use Rattle.wm_law.proofs.Aside.{IsAside, supplied_aside}
use Rattle.wm_law.proofs.Forward.{step_goes_on}
use Rattle.wm_law.proofs.Sound.{clock_sound, step_keeps_sound}
use Rattle.wm_law.proofs.Supplies.{supplied_keeps}
use Rattle.wm_rows.specs.Tables.{counter_rows, held_rows, object_rows}
use Rattle.wm_rows.specs.JobText.{job_row}
use Rattle.wm_rows.specs.Stored.{stored_of}
use Rattle.wm_tables.specs.Ranges.{IsInRange}
use Rattle.wm_tables.specs.Tables.{job_rows, puts, rows_of, tables}
use Rattle.wm_tables.proofs.OwnPlaces.{HasTab, HasTabsTo, tab_mapped}
use Rattle.wm_tables.proofs.OwnRows.{own_rows, tab_counters}
use Rattle.wm_tables.proofs.Passing.{of_parts}
use Rattle.wm_tables.proofs.RangedSteps.{step_keeps_ranges}
use Rattle.wm_tables.proofs.RowOrder.{HasOwnPlaces, in_tables, of_tables, put_in_order}
use Rattle.wm_tables.specs.Changes.{AreKept, call_change, counter_changes, counts_of, new_job_rows, removed_number}
use Rattle.wm_tables.specs.Difference.{AreInOrder, IsDifference}
use Rattle.wm_tables.specs.ChangeLaws.{StepChangesAreDifference}
use Rattle.wm_tables.proofs.Commands.{HasOwn, apart_tabs, call_differs, held_tab, objects_to_nine, own_part}
use Rattle.wm_tables.proofs.CounterRows.{AreCounts, counters_differ, counters_ordered}
use Rattle.wm_tables.proofs.Differs.{AreApart, Differs, both_differ, both_ordered, differs_as, is_difference}
use Rattle.wm_tables.proofs.JobRows.{filter_ascending, jobs_differ, kept_ascending, puts_in_order}
use Rattle.wm_tables.proofs.OneMoreRow.{own_left, own_right}

-- Settling

launched_aside : (s t : State) (c : Candidate) (o : Option Job) → IsAside s t → IsAside s (with_routed t c o)
launched_aside s t c None a = a
launched_aside s t c (Some j) a = record { objects = a.objects; held = a.held; offset = a.offset }

launches_aside : (s : State) → IsKept next (λ c t. launch t c) (IsAside s)
launches_aside s = record { by_step = λ t c e a. launched_aside s t c (find (λ (j : Job). j.serial == c.serial) t.jobs) a }

-- settling makes no object, holds no queue and releases none
settled_aside : (t : State) → IsAside t (settle t)
settled_aside t =
    let left : IsAside t (leave (come_due t)) = record { objects = refl; held = refl; offset = refl } in
    let supplied : IsAside t (ready t) = supplied_keeps (IsAside t) (supplied_aside t) (leave (come_due t)) left in
    iterate-keeps (IsAside t) (launches_aside t) (waiting (ready t)) (ready t) supplied

-- What is known of a state

own_of : (t : State) → IsSound t → IsInRange t → HasOwn t
own_of t sound range =
    let own = own_rows t sound range in
    let first = own_left (own_part t) (job_rows t.jobs) (own_left (own_part t ++ job_rows t.jobs) (counter_rows t.next_number t.next_place t.next_serial) own) in
    record { objects = own_left (object_rows t.objects) (held_rows t.held) first; held = own_right (object_rows t.objects) (held_rows t.held) first }

-- a sound state in range keeps the order and the ranges of its jobs
pub kept_of : (t : State) → IsSound t → IsInRange t → AreKept t
kept_of t sound range = record { order = sound.jobs; stored = λ j i. (range.jobs j i).stored }

counts_fit : (t : State) → IsSound t → AreCounts (counts_of t)
counts_fit t sound =
    let n = sound.numbered.next_number.most in
    let p = sound.numbered.next_place.most in
    let q = sound.numbered.next_serial.most in
    record { number = omega arith; place = omega arith; serial = omega arith }

-- Tables apart

to_ten : (t : State) → HasTabsTo 10 (own_part t)
to_ten t r i = elim (of_parts (object_rows t.objects) (held_rows t.held) r i) as (λ _. r.tab ≤ 10) [
  | inl k ↦ (let most = objects_to_nine t.objects r k in omega arith)
  | inr k ↦ (let at : r.tab ≡ 10 = held_tab t.held r k in omega arith)
]

job_tab : (jobs : List Job) → HasTab 11 (job_rows jobs)
job_tab jobs = tab_mapped 11 (λ (j : Job). job_row (stored_of j)) jobs (λ x. refl)

to_eleven : (t : State) → HasTabsTo 11 (own_part t ++ job_rows t.jobs)
to_eleven t r i = elim (of_parts (own_part t) (job_rows t.jobs) r i) as (λ _. r.tab ≤ 11) [
  | inl k ↦ (let most = to_ten t r k in omega arith)
  | inr k ↦ (let at : r.tab ≡ 11 = job_tab t.jobs r k in omega arith)
]

one_ordered : (o : Option RowChange) → AreInOrder (option_to_list o)
one_ordered None = tt
one_ordered (Some c) = ((λ later i. absurd i), tt)

-- Two states, of which the second has the jobs of the first and what a call makes

module _ (s t : State) (sound : IsSound s) (range : IsInRange s) (after : IsSound t) (in_range : IsInRange t) (goes_on : (j : Job) → IsIn j s.jobs → (k : Job) × IsIn k t.jobs × (k.serial ≡ j.serial)) (c : Option RowChange) (d : Differs (own_part s) (own_part t) (option_to_list c)) where
  abbrev made : List RowChange
  made = option_to_list c

  abbrev job_changes : List RowChange
  job_changes = puts (new_job_rows s.jobs t.jobs)

  abbrev counted : List RowChange
  counted = counter_changes (counts_of s) (counts_of t)

  abbrev counters : State → List Row
  counters u = counter_rows u.next_number u.next_place u.next_serial

  jobs_apart : AreApart (own_part s) (own_part t) (job_rows s.jobs) (job_rows t.jobs)
  jobs_apart = apart_tabs 10 11 (own_part s) (own_part t) (job_rows s.jobs) (job_rows t.jobs) (omega arith) (to_ten s) (to_ten t) (job_tab s.jobs) (job_tab t.jobs)

  counters_apart : AreApart (own_part s ++ job_rows s.jobs) (own_part t ++ job_rows t.jobs) (counters s) (counters t)
  counters_apart = apart_tabs 11 12 (own_part s ++ job_rows s.jobs) (own_part t ++ job_rows t.jobs) (counters s) (counters t) (omega arith) (to_eleven s) (to_eleven t) (tab_counters s.next_number s.next_place s.next_serial) (tab_counters t.next_number t.next_place t.next_serial)

  jobs_differ_so : Differs (job_rows s.jobs) (job_rows t.jobs) job_changes
  jobs_differ_so = jobs_differ s.jobs t.jobs (kept_ascending s (kept_of s sound range)) goes_on

  jobs_ordered : AreInOrder job_changes
  jobs_ordered = puts_in_order (new_job_rows s.jobs t.jobs) (filter_ascending _ (job_rows t.jobs) (kept_ascending t (kept_of t after in_range)))

  first_differ : Differs (own_part s ++ job_rows s.jobs) (own_part t ++ job_rows t.jobs) (made ++ job_changes)
  first_differ = both_differ (own_part s) (own_part t) (job_rows s.jobs) (job_rows t.jobs) made job_changes jobs_apart d jobs_differ_so

  count_differs : Differs (counters s) (counters t) counted
  count_differs = counters_differ (counts_of s) (counts_of t) (counts_fit s sound) (counts_fit t after)

  all_differ : Differs (rows_of s) (rows_of t) (made ++ job_changes ++ counted)
  all_differ = both_differ (own_part s ++ job_rows s.jobs) (own_part t ++ job_rows t.jobs) (counters s) (counters t) (made ++ job_changes) counted counters_apart first_differ count_differs

  all_ordered : AreInOrder (made ++ job_changes ++ counted)
  all_ordered =
      both_ordered (own_part s ++ job_rows s.jobs) (own_part t ++ job_rows t.jobs) (counters s) (counters t) (made ++ job_changes) counted counters_apart first_differ count_differs
      (both_ordered (own_part s) (own_part t) (job_rows s.jobs) (job_rows t.jobs) made job_changes jobs_apart d jobs_differ_so (one_ordered c) jobs_ordered)
      (counters_ordered (counts_of s) (counts_of t) (counts_fit s sound) (counts_fit t after))

  tables_differ : Differs (tables s) (tables t) (made ++ job_changes ++ counted)
  tables_differ =
      differs_as (rows_of s) (rows_of t) (tables s) (tables t) (made ++ job_changes ++ counted)
      (in_tables (rows_of s) (own_rows s sound range)) (of_tables (rows_of s))
      (in_tables (rows_of t) (own_rows t after in_range)) (of_tables (rows_of t))
      all_differ

  is_their_difference : IsDifference (tables s) (tables t) (made ++ job_changes ++ counted)
  is_their_difference = is_difference (tables s) (tables t) (made ++ job_changes ++ counted) (put_in_order (rows_of s)) (put_in_order (rows_of t)) all_ordered tables_differ

-- A step

same_part : (u t : State) → t.objects ≡ u.objects → t.held ≡ u.held → own_part t ≡ own_part u
same_part u t e f = ap (λ (rows : List Row). rows ++ held_rows t.held) (ap object_rows e) ∙ ap (λ (q : List QName). object_rows u.objects ++ held_rows q) f

own_before : (u t : State) → t.objects ≡ u.objects → t.held ≡ u.held → HasOwn t → HasOwn u
own_before u t e f own = record {
  objects = subst HasOwnPlaces (ap object_rows e) own.objects;
  held = subst HasOwnPlaces (ap held_rows f) own.held;
}

settled_differ : (s u : State) (cs : List RowChange) → Differs (own_part s) (own_part u) cs → Differs (own_part s) (own_part (settle u)) cs
settled_differ s u cs d = subst (λ (rows : List Row). Differs (own_part s) rows cs) (sym (same_part u (settle u) (settled_aside u).objects (settled_aside u).held)) d

-- each job stands there still, by its serial
successor : (s t : State) → GoesOn s t → (j : Job) → IsIn j s.jobs → (k : Job) × IsIn k t.jobs × (k.serial ≡ j.serial)
successor s t on j i = let k = on j i in (k.0, k.1, k.2.serial)

pub step_changes_are_difference : StepChangesAreDifference
unfolding step
step_changes_are_difference s caller call moment changes sound range fit late e =
    let u = (apply (with_clock s moment) caller call).state in
    let t = settle u in
    let after : IsSound t = step_keeps_sound s caller call moment sound in
    let in_range : IsInRange t = step_keeps_ranges s caller call moment late fit sound range in
    let own : HasOwn (with_clock s moment) = (let o = own_of s sound range in record { objects = o.objects; held = o.held }) in
    let now : HasOwn u = own_before u t (settled_aside u).objects (settled_aside u).held (own_of t after in_range) in
    let called = call_differs (with_clock s moment) (clock_sound s moment sound) own caller call now in
    let whole = is_their_difference s t sound range after in_range (successor s t (step_goes_on s caller call moment sound.numbered)) (call_change (removed_number s.objects call) call (apply (with_clock s moment) caller call).reply) (settled_differ (with_clock s moment) u _ called) in
    subst (IsDifference (tables s) (tables t)) (sym e) whole
