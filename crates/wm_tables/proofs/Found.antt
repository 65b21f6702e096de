-- What stands in rows that make a state, and what of the state has its row among them.
use Rattle.std.proofs.Common.{◌≡◌, ◌⊎◌, ℕ, ◌≤◌, ◌++◌, true, List, [], ◌∷◌, refl, sym, ap, subst, ◌∙◌, inl, inr, arith}
use Rattle.wm_base.specs.declared.qname.QName.{QName}
use Rattle.wm_desc.specs.Sorted.{place_of as place_by}
use Rattle.wm_desc.specs.Table.{qname_cmp}
use Rattle.wm_traits.specs.declared.row.Row.{Row}
use Rattle.wm_traits.specs.Rows.{is_before, place_of}
use Rattle.wm_law.specs.Laws.{IsIn}
use Rattle.wm_law.specs.Objects.{AreSound}
use Rattle.wm_law.specs.Queues.{own_name, with_held_queue}
use Rattle.wm_law.specs.Stepped.{Stepped}
use Rattle.wm_law.specs.declared.call.Reply.TheVariants.{Made}
use Rattle.wm_law.specs.declared.job.Job.{Job}
use Rattle.wm_law.specs.declared.state.State.{State}
use Rattle.wm_law.proofs.Members.{in_longer, last_in, of_last}
use Rattle.wm_rows.specs.Rows.{counter_row, counter_word, held_row}
use Rattle.wm_rows.specs.Tables.{held_rows, object_rows}
use Rattle.wm_rows.specs.declared.stored.Counter.{Counter}
use Rattle.wm_rows.specs.declared.stored.Counter.TheVariants as counter
use Rattle.wm_rows.specs.JobText.{job_row}
use Rattle.wm_rows.specs.declared.stored_job.StoredJob.{StoredJob}
use Rattle.wm_tables.specs.Restart.{job_of, with_counter, with_stored, IsGoodCount, IsRead, Takes}
use Rattle.wm_tables.proofs.Ends.{counts}
use Rattle.wm_tables.proofs.Made.{call_makes, row_holds, tabs_rise}
use Rattle.wm_tables.proofs.MadeRows.{IsRowMade, row_made}
use Rattle.wm_tables.proofs.OneMoreRow.{IsMore, fewer_in, more_in, more_mapped, more_within, row_in}
use Rattle.wm_tables.proofs.RowOrder.{IsAscending}
use Rattle.wm_tables.proofs.SameRows.{two_places}

-- the rows of a state's objects and held queues
abbrev pub plain : State → List Row
plain s = object_rows s.objects ++ held_rows s.held

-- the job is the one of a stored job whose row is found
pub record HasJobOf (found : List Row) (j : Job) : Type 0 where
  pub job : StoredJob
  pub found_row : IsIn (job_row job) found
  pub is : j ≡ job_of job

-- what a row is that made part of a state
pub data IsThing (t : State) (row : Row) : Type 0 where
  plain_thing : IsIn row (plain t) → IsThing t row
  job_thing : (k : StoredJob) → job_row k ≡ row → IsIn (job_of k) t.jobs → IsThing t row
  counter_thing : 12 ≤ row.tab → IsThing t row

-- what one row leaves: what was there, and what it is the row of
record Leaves (s : State) (row : Row) (t : State) : Type 0 where
  old : (r : Row) → IsIn r (plain s) → IsIn r (plain t)
  each : (r : Row) → IsIn r (plain t) → (r ≡ row) ⊎ IsIn r (plain s)
  old_jobs : (j : Job) → IsIn j s.jobs → IsIn j t.jobs
  each_job : (j : Job) → IsIn j t.jobs → IsIn j s.jobs ⊎ HasJobOf (row ∷ []) j
  thing : IsThing t row

-- one row more of objects and held queues
more_left : (s t : State) (row : Row) → IsMore row (plain s) (plain t) → t.jobs ≡ s.jobs → Leaves s row t
more_left s t row m same = record {
  old = fewer_in row (plain s) (plain t) m;
  each = more_in row (plain s) (plain t) m;
  old_jobs = λ j i. subst (IsIn j) (sym same) i;
  each_job = λ j i. inl (subst (IsIn j) same i);
  thing = plain_thing (row_in row (plain s) (plain t) m);
}

row_left : (s : State) (t : Stepped) (row : Row) → t.reply ≡ Made → IsRowMade s row t → Leaves s row t.state
row_left s t row made (inl m) =
    subst (λ (u : Stepped). Leaves s row u.state) (sym m.1)
    (more_left s (record s { objects = m.0 }) row ((more_within row).left (object_rows s.objects) (object_rows m.0) (held_rows s.held) m.2) refl)
row_left s t row made (inr m) = let no = sym (ap (λ (u : Stepped). u.reply) m.1) ∙ made in absurd (cc)

held_left : (s : State) (q : QName) (row : Row) → held_row q ≡ row → Leaves s row (with_held_queue s q)
held_left s q row e =
    let t = with_held_queue s q in
    let m = subst (λ (r : Row). IsMore r (held_rows s.held) (held_rows t.held)) e (more_mapped held_row s.held (place_by own_name qname_cmp q s.held) q) in
    more_left s t row ((more_within row).right (object_rows s.objects) (held_rows s.held) (held_rows t.held) m) refl

job_left : (s : State) (k : StoredJob) (row : Row) → job_row k ≡ row → Leaves s row (with_stored s k)
job_left s k row e = record {
  old = λ r i. i;
  each = λ r i. inr i;
  old_jobs = λ j i. in_longer s.jobs (job_of k) j i;
  each_job = λ j i. (elim (of_last s.jobs (job_of k) j i) as (λ _. IsIn j s.jobs ⊎ HasJobOf (row ∷ []) j) [
    | inl was ↦ inl was
    | inr same ↦ inr (record { job = k; found_row = inl e; is = same })
  ]);
  thing = job_thing k e (last_in s.jobs (job_of k));
}

count_left : (s : State) (c : Counter) (n : ℕ) (row : Row) → 12 ≤ row.tab → Leaves s row (with_counter s c n)
count_left s counter.Number n row late = record { old = λ r i. i; each = λ r i. inr i; old_jobs = λ j i. i; each_job = λ j i. inl i; thing = counter_thing late }
count_left s counter.Place n row late = record { old = λ r i. i; each = λ r i. inr i; old_jobs = λ j i. i; each_job = λ j i. inl i; thing = counter_thing late }
count_left s counter.Schema n row late = record { old = λ r i. i; each = λ r i. inr i; old_jobs = λ j i. i; each_job = λ j i. inl i; thing = counter_thing late }
count_left s counter.Serial n row late = record { old = λ r i. i; each = λ r i. inr i; old_jobs = λ j i. i; each_job = λ j i. inl i; thing = counter_thing late }

counted_objects : (s : State) (c : Counter) (n : ℕ) → (with_counter s c n).objects ≡ s.objects
counted_objects s counter.Number n = refl
counted_objects s counter.Place n = refl
counted_objects s counter.Schema n = refl
counted_objects s counter.Serial n = refl

-- one row keeps sound objects so
sound_after : (s : State) (row : Row) (t : State) → Takes s row t → AreSound s.objects → AreSound t.objects
sound_after s row t (inl m) h =
    let made = call_makes s _ m.command m.accepted in
    subst (λ (u : State). AreSound u.objects) (sym (m.makes ∙ made.2)) (made.1.sound h)
sound_after s row t (inr (inl m)) h = subst (λ (u : State). AreSound u.objects) (sym (m.makes ∙ (row_holds s m.queue m.accepted).is_with)) h
sound_after s row t (inr (inr (inl m))) h = subst (λ (u : State). AreSound u.objects) (sym m.makes) h
sound_after s row t (inr (inr (inr m))) h = subst AreSound (sym (ap (λ (u : State). u.objects) m.makes ∙ counted_objects s m.counter m.count)) h

left : (s : State) (row : Row) (t : State) → AreSound s.objects → Takes s row t → Leaves s row t
left s row t h (inl m) = subst (Leaves s row) (sym m.makes) (row_left s _ row m.accepted (row_made s h _ m.command row m.is_row))
left s row t h (inr (inl m)) = subst (Leaves s row) (sym (m.makes ∙ (row_holds s m.queue m.accepted).is_with)) (held_left s m.queue row m.is_row)
left s row t h (inr (inr (inl m))) = subst (Leaves s row) (sym m.makes) (job_left s m.job row m.is_row)
left s row t h (inr (inr (inr m))) =
    let twelve : 12 ≡ row.tab = ap (λ (r : Row). r.tab) m.is_row in
    subst (Leaves s row) (sym m.makes) (count_left s m.counter m.count row (omega arith))

-- What all rows leave

old_plain : (rows : List Row) (s t : State) → AreSound s.objects → IsRead s rows t → (r : Row) → IsIn r (plain s) → IsIn r (plain t)
old_plain [] s t h read r i = subst (λ (u : State). IsIn r (plain u)) (sym read) i
old_plain (row ∷ rows) s t h read r i = old_plain rows read.0 t (sound_after s row read.0 read.1 h) read.2 r ((left s row read.0 h read.1).old r i)

old_jobs : (rows : List Row) (s t : State) → AreSound s.objects → IsRead s rows t → (j : Job) → IsIn j s.jobs → IsIn j t.jobs
old_jobs [] s t h read j i = subst (λ (u : State). IsIn j u.jobs) (sym read) i
old_jobs (row ∷ rows) s t h read j i = old_jobs rows read.0 t (sound_after s row read.0 read.1 h) read.2 j ((left s row read.0 h read.1).old_jobs j i)

still_thing : (rows : List Row) (s t : State) (row : Row) → AreSound s.objects → IsRead s rows t → IsThing s row → IsThing t row
still_thing rows s t row h read (plain_thing i) = plain_thing (old_plain rows s t h read row i)
still_thing rows s t row h read (job_thing k e i) = job_thing k e (old_jobs rows s t h read (job_of k) i)
still_thing rows s t row h read (counter_thing late) = counter_thing late

-- each row is that of something
pub things : (rows : List Row) (s t : State) → AreSound s.objects → IsRead s rows t → (r : Row) → IsIn r rows → IsThing t r
things [] s t h read r i = absurd i
things (row ∷ rows) s t h read r (inl same) = subst (IsThing t) (sym same) (still_thing rows read.0 t row (sound_after s row read.0 read.1 h) read.2 (left s row read.0 h read.1).thing)
things (row ∷ rows) s t h read r (inr i) = things rows read.0 t (sound_after s row read.0 read.1 h) read.2 r i

-- the rows of objects and held queues are found
pub plain_found : (rows : List Row) (s t : State) → AreSound s.objects → IsRead s rows t → (r : Row) → IsIn r (plain t) → IsIn r (plain s) ⊎ IsIn r rows
plain_found [] s t h read r i = inl (subst (λ (u : State). IsIn r (plain u)) read i)
plain_found (row ∷ rows) s t h read r i =
    elim (plain_found rows read.0 t (sound_after s row read.0 read.1 h) read.2 r i) as (λ _. IsIn r (plain s) ⊎ IsIn r (row ∷ rows)) [
      | inl was ↦ (elim ((left s row read.0 h read.1).each r was) as (λ _. IsIn r (plain s) ⊎ IsIn r (row ∷ rows)) [ inl same ↦ inr (inl same) | inr old ↦ inl old ])
      | inr later ↦ inr (inr later)
    ]

job_first : (row : Row) (rows : List Row) (j : Job) → HasJobOf (row ∷ []) j → HasJobOf (row ∷ rows) j
job_first row rows j h =
    let here : IsIn (job_row h.job) (row ∷ rows) = elim h.found_row as (λ _. IsIn (job_row h.job) (row ∷ rows)) [ inl e ↦ inl e | inr none ↦ absurd none ] in
    record { job = h.job; found_row = here; is = h.is }

-- each job is the one of a row that is found
pub jobs_found : (rows : List Row) (s t : State) → AreSound s.objects → IsRead s rows t → (j : Job) → IsIn j t.jobs → IsIn j s.jobs ⊎ HasJobOf rows j
jobs_found [] s t h read j i = inl (subst (λ (u : State). IsIn j u.jobs) read i)
jobs_found (row ∷ rows) s t h read j i =
    elim (jobs_found rows read.0 t (sound_after s row read.0 read.1 h) read.2 j i) as (λ _. IsIn j s.jobs ⊎ HasJobOf (row ∷ rows) j) [
      | inl was ↦ (elim ((left s row read.0 h read.1).each_job j was) as (λ _. IsIn j s.jobs ⊎ HasJobOf (row ∷ rows) j) [ inl old ↦ inl old | inr of ↦ inr (job_first row rows j of) ])
      | inr of ↦ inr (record { job = of.job; found_row = inr of.found_row; is = of.is })
    ]

-- Counters

-- what a counter counts; the schema is 1
abbrev pub value : Counter → State → ℕ
value counter.Number s = s.next_number
value counter.Place s = s.next_place
value counter.Schema s = 1
value counter.Serial s = s.next_serial

counted_value : (s : State) (c : Counter) (n : ℕ) → IsGoodCount s c n → value c (with_counter s c n) ≡ n
counted_value s counter.Number n g = refl
counted_value s counter.Place n g = refl
counted_value s counter.Schema n g = sym g
counted_value s counter.Serial n g = refl

other_value : (s : State) (c d : Counter) (n : ℕ) → (d ≡ c → ⊥) → value c (with_counter s d n) ≡ value c s
other_value s counter.Number counter.Number n other = absurd (other refl)
other_value s counter.Number counter.Place n other = refl
other_value s counter.Number counter.Schema n other = refl
other_value s counter.Number counter.Serial n other = refl
other_value s counter.Place counter.Number n other = refl
other_value s counter.Place counter.Place n other = absurd (other refl)
other_value s counter.Place counter.Schema n other = refl
other_value s counter.Place counter.Serial n other = refl
other_value s counter.Schema d n other = refl
other_value s counter.Serial counter.Number n other = refl
other_value s counter.Serial counter.Place n other = refl
other_value s counter.Serial counter.Schema n other = refl
other_value s counter.Serial counter.Serial n other = absurd (other refl)

-- a row of the last table that isn't that of this counter
record IsOtherCounter (c : Counter) (r : Row) : Type 0 where
  late : 12 ≤ r.tab
  other : place_of r ≡ 12 ∷ counter_word c → ⊥

other_counter : (row q : Row) (c : Counter) (n : ℕ) → 12 ≤ row.tab → counter_row c n ≡ row → is_before row q ≡ true → IsOtherCounter c q
other_counter row q c n late e h = let rise = tabs_rise row q h in record { late = omega arith; other = λ f. two_places row q h (ap place_of (sym e) ∙ sym f) }

later_value : (c : Counter) (rows : List Row) (s t : State) → ((r : Row) → IsIn r rows → IsOtherCounter c r) → IsRead s rows t → value c t ≡ value c s
later_value c [] s t others read = ap (value c) read
later_value c (row ∷ rows) s t others read =
    let h = others row (inl refl) in
    let m = counts s row read.0 h.late read.1 in
    let not_this : m.counter ≡ c → ⊥ = λ e. h.other (ap place_of (sym m.is_row) ∙ ap (λ (d : Counter). 12 ∷ counter_word d) e) in
    later_value c rows read.0 t (λ r i. others r (inr i)) read.2 ∙ (ap (value c) m.makes ∙ other_value s c m.counter m.count not_this)

-- each row of the last table has what a counter of the state counts
pub counters_kept : (rows : List Row) (s t : State) → IsAscending rows → IsRead s rows t → (r : Row) → IsIn r rows → 12 ≤ r.tab → (c : Counter) × (counter_row c (value c t) ≡ r)
counters_kept [] s t up read r i late = absurd i
counters_kept (row ∷ rows) s t up read r (inl same) late =
    let here : 12 ≤ row.tab = subst (λ (q : Row). 12 ≤ q.tab) same late in
    let m = counts s row read.0 here read.1 in
    let others : (q : Row) → IsIn q rows → IsOtherCounter m.counter q = λ q i. other_counter row q m.counter m.count here m.is_row (up.0 q i) in
    let counted : value m.counter read.0 ≡ m.count = ap (value m.counter) m.makes ∙ counted_value s m.counter m.count m.good in
    let kept : value m.counter t ≡ m.count = later_value m.counter rows read.0 t others read.2 ∙ counted in
    (m.counter, ap (counter_row m.counter) kept ∙ m.is_row ∙ sym same)
counters_kept (row ∷ rows) s t up read r (inr i) late = counters_kept rows read.0 t up.1 read.2 r i late
