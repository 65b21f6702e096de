-- What rows and the states of which they are say of serials.
use Rattle.std.proofs.Common.{◌≡◌, ℕ, ℤ, ◌<◌, false, List, [], ◌∷◌, map, sym, ap, subst, ◌∙◌, refl, inl, inr, arith}
use Rattle.wm_base.specs.declared.job.EndCause.TheVariants.{Restarted}
use Rattle.wm_base.proofs.Tests.{Some-injective}
use Rattle.wm_traits.specs.declared.row.Row.{Row}
use Rattle.wm_law.specs.Counts.{is_active, is_waiting}
use Rattle.wm_law.specs.Kept.{IsBelow, IsNumbered}
use Rattle.wm_law.specs.Laws.{IsIn}
use Rattle.wm_law.specs.Opening.{empty}
use Rattle.wm_law.specs.Sound.{IsSound}
use Rattle.wm_law.specs.declared.job.Job.{Job}
use Rattle.wm_law.specs.declared.job.Phase.{Phase}
use Rattle.wm_law.specs.declared.job.Phase.TheVariants as phase
use Rattle.wm_law.specs.declared.state.State.{State}
use Rattle.wm_law.proofs.Forward.{only_one}
use Rattle.wm_law.proofs.Members.{in_mapped}
use Rattle.wm_law.proofs.Opened.{opening_is}
use Rattle.wm_rows.specs.Rows.{counter_row}
use Rattle.wm_rows.specs.declared.stored.Counter.{Counter}
use Rattle.wm_rows.specs.declared.stored.Counter.TheVariants as counter
use Rattle.wm_rows.specs.JobText.{job_row}
use Rattle.wm_rows.specs.Stored.{IsStored, stored_of, stored_phase}
use Rattle.wm_rows.specs.declared.stored_job.StoredJob.{StoredJob}
use Rattle.wm_rows.specs.declared.stored_job.StoredPhase.TheVariants.{Waiting}
use Rattle.wm_rows.proofs.ReadBack.{row_back}
use Rattle.wm_tables.specs.Ranges.{IsInRange}
use Rattle.wm_tables.specs.Restart.{IsRestart}
use Rattle.wm_tables.specs.Tables.{rows_of, tables}
use Rattle.wm_tables.proofs.Building.{built}
use Rattle.wm_tables.proofs.Ends.{contained, one_counter}
use Rattle.wm_tables.proofs.Found.{counters_kept, value}
use Rattle.wm_tables.proofs.NewRows.{job_stands}
use Rattle.wm_tables.proofs.OwnRows.{own_rows}
use Rattle.wm_tables.proofs.RangedRestarts.{restart_is_in_range}
use Rattle.wm_tables.proofs.RowOrder.{ascending, in_tables, of_tables}
use Rattle.wm_tables.proofs.RowsOf.{IsRowOf, in_rows, of_rows, of_class, of_program, of_queue, of_jobd, of_sbsd, of_queue_entry, of_route_entry, of_auto_entry, of_pre_entry, of_held, of_job, of_number, of_place, of_schema, of_serial}
use Rattle.wm_tables.specs.Starts.{IsNextIn, IsSpentIn, IsWaitingIn}

-- A state that rows make

-- none of its jobs is active
pub none_active : (offset : ℤ) (rows : List Row) (s : State) → IsRestart offset rows s → (j : Job) → IsIn j s.jobs → is_active j.phase ≡ false
none_active offset [] s h j i = absurd (subst (λ (t : State). IsIn j t.jobs) (h ∙ opening_is offset) i)
none_active offset (row ∷ rows) s h j i = (built offset (row ∷ rows) s (ascending (row ∷ rows) h.0.order) h.0.read).jobs.idle j i

-- one that waits there waits in the rows
pub waiting_found : (offset : ℤ) (rows : List Row) (s : State) → IsRestart offset rows s → (j : Job) → IsIn j s.jobs → j.phase ≡ phase.Waiting → IsWaitingIn rows j.serial
waiting_found offset [] s h j i w = absurd (subst (λ (t : State). IsIn j t.jobs) (h ∙ opening_is offset) i)
waiting_found offset (row ∷ rows) s h j i w =
    let range = restart_is_in_range offset (row ∷ rows) s h in
    record {
      job = stored_of j;
      stored = (range.jobs j i).stored;
      stands = job_stands offset (row ∷ rows) s h.0 j i (λ e. (let clash : phase.Waiting ≡ phase.Ended Restarted = sym w ∙ e in absurd (cc)));
      its = refl;
      waits = ap stored_phase w;
    }

-- its next serial is that of the rows
pub next_found : (offset : ℤ) (rows : List Row) (s : State) → IsRestart offset rows s → IsNextIn rows s.next_serial
next_found offset [] s h = ap (λ (t : State). t.next_serial) (h ∙ opening_is offset)
next_found offset (row ∷ rows) s h =
    let c = h.1 counter.Serial in
    let i = contained (row ∷ rows) (counter_row counter.Serial c.0) c.1 in
    let k = counters_kept (row ∷ rows) (empty offset) s (ascending (row ∷ rows) h.0.order) h.0.read (counter_row counter.Serial c.0) i (omega arith) in
    let one : k.0 ≡ counter.Serial = one_counter k.0 counter.Serial (ap (λ (r : Row). r.key) k.1) in
    let same : counter_row counter.Serial s.next_serial ≡ counter_row counter.Serial c.0 = sym (ap (λ (d : Counter). counter_row d (value d s)) one) ∙ k.1 in
    subst (λ (r : Row). IsIn r (row ∷ rows)) (sym same) i

-- The tables of a state

-- stored jobs with one row are one
pub one_job : (a b : StoredJob) → IsStored a → IsStored b → job_row a ≡ job_row b → a ≡ b
one_job a b h k e = Some-injective a b (sym (row_back (job_row b) a h e) ∙ row_back (job_row b) b k refl)

-- the row of a stored job is that of one of the jobs
by_row : (s : State) → IsInRange s → (k : StoredJob) → IsStored k → IsRowOf s (job_row k) → (j : Job) × IsIn j s.jobs × (k ≡ stored_of j)
by_row s range k h (of_class x i e) = let tab : ◌≡◌ {A = ℕ} 11 1 = ap (λ (r : Row). r.tab) e in absurd (omega arith)
by_row s range k h (of_program x i e) = let tab : ◌≡◌ {A = ℕ} 11 2 = ap (λ (r : Row). r.tab) e in absurd (omega arith)
by_row s range k h (of_queue x i e) = let tab : ◌≡◌ {A = ℕ} 11 3 = ap (λ (r : Row). r.tab) e in absurd (omega arith)
by_row s range k h (of_jobd x i e) = let tab : ◌≡◌ {A = ℕ} 11 4 = ap (λ (r : Row). r.tab) e in absurd (omega arith)
by_row s range k h (of_sbsd x i e) = let tab : ◌≡◌ {A = ℕ} 11 5 = ap (λ (r : Row). r.tab) e in absurd (omega arith)
by_row s range k h (of_queue_entry x d i j e) = let tab : ◌≡◌ {A = ℕ} 11 6 = ap (λ (r : Row). r.tab) e in absurd (omega arith)
by_row s range k h (of_route_entry x d i j e) = let tab : ◌≡◌ {A = ℕ} 11 7 = ap (λ (r : Row). r.tab) e in absurd (omega arith)
by_row s range k h (of_auto_entry x d i j e) = let tab : ◌≡◌ {A = ℕ} 11 8 = ap (λ (r : Row). r.tab) e in absurd (omega arith)
by_row s range k h (of_pre_entry x d i j e) = let tab : ◌≡◌ {A = ℕ} 11 9 = ap (λ (r : Row). r.tab) e in absurd (omega arith)
by_row s range k h (of_held q i e) = let tab : ◌≡◌ {A = ℕ} 11 10 = ap (λ (r : Row). r.tab) e in absurd (omega arith)
by_row s range k h (of_job j i e) = (j, i, one_job k (stored_of j) h (range.jobs j i).stored e)
by_row s range k h (of_number e) = let tab : ◌≡◌ {A = ℕ} 11 12 = ap (λ (r : Row). r.tab) e in absurd (omega arith)
by_row s range k h (of_place e) = let tab : ◌≡◌ {A = ℕ} 11 12 = ap (λ (r : Row). r.tab) e in absurd (omega arith)
by_row s range k h (of_schema e) = let tab : ◌≡◌ {A = ℕ} 11 12 = ap (λ (r : Row). r.tab) e in absurd (omega arith)
by_row s range k h (of_serial e) = let tab : ◌≡◌ {A = ℕ} 11 12 = ap (λ (r : Row). r.tab) e in absurd (omega arith)

below_in : (next n : ℕ) (ns : List ℕ) → IsBelow next ns → IsIn n ns → n < next
below_in next n [] h i = absurd i
below_in next n (m ∷ ns) h (inl same) = let less = h.0 in omega arith
below_in next n (m ∷ ns) h (inr i) = below_in next n ns h.1 i

-- the serial of each job is below the next one
pub serial_below : (s : State) → IsNumbered s → (j : Job) → IsIn j s.jobs → j.serial < s.next_serial
serial_below s n j i = below_in s.next_serial j.serial (map (λ k. k.serial) s.jobs) n.serials.below (in_mapped (λ (k : Job). k.serial) s.jobs j i)

-- a job of the serial is past Waiting
pub record IsPast (s : State) (serial : ℕ) : Type 0 where
  pub job : Job
  pub stands : IsIn job s.jobs
  pub its : job.serial ≡ serial
  pub past : is_waiting job.phase ≡ false

stored_waits : (p : Phase) → stored_phase p ≡ Waiting → is_waiting p ≡ false → ⊥
stored_waits phase.Waiting e h = absurd (cc)
stored_waits phase.Starting e h = absurd (cc)
stored_waits (phase.Handed m) e h = absurd (cc)
stored_waits (phase.Running m) e h = absurd (cc)
stored_waits (phase.Ended c) e h = absurd (cc)

next_in : (rows : List Row) (n : ℕ) → IsIn (counter_row counter.Serial n) rows → IsNextIn rows n
next_in [] n i = absurd i
next_in (row ∷ rows) n i = i

-- so the serial is spent in the state's tables
pub spent : (s : State) (serial : ℕ) → IsSound s → IsInRange s → IsPast s serial → IsSpentIn (tables s) serial
spent s serial sound range h = record {
  waits = λ w. (
      let k = by_row s range w.job w.stored (of_rows s (job_row w.job) (of_tables (rows_of s) (job_row w.job) w.stands)) in
      let same : h.job ≡ k.0 = only_one s.jobs sound.numbered.serials.distinct h.job k.0 h.stands k.1 (h.its ∙ sym w.its ∙ ap (λ (j : StoredJob). j.serial) k.2) in
      let waits : stored_phase k.0.phase ≡ Waiting = sym (ap (λ (j : StoredJob). j.phase) k.2) ∙ w.waits in
      stored_waits k.0.phase waits (ap (λ (j : Job). is_waiting j.phase) (sym same) ∙ h.past));
  next = (
    s.next_serial,
    next_in (tables s) s.next_serial (in_tables (rows_of s) (own_rows s sound range) (counter_row counter.Serial s.next_serial) (in_rows s (counter_row counter.Serial s.next_serial) (of_serial refl))),
    (let its = h.its in let less = serial_below s sound.numbered h.job h.stands in omega arith),
  );
}
