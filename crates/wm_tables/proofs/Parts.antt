-- The part of a state whose rows pass a test, and the step to a part with one row more.
use Rattle.std.proofs.Common.{◌<◌, ◌≡◌, ℕ, ℤ, ◌+◌, Bool, true, false, cond, nat_eq, List, [], ◌∷◌, map, filter, fold, max, refl, sym, ap, ◌∙◌, inl, inr, arith}
use Rattle.std.proofs.lemmas.Bool.{eq-eqb}
use Rattle.wm_base.specs.declared.job.Class.{Class}
use Rattle.wm_base.specs.declared.limit.Limit.{Limit}
use Rattle.wm_base.specs.declared.qname.QName.{QName}
use Rattle.wm_desc.specs.declared.description.Jobd.{Jobd}
use Rattle.wm_desc.specs.declared.description.Jobq.{Jobq}
use Rattle.wm_desc.specs.declared.description.Program.{Program}
use Rattle.wm_desc.specs.declared.description.Sbsd.{Sbsd}
use Rattle.wm_desc.specs.declared.entry.AutoEntry.{AutoEntry}
use Rattle.wm_desc.specs.declared.entry.PreEntry.{PreEntry}
use Rattle.wm_desc.specs.declared.entry.QueueEntry.{QueueEntry}
use Rattle.wm_desc.specs.declared.entry.RouteEntry.{RouteEntry}
use Rattle.wm_traits.specs.declared.row.Row.{Row}
use Rattle.wm_traits.specs.Rows.{is_before, place_of}
use Rattle.wm_law.specs.Laws.{IsIn}
use Rattle.wm_law.specs.Opening.{empty}
use Rattle.wm_law.specs.declared.job.Job.{Job}
use Rattle.wm_law.specs.declared.state.State.{State}
use Rattle.wm_law.proofs.Members.{left_in, left_same}
use Rattle.wm_rows.specs.Rows.{class_row, program_row, queue_row, jobd_row, sbsd_row, queue_entry_row, route_entry_row, auto_entry_row, pre_entry_row, held_row, counter_row}
use Rattle.wm_rows.specs.declared.stored.Counter.{Counter}
use Rattle.wm_rows.specs.declared.stored.Counter.TheVariants as counter
use Rattle.wm_rows.specs.JobText.{job_row}
use Rattle.wm_rows.specs.Stored.{stored_of}
use Rattle.wm_tables.specs.Restart.{restarted_job}
use Rattle.wm_tables.specs.Tables.{rows_of}
use Rattle.wm_tables.proofs.OwnPlaces.{same_tab}
use Rattle.wm_tables.proofs.RowsOf.{IsRowOf, in_rows, of_class, of_program, of_queue, of_jobd, of_sbsd, of_queue_entry, of_route_entry, of_auto_entry, of_pre_entry, of_held, of_job, of_number, of_place, of_serial}

-- a description with the entries whose rows pass
abbrev pub sbsd_part : (Row → Bool) → QName × Sbsd → QName × Sbsd
sbsd_part p x = (
  x.0,
  record {
    maxjobs = x.1.maxjobs;
    queues = filter (λ e. p (queue_entry_row x.0 e)) x.1.queues;
    routes = filter (λ e. p (route_entry_row x.0 e)) x.1.routes;
    autos = filter (λ e. p (auto_entry_row x.0 e)) x.1.autos;
    pres = filter (λ e. p (pre_entry_row x.0 e)) x.1.pres;
  },
)

abbrev pub class_part : (Row → Bool) → State → List (QName × Class)
class_part p s = filter (λ x. p (class_row x)) s.objects.classes

abbrev pub program_part : (Row → Bool) → State → List (QName × Program)
program_part p s = filter (λ x. p (program_row x)) s.objects.programs

abbrev pub queue_part : (Row → Bool) → State → List (QName × Jobq)
queue_part p s = filter (λ x. p (queue_row x)) s.objects.jobqs

abbrev pub jobd_part : (Row → Bool) → State → List (QName × Jobd)
jobd_part p s = filter (λ x. p (jobd_row x)) s.objects.jobds

abbrev pub sbsds_left : (Row → Bool) → State → List (QName × Sbsd)
sbsds_left p s = filter (λ x. p (sbsd_row x)) s.objects.sbsds

abbrev pub sbsds_part : (Row → Bool) → State → List (QName × Sbsd)
sbsds_part p s = map (sbsd_part p) (sbsds_left p s)

abbrev pub held_part : (Row → Bool) → State → List QName
held_part p s = filter (λ q. p (held_row q)) s.held

abbrev pub jobs_left : (Row → Bool) → State → List Job
jobs_left p s = filter (λ j. p (job_row (stored_of j))) s.jobs

abbrev pub jobs_part : (Row → Bool) → State → List Job
jobs_part p s = map restarted_job (jobs_left p s)

-- the next number above those of jobs
abbrev pub reached : (Job → ℕ) → List Job → ℕ
reached key jobs = fold (λ n j. max n (key j + 1)) 1 jobs

-- what a counter says, where its row passes, else what the jobs have reached
abbrev pub number_part : (Row → Bool) → State → ℕ
number_part p s = cond (p (counter_row counter.Number s.next_number)) s.next_number (reached (λ j. j.job.number) (jobs_left p s))

abbrev pub place_part : (Row → Bool) → State → ℕ
place_part p s = cond (p (counter_row counter.Place s.next_place)) s.next_place (reached (λ j. j.place) (jobs_left p s))

abbrev pub serial_part : (Row → Bool) → State → ℕ
serial_part p s = cond (p (counter_row counter.Serial s.next_serial)) s.next_serial (reached (λ j. j.serial) (jobs_left p s))

-- a state of these parts
abbrev pub state_of : ℤ → List (QName × Class) → List (QName × Program) → List (QName × Jobq) → List (QName × Jobd) → List (QName × Sbsd) → List QName → List Job → ℕ → ℕ → ℕ → State
state_of offset classes programs queues jobds sbsds held jobs number place serial =
    record (empty offset) {
      objects = record { classes = classes; jobqs = queues; programs = programs; jobds = jobds; sbsds = sbsds };
      jobs = jobs;
      held = held;
      next_number = number;
      next_serial = serial;
      next_place = place;
    }

-- the part of a state whose rows pass
abbrev pub state_part : (Row → Bool) → ℤ → State → State
state_part p offset s = state_of offset (class_part p s) (program_part p s) (queue_part p s) (jobd_part p s) (sbsds_part p s) (held_part p s) (jobs_part p s) (number_part p s) (place_part p s) (serial_part p s)

pub same_parts : (o : ℤ) {c0 c1 : List (QName × Class)} {p0 p1 : List (QName × Program)} {q0 q1 : List (QName × Jobq)} {d0 d1 : List (QName × Jobd)} {s0 s1 : List (QName × Sbsd)} {h0 h1 : List QName} {j0 j1 : List Job} {n0 n1 m0 m1 k0 k1 : ℕ} → c0 ≡ c1 → p0 ≡ p1 → q0 ≡ q1 → d0 ≡ d1 → s0 ≡ s1 → h0 ≡ h1 → j0 ≡ j1 → n0 ≡ n1 → m0 ≡ m1 → k0 ≡ k1 → state_of o c0 p0 q0 d0 s0 h0 j0 n0 m0 k0 ≡ state_of o c1 p1 q1 d1 s1 h1 j1 n1 m1 k1
same_parts o {c0 = c0} {c1 = c1} {p0 = p0} {p1 = p1} {q0 = q0} {q1 = q1} {d0 = d0} {d1 = d1} {s0 = s0} {s1 = s1} {h0 = h0} {h1 = h1} {j0 = j0} {j1 = j1} {n0 = n0} {n1 = n1} {m0 = m0} {m1 = m1} {k0 = k0} {k1 = k1} a b c d e f g h i j =
    ap (λ (x : List (QName × Class)). state_of o x p0 q0 d0 s0 h0 j0 n0 m0 k0) a
    ∙ ap (λ (x : List (QName × Program)). state_of o c1 x q0 d0 s0 h0 j0 n0 m0 k0) b
    ∙ ap (λ (x : List (QName × Jobq)). state_of o c1 p1 x d0 s0 h0 j0 n0 m0 k0) c
    ∙ ap (λ (x : List (QName × Jobd)). state_of o c1 p1 q1 x s0 h0 j0 n0 m0 k0) d
    ∙ ap (λ (x : List (QName × Sbsd)). state_of o c1 p1 q1 d1 x h0 j0 n0 m0 k0) e
    ∙ ap (λ (x : List QName). state_of o c1 p1 q1 d1 s1 x j0 n0 m0 k0) f
    ∙ ap (λ (x : List Job). state_of o c1 p1 q1 d1 s1 h1 x n0 m0 k0) g
    ∙ ap (λ (x : ℕ). state_of o c1 p1 q1 d1 s1 h1 j1 x m0 k0) h
    ∙ ap (λ (x : ℕ). state_of o c1 p1 q1 d1 s1 h1 j1 n1 x k0) i
    ∙ ap (λ (x : ℕ). state_of o c1 p1 q1 d1 s1 h1 j1 n1 m1 x) j

-- the row passes the second test and not the first, and all rows else pass both or none; those before it pass
pub record IsStep (s : State) (row : Row) (p q : Row → Bool) : Type 0 where
  pub before : p row ≡ false
  pub after : q row ≡ true
  pub others : (r : Row) → IsIn r (rows_of s) → (place_of r ≡ place_of row → ⊥) → q r ≡ p r
  pub earlier : (r : Row) → IsIn r (rows_of s) → is_before r row ≡ true → p r ≡ true
  pub later : (r : Row) → IsIn r (rows_of s) → is_before row r ≡ true → p r ≡ false

pub map_each : {X Y : Type 0} (f g : X → Y) (xs : List X) → ((x : X) → IsIn x xs → f x ≡ g x) → map f xs ≡ map g xs
map_each f g [] h = refl
map_each f g (x ∷ xs) h = ap (λ (y : _). y ∷ map f xs) (h x (inl refl)) ∙ ap (λ (ys : List _). g x ∷ ys) (map_each f g xs (λ y i. h y (inr i)))

not_equal : (a b c : ℕ) → b ≡ c → nat_eq a b ≡ false → a ≡ c → ⊥
not_equal a b c e other same =
    let yes : nat_eq a b ≡ true = eq-eqb a b (same ∙ sym e) in
    absurd (cc)

-- a row of that table isn't of another
pub far : {b c : ℕ} (a : ℕ) → b ≡ c → nat_eq a b ≡ false → a ≡ c → ⊥
far {b = b} {c = c} a e other = not_equal a b c e other

-- a description of a name with these entries
abbrev pub described_by : QName → Limit → List QueueEntry → List RouteEntry → List AutoEntry → List PreEntry → QName × Sbsd
described_by name maxjobs queues routes autos pres = (name, record { maxjobs = maxjobs; queues = queues; routes = routes; autos = autos; pres = pres })

-- descriptions with the same entries
pub same_entries : (n : QName) (m : Limit) {q0 q1 : List QueueEntry} {r0 r1 : List RouteEntry} {a0 a1 : List AutoEntry} {p0 p1 : List PreEntry} → q0 ≡ q1 → r0 ≡ r1 → a0 ≡ a1 → p0 ≡ p1 → described_by n m q0 r0 a0 p0 ≡ described_by n m q1 r1 a1 p1
same_entries n m {q0 = q0} {q1 = q1} {r0 = r0} {r1 = r1} {a0 = a0} {a1 = a1} {p0 = p0} {p1 = p1} a b c d =
    ap (λ (l : List QueueEntry). described_by n m l r0 a0 p0) a
    ∙ ap (λ (l : List RouteEntry). described_by n m q1 l a0 p0) b
    ∙ ap (λ (l : List AutoEntry). described_by n m q1 r1 l p0) c
    ∙ ap (λ (l : List PreEntry). described_by n m q1 r1 a1 l) d

module _ (s : State) (row : Row) (p q : Row → Bool) (h : IsStep s row p q) where
  -- rows of other tables pass both tests or none
  pub other_tab : (r : Row) → IsRowOf s r → (r.tab ≡ row.tab → ⊥) → q r ≡ p r
  other_tab r i n = h.others r (in_rows s r i) (λ e. n (same_tab r row e))

  pub classes_same : (1 ≡ row.tab → ⊥) → class_part q s ≡ class_part p s
  classes_same n = left_same (λ x. p (class_row x)) (λ x. q (class_row x)) s.objects.classes (λ x i. other_tab (class_row x) (of_class x i refl) n)

  pub programs_same : (2 ≡ row.tab → ⊥) → program_part q s ≡ program_part p s
  programs_same n = left_same (λ x. p (program_row x)) (λ x. q (program_row x)) s.objects.programs (λ x i. other_tab (program_row x) (of_program x i refl) n)

  pub queues_same : (3 ≡ row.tab → ⊥) → queue_part q s ≡ queue_part p s
  queues_same n = left_same (λ x. p (queue_row x)) (λ x. q (queue_row x)) s.objects.jobqs (λ x i. other_tab (queue_row x) (of_queue x i refl) n)

  pub jobds_same : (4 ≡ row.tab → ⊥) → jobd_part q s ≡ jobd_part p s
  jobds_same n = left_same (λ x. p (jobd_row x)) (λ x. q (jobd_row x)) s.objects.jobds (λ x i. other_tab (jobd_row x) (of_jobd x i refl) n)

  pub left_sbsds_same : (5 ≡ row.tab → ⊥) → sbsds_left q s ≡ sbsds_left p s
  left_sbsds_same n = left_same (λ x. p (sbsd_row x)) (λ x. q (sbsd_row x)) s.objects.sbsds (λ x i. other_tab (sbsd_row x) (of_sbsd x i refl) n)

  pub queue_entries_same : (6 ≡ row.tab → ⊥) → (x : QName × Sbsd) → IsIn x s.objects.sbsds → filter (λ e. q (queue_entry_row x.0 e)) x.1.queues ≡ filter (λ e. p (queue_entry_row x.0 e)) x.1.queues
  queue_entries_same n x i = left_same (λ e. p (queue_entry_row x.0 e)) (λ e. q (queue_entry_row x.0 e)) x.1.queues (λ e j. other_tab (queue_entry_row x.0 e) (of_queue_entry x e i j refl) n)

  pub route_entries_same : (7 ≡ row.tab → ⊥) → (x : QName × Sbsd) → IsIn x s.objects.sbsds → filter (λ e. q (route_entry_row x.0 e)) x.1.routes ≡ filter (λ e. p (route_entry_row x.0 e)) x.1.routes
  route_entries_same n x i = left_same (λ e. p (route_entry_row x.0 e)) (λ e. q (route_entry_row x.0 e)) x.1.routes (λ e j. other_tab (route_entry_row x.0 e) (of_route_entry x e i j refl) n)

  pub auto_entries_same : (8 ≡ row.tab → ⊥) → (x : QName × Sbsd) → IsIn x s.objects.sbsds → filter (λ e. q (auto_entry_row x.0 e)) x.1.autos ≡ filter (λ e. p (auto_entry_row x.0 e)) x.1.autos
  auto_entries_same n x i = left_same (λ e. p (auto_entry_row x.0 e)) (λ e. q (auto_entry_row x.0 e)) x.1.autos (λ e j. other_tab (auto_entry_row x.0 e) (of_auto_entry x e i j refl) n)

  pub pre_entries_same : (9 ≡ row.tab → ⊥) → (x : QName × Sbsd) → IsIn x s.objects.sbsds → filter (λ e. q (pre_entry_row x.0 e)) x.1.pres ≡ filter (λ e. p (pre_entry_row x.0 e)) x.1.pres
  pre_entries_same n x i = left_same (λ e. p (pre_entry_row x.0 e)) (λ e. q (pre_entry_row x.0 e)) x.1.pres (λ e j. other_tab (pre_entry_row x.0 e) (of_pre_entry x e i j refl) n)

  pub description_same : (6 ≡ row.tab → ⊥) → (7 ≡ row.tab → ⊥) → (8 ≡ row.tab → ⊥) → (9 ≡ row.tab → ⊥) → (x : QName × Sbsd) → IsIn x s.objects.sbsds → sbsd_part q x ≡ sbsd_part p x
  description_same a b c d x i = same_entries x.0 x.1.maxjobs (queue_entries_same a x i) (route_entries_same b x i) (auto_entries_same c x i) (pre_entries_same d x i)

  pub sbsds_same : (5 ≡ row.tab → ⊥) → (6 ≡ row.tab → ⊥) → (7 ≡ row.tab → ⊥) → (8 ≡ row.tab → ⊥) → (9 ≡ row.tab → ⊥) → sbsds_part q s ≡ sbsds_part p s
  sbsds_same n a b c d =
      ap (map (sbsd_part q)) (left_sbsds_same n)
      ∙ map_each (sbsd_part q) (sbsd_part p) (sbsds_left p s) (λ x i. description_same a b c d x (left_in (λ (y : QName × Sbsd). p (sbsd_row y)) s.objects.sbsds x i))

  pub held_same : (10 ≡ row.tab → ⊥) → held_part q s ≡ held_part p s
  held_same n = left_same (λ x. p (held_row x)) (λ x. q (held_row x)) s.held (λ x i. other_tab (held_row x) (of_held x i refl) n)

  pub left_jobs_same : (11 ≡ row.tab → ⊥) → jobs_left q s ≡ jobs_left p s
  left_jobs_same n = left_same (λ j. p (job_row (stored_of j))) (λ j. q (job_row (stored_of j))) s.jobs (λ j i. other_tab (job_row (stored_of j)) (of_job j i refl) n)

  pub jobs_same : (11 ≡ row.tab → ⊥) → jobs_part q s ≡ jobs_part p s
  jobs_same n = ap (map restarted_job) (left_jobs_same n)

  pub number_same : (11 ≡ row.tab → ⊥) → (place_of (counter_row counter.Number s.next_number) ≡ place_of row → ⊥) → number_part q s ≡ number_part p s
  number_same n m =
      ap (λ (t : Bool). cond t s.next_number (reached (λ j. j.job.number) (jobs_left q s))) (h.others _ (in_rows s _ (of_number refl)) m)
      ∙ ap (λ (js : List Job). cond (p (counter_row counter.Number s.next_number)) s.next_number (reached (λ j. j.job.number) js)) (left_jobs_same n)

  pub place_same : (11 ≡ row.tab → ⊥) → (place_of (counter_row counter.Place s.next_place) ≡ place_of row → ⊥) → place_part q s ≡ place_part p s
  place_same n m =
      ap (λ (t : Bool). cond t s.next_place (reached (λ j. j.place) (jobs_left q s))) (h.others _ (in_rows s _ (of_place refl)) m)
      ∙ ap (λ (js : List Job). cond (p (counter_row counter.Place s.next_place)) s.next_place (reached (λ j. j.place) js)) (left_jobs_same n)

  pub serial_same : (11 ≡ row.tab → ⊥) → (place_of (counter_row counter.Serial s.next_serial) ≡ place_of row → ⊥) → serial_part q s ≡ serial_part p s
  serial_same n m =
      ap (λ (t : Bool). cond t s.next_serial (reached (λ j. j.serial) (jobs_left q s))) (h.others _ (in_rows s _ (of_serial refl)) m)
      ∙ ap (λ (js : List Job). cond (p (counter_row counter.Serial s.next_serial)) s.next_serial (reached (λ j. j.serial) js)) (left_jobs_same n)

  -- a row that isn't of a counter
  pub not_counter : (c : Counter) (n : ℕ) → (12 ≡ row.tab → ⊥) → place_of (counter_row c n) ≡ place_of row → ⊥
  not_counter c n other e = other (same_tab (counter_row c n) row e)

  -- a row of an object or an entry leaves the held queues, the jobs and what comes next
  pub objects_step : (offset : ℤ) {classes : List (QName × Class)} {programs : List (QName × Program)} {queues : List (QName × Jobq)} {jobds : List (QName × Jobd)} {sbsds : List (QName × Sbsd)} → row.tab < 10 → class_part q s ≡ classes → program_part q s ≡ programs → queue_part q s ≡ queues → jobd_part q s ≡ jobds → sbsds_part q s ≡ sbsds → state_part q offset s ≡ state_of offset classes programs queues jobds sbsds (held_part p s) (jobs_part p s) (number_part p s) (place_part p s) (serial_part p s)
  objects_step offset less a b c d e =
      let no_count = λ (n : Counter) (m : ℕ). not_counter n m (λ same. absurd (omega arith)) in
      same_parts offset a b c d e
      (held_same (λ same. absurd (omega arith)))
      (jobs_same (λ same. absurd (omega arith)))
      (number_same (λ same. absurd (omega arith)) (no_count counter.Number s.next_number))
      (place_same (λ same. absurd (omega arith)) (no_count counter.Place s.next_place))
      (serial_same (λ same. absurd (omega arith)) (no_count counter.Serial s.next_serial))
