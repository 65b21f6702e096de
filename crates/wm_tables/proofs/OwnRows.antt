-- No two rows of a sound state in range have one place.
use Rattle.std.proofs.Common.{◌≡◌, ℕ, ◌<◌, ◌≤◌, ◌^◌, ◌++◌, nat_le, true, List, [], ◌∷◌, map, refl, sym, ap, ◌∙◌, inl, inr, arith}
use Rattle.std.specs.List.{flat_map, list_all}
use Rattle.std.specs.Cmp.Lexicographic.{slice_cmp}
use Rattle.std.specs.Ordering.{nat_cmp}
use Rattle.std.proofs.lemmas.Bool.{and_parts}
use Rattle.std.proofs.lemmas.Bool.Decides.{nat_tests}
use Rattle.std.proofs.lemmas.Cmp.{nat_cmp_total, nat_list_cmp_total}
use Rattle.wm_base.specs.Number.{zero_padded}
use Rattle.wm_base.specs.declared.job.Class.{Class}
use Rattle.wm_base.specs.declared.qname.QName.{QName}
use Rattle.wm_desc.specs.declared.description.Jobd.{Jobd}
use Rattle.wm_desc.specs.declared.description.Jobq.{Jobq}
use Rattle.wm_desc.specs.declared.description.Program.{Program}
use Rattle.wm_desc.specs.declared.description.Sbsd.{Sbsd}
use Rattle.wm_desc.specs.declared.entry.AutoEntry.{AutoEntry}
use Rattle.wm_desc.specs.declared.entry.PreEntry.{PreEntry}
use Rattle.wm_desc.specs.declared.entry.QueueEntry.{QueueEntry}
use Rattle.wm_desc.specs.declared.entry.RouteEntry.{RouteEntry}
use Rattle.wm_desc.specs.Ranges.{cmp_in_range, limit_within, queue_in_range, route_in_range, within}
use Rattle.wm_desc.specs.Table.{qname_cmp}
use Rattle.wm_desc.proofs.Tables.{qname_total}
use Rattle.wm_traits.specs.declared.row.Row.{Row}
use Rattle.wm_traits.specs.Rows.{place_of}
use Rattle.wm_law.specs.Fit.{IsQName}
use Rattle.wm_law.specs.Laws.{IsIn}
use Rattle.wm_law.specs.Objects.{HasTables, IsDescription}
use Rattle.wm_law.specs.Queues.{own_name}
use Rattle.wm_law.specs.Sound.{IsIncreasing, IsSound}
use Rattle.wm_law.specs.declared.job.Job.{Job}
use Rattle.wm_law.specs.declared.state.State.{State}
use Rattle.wm_law.proofs.Members.{in_mapped, of_mapped}
use Rattle.wm_rows.specs.Rows.{class_row, program_row, queue_row, jobd_row, sbsd_row, queue_entry_row, route_entry_row, auto_entry_row, pre_entry_row, held_row, counter_row}
use Rattle.wm_rows.specs.Tables.{queue_entry_rows, route_entry_rows, auto_entry_rows, pre_entry_rows, sbsd_rows, held_rows, counter_rows}
use Rattle.wm_rows.specs.declared.stored.Counter.{Counter}
use Rattle.wm_rows.specs.declared.stored.Counter.TheVariants as counter
use Rattle.wm_rows.specs.JobText.{job_row}
use Rattle.wm_rows.specs.Stored.{stored_of}
use Rattle.wm_tables.specs.Ranges.{IsInRange}
use Rattle.wm_tables.specs.Tables.{job_rows, rows_of}
use Rattle.wm_tables.proofs.Ends.{one_counter}
use Rattle.wm_tables.proofs.Keys.{one_entry, one_number, one_text}
use Rattle.wm_tables.proofs.OwnPlaces.{HasTab, HasTabsTo, own_both, own_flat, own_mapped, same_key, same_tab, tab_flat, tab_mapped}
use Rattle.wm_tables.proofs.Passing.{of_parts}
use Rattle.wm_tables.proofs.RowOrder.{HasOwnPlaces}
use Rattle.wm_tables.proofs.RowsOf.{named_in}

at_most : (low high n : ℕ) → within low high n ≡ true → n ≤ high
at_most low high n h = let parts = and_parts (nat_le low n) (nat_le n high) h in let last : nat_le n high ≡ true = parts.1 in grind (arith, nat_tests)

pub queue_seq : (e : QueueEntry) → queue_in_range e ≡ true → e.seq ≤ 9999
queue_seq e h = at_most 1 9999 e.seq (and_parts _ (limit_within 0 1000 e.maxact) (and_parts _ (list_all (limit_within 0 99) e.maxpty) h).0).0

pub route_seq : (e : RouteEntry) → route_in_range e ≡ true → e.seq ≤ 9999
route_seq e h = at_most 1 9999 e.seq (and_parts _ (cmp_in_range e.cmp) (and_parts _ (limit_within 0 1000 e.maxact) (and_parts _ (within 1 10 e.poolid) h).0).0).0

one_seq : (a b : ℕ) → a ≤ 9999 → b ≤ 9999 → zero_padded 4 a ≡ zero_padded 4 b → a ≡ b
one_seq a b f g e = one_number 3 a b (omega arith) (omega arith) (omega arith) (omega arith) e

-- jobs in the order of their serials
own_jobs : (jobs : List Job) → ((j : Job) → IsIn j jobs → j.serial < 2 ^ 64) → IsIncreasing (map (λ j. j.serial) jobs) → HasOwnPlaces (job_rows jobs)
own_jobs [] fit up = tt
own_jobs (j ∷ jobs) fit up = (
  λ r i e.
      let m = of_mapped (λ (k : Job). job_row (stored_of k)) jobs r i in
      let less : j.serial < m.0.serial = up.0 m.0.serial (in_mapped (λ (k : Job). k.serial) jobs m.0 m.1) in
      let key = same_key (job_row (stored_of m.0)) (job_row (stored_of j)) (ap place_of (sym m.2) ∙ e) in
      let first = fit j (inl refl) in
      let other = fit m.0 (inr m.1) in
      let same : m.0.serial ≡ j.serial = one_number 19 m.0.serial j.serial other first (omega arith) (omega arith) key in
      absurd (omega arith),
  own_jobs jobs (λ k i. fit k (inr i)) up.1,
)

other_place : (c d : Counter) (n m : ℕ) (r : Row) → (c ≡ d → ⊥) → r ≡ counter_row c n → place_of r ≡ place_of (counter_row d m) → ⊥
other_place c d n m r other e f = other (one_counter c d (same_key (counter_row c n) (counter_row d m) (ap place_of (sym e) ∙ f)))

number_apart : (n p q : ℕ) (r : Row) → IsIn r (counter_row counter.Place p ∷ counter_row counter.Schema 1 ∷ counter_row counter.Serial q ∷ []) → place_of r ≡ place_of (counter_row counter.Number n) → ⊥
number_apart n p q r (inl e) f = other_place counter.Place counter.Number p n r (λ k. absurd (cc)) e f
number_apart n p q r (inr (inl e)) f = other_place counter.Schema counter.Number 1 n r (λ k. absurd (cc)) e f
number_apart n p q r (inr (inr (inl e))) f = other_place counter.Serial counter.Number q n r (λ k. absurd (cc)) e f
number_apart n p q r (inr (inr (inr i))) f = i

place_apart : (p q : ℕ) (r : Row) → IsIn r (counter_row counter.Schema 1 ∷ counter_row counter.Serial q ∷ []) → place_of r ≡ place_of (counter_row counter.Place p) → ⊥
place_apart p q r (inl e) f = other_place counter.Schema counter.Place 1 p r (λ k. absurd (cc)) e f
place_apart p q r (inr (inl e)) f = other_place counter.Serial counter.Place q p r (λ k. absurd (cc)) e f
place_apart p q r (inr (inr i)) f = i

schema_apart : (q : ℕ) (r : Row) → IsIn r (counter_row counter.Serial q ∷ []) → place_of r ≡ place_of (counter_row counter.Schema 1) → ⊥
schema_apart q r (inl e) f = other_place counter.Serial counter.Schema q 1 r (λ k. absurd (cc)) e f
schema_apart q r (inr i) f = i

own_counters : (n p q : ℕ) → HasOwnPlaces (counter_rows n p q)
own_counters n p q = (number_apart n p q, (place_apart p q, (schema_apart q, ((λ r i. absurd i), tt))))

-- the rows of counters stand in one table
pub tab_counters : (n p q : ℕ) → HasTab 12 (counter_rows n p q)
tab_counters n p q r (inl e) = ap (λ (x : Row). x.tab) e
tab_counters n p q r (inr (inl e)) = ap (λ (x : Row). x.tab) e
tab_counters n p q r (inr (inr (inl e))) = ap (λ (x : Row). x.tab) e
tab_counters n p q r (inr (inr (inr (inl e)))) = ap (λ (x : Row). x.tab) e
tab_counters n p q r (inr (inr (inr (inr i)))) = absurd i

to_tab : (n : ℕ) (rows : List Row) → HasTab n rows → HasTabsTo n rows
to_tab n rows h r i = let at : r.tab ≡ n = h r i in omega arith

module _ (s : State) (sound : IsSound s) (range : IsInRange s) where
  abbrev tables : HasTables s.objects
  tables = sound.objects.tables

  own_classes : HasOwnPlaces (map class_row s.objects.classes)
  own_classes = own_mapped (λ (x : QName × Class). x.0) qname_cmp qname_total class_row s.objects.classes tables.classes.sorted (λ x y i j e. one_text x.0 y.0 (range.objects.classes x i).0 (range.objects.classes y j).0 (same_key (class_row x) (class_row y) e))

  own_programs : HasOwnPlaces (map program_row s.objects.programs)
  own_programs = own_mapped (λ (x : QName × Program). x.0) qname_cmp qname_total program_row s.objects.programs tables.programs.sorted (λ x y i j e. one_text x.0 y.0 (range.objects.programs x i).0 (range.objects.programs y j).0 (same_key (program_row x) (program_row y) e))

  own_queues : HasOwnPlaces (map queue_row s.objects.jobqs)
  own_queues = own_mapped (λ (x : QName × Jobq). x.0) qname_cmp qname_total queue_row s.objects.jobqs tables.jobqs.sorted (λ x y i j e. one_text x.0 y.0 (range.objects.jobqs x i) (range.objects.jobqs y j) (same_key (queue_row x) (queue_row y) e))

  own_jobds : HasOwnPlaces (map jobd_row s.objects.jobds)
  own_jobds = own_mapped (λ (x : QName × Jobd). x.0) qname_cmp qname_total jobd_row s.objects.jobds tables.jobds.sorted (λ x y i j e. one_text x.0 y.0 (range.objects.jobds x i).jobd (range.objects.jobds y j).jobd (same_key (jobd_row x) (jobd_row y) e))

  pub sbsd_name : (x : QName × Sbsd) → IsIn x s.objects.sbsds → IsQName x.0
  sbsd_name x i = (range.objects.sbsds x i).0

  own_sbsds : HasOwnPlaces (map sbsd_row s.objects.sbsds)
  own_sbsds = own_mapped (λ (x : QName × Sbsd). x.0) qname_cmp qname_total sbsd_row s.objects.sbsds tables.sbsds.sorted (λ x y i j e. one_text x.0 y.0 (sbsd_name x i) (sbsd_name y j) (same_key (sbsd_row x) (sbsd_row y) e))

  pub description : (x : QName × Sbsd) → IsIn x s.objects.sbsds → IsDescription s.objects x.1
  description x i = sound.objects.described x.0 x.1 (named_in s.objects.sbsds x tables.sbsds.sorted i)

  -- two queue entries by their places
  pub one_queue_entry : (x y : QName × Sbsd) (e f : QueueEntry) → IsIn x s.objects.sbsds → IsIn y s.objects.sbsds → IsIn e x.1.queues → IsIn f y.1.queues → place_of (queue_entry_row x.0 e) ≡ place_of (queue_entry_row y.0 f) → (x.0 ≡ y.0) × (e.seq ≡ f.seq)
  one_queue_entry x y e f i j k l same =
      let parts = one_entry x.0 y.0 _ _ (sbsd_name x i) (sbsd_name y j) (same_key (queue_entry_row x.0 e) (queue_entry_row y.0 f) same) in
      (parts.0, one_seq e.seq f.seq (queue_seq e ((range.objects.entries x i).queues e k).ranges) (queue_seq f ((range.objects.entries y j).queues f l).ranges) parts.1)

  pub one_route_entry : (x y : QName × Sbsd) (e f : RouteEntry) → IsIn x s.objects.sbsds → IsIn y s.objects.sbsds → IsIn e x.1.routes → IsIn f y.1.routes → place_of (route_entry_row x.0 e) ≡ place_of (route_entry_row y.0 f) → (x.0 ≡ y.0) × (e.seq ≡ f.seq)
  one_route_entry x y e f i j k l same =
      let parts = one_entry x.0 y.0 _ _ (sbsd_name x i) (sbsd_name y j) (same_key (route_entry_row x.0 e) (route_entry_row y.0 f) same) in
      (parts.0, one_seq e.seq f.seq (route_seq e ((range.objects.entries x i).routes e k).ranges) (route_seq f ((range.objects.entries y j).routes f l).ranges) parts.1)

  pub one_auto_entry : (x y : QName × Sbsd) (e f : AutoEntry) → IsIn x s.objects.sbsds → IsIn y s.objects.sbsds → place_of (auto_entry_row x.0 e) ≡ place_of (auto_entry_row y.0 f) → (x.0 ≡ y.0) × (e.job ≡ f.job)
  one_auto_entry x y e f i j same = one_entry x.0 y.0 e.job f.job (sbsd_name x i) (sbsd_name y j) (same_key (auto_entry_row x.0 e) (auto_entry_row y.0 f) same)

  pub one_pre_entry : (x y : QName × Sbsd) (e f : PreEntry) → IsIn x s.objects.sbsds → IsIn y s.objects.sbsds → IsIn e x.1.pres → IsIn f y.1.pres → place_of (pre_entry_row x.0 e) ≡ place_of (pre_entry_row y.0 f) → (x.0 ≡ y.0) × (e.pgm ≡ f.pgm)
  one_pre_entry x y e f i j k l same =
      let parts = one_entry x.0 y.0 _ _ (sbsd_name x i) (sbsd_name y j) (same_key (pre_entry_row x.0 e) (pre_entry_row y.0 f) same) in
      (parts.0, one_text e.pgm f.pgm ((range.objects.entries x i).pres e k).pgm ((range.objects.entries y j).pres f l).pgm parts.1)

  own_queue_entries : HasOwnPlaces (flat_map queue_entry_rows s.objects.sbsds)
  own_queue_entries =
      own_flat (λ (x : QName × Sbsd). x.0) qname_cmp qname_total queue_entry_rows s.objects.sbsds tables.sbsds.sorted
      (λ x i. own_mapped (λ (e : QueueEntry). e.seq) nat_cmp nat_cmp_total (queue_entry_row x.0) x.1.queues (description x i).queues.sorted (λ e f k l same. (one_queue_entry x x e f i i k l same).1))
      (λ x y r q i j k l same.
      let m = of_mapped (queue_entry_row x.0) x.1.queues r k in
      let n = of_mapped (queue_entry_row y.0) y.1.queues q l in
      (one_queue_entry x y m.0 n.0 i j m.1 n.1 (ap place_of (sym m.2) ∙ same ∙ ap place_of n.2)).0)

  own_route_entries : HasOwnPlaces (flat_map route_entry_rows s.objects.sbsds)
  own_route_entries =
      own_flat (λ (x : QName × Sbsd). x.0) qname_cmp qname_total route_entry_rows s.objects.sbsds tables.sbsds.sorted
      (λ x i. own_mapped (λ (e : RouteEntry). e.seq) nat_cmp nat_cmp_total (route_entry_row x.0) x.1.routes (sound.orders.routed.sorted x.0 x.1 (named_in s.objects.sbsds x tables.sbsds.sorted i)) (λ e f k l same. (one_route_entry x x e f i i k l same).1))
      (λ x y r q i j k l same.
      let m = of_mapped (route_entry_row x.0) x.1.routes r k in
      let n = of_mapped (route_entry_row y.0) y.1.routes q l in
      (one_route_entry x y m.0 n.0 i j m.1 n.1 (ap place_of (sym m.2) ∙ same ∙ ap place_of n.2)).0)

  own_auto_entries : HasOwnPlaces (flat_map auto_entry_rows s.objects.sbsds)
  own_auto_entries =
      own_flat (λ (x : QName × Sbsd). x.0) qname_cmp qname_total auto_entry_rows s.objects.sbsds tables.sbsds.sorted
      (λ x i. own_mapped (λ (e : AutoEntry). e.job) (slice_cmp nat_cmp) nat_list_cmp_total (auto_entry_row x.0) x.1.autos (description x i).autos.sorted (λ e f k l same. (one_auto_entry x x e f i i same).1))
      (λ x y r q i j k l same.
      let m = of_mapped (auto_entry_row x.0) x.1.autos r k in
      let n = of_mapped (auto_entry_row y.0) y.1.autos q l in
      (one_auto_entry x y m.0 n.0 i j (ap place_of (sym m.2) ∙ same ∙ ap place_of n.2)).0)

  own_pre_entries : HasOwnPlaces (flat_map pre_entry_rows s.objects.sbsds)
  own_pre_entries =
      own_flat (λ (x : QName × Sbsd). x.0) qname_cmp qname_total pre_entry_rows s.objects.sbsds tables.sbsds.sorted
      (λ x i. own_mapped (λ (e : PreEntry). e.pgm) qname_cmp qname_total (pre_entry_row x.0) x.1.pres (description x i).pres.sorted (λ e f k l same. (one_pre_entry x x e f i i k l same).1))
      (λ x y r q i j k l same.
      let m = of_mapped (pre_entry_row x.0) x.1.pres r k in
      let n = of_mapped (pre_entry_row y.0) y.1.pres q l in
      (one_pre_entry x y m.0 n.0 i j m.1 n.1 (ap place_of (sym m.2) ∙ same ∙ ap place_of n.2)).0)

  own_held : HasOwnPlaces (held_rows s.held)
  own_held = own_mapped own_name qname_cmp qname_total held_row s.held sound.held.sorted (λ x y i j e. one_text x y (range.held x i) (range.held y j) (same_key (held_row x) (held_row y) e))

  tab_entries : {E : Type 0} (n : ℕ) (f : QName → E → Row) (g : Sbsd → List E) → ((q : QName) (e : E) → (f q e).tab ≡ n) → HasTab n (flat_map (λ (x : QName × Sbsd). map (f x.0) (g x.1)) s.objects.sbsds)
  tab_entries n f g h = tab_flat n (λ (x : QName × Sbsd). map (f x.0) (g x.1)) s.objects.sbsds (λ x. tab_mapped n (f x.0) (g x.1) (h x.0))

  -- no two of these rows have one place, and all are of tables from one to another
  record IsOwn (low high : ℕ) (rows : List Row) : Type 0 where
    own : HasOwnPlaces rows
    from : (r : Row) → IsIn r rows → low ≤ r.tab
    upto : HasTabsTo high rows

  one : (n : ℕ) (rows : List Row) → HasTab n rows → HasOwnPlaces rows → IsOwn n n rows
  one n rows tab own = record { own = own; from = λ r i. (let at : r.tab ≡ n = tab r i in omega arith); upto = to_tab n rows tab }

  next : (low n m high : ℕ) (xs ys : List Row) → n < m → low ≤ m → n ≤ high → IsOwn low n xs → IsOwn m high ys → IsOwn low high (xs ++ ys)
  next low n m high xs ys less first last h g = record {
    own = own_both xs ys (λ r q i j e. (let a = h.upto r i in let b = g.from q j in let same = same_tab q r e in absurd (omega arith))) h.own g.own;
    from = λ r i. (elim (of_parts xs ys r i) as (λ _. low ≤ r.tab) [ inl k ↦ h.from r k | inr k ↦ (let b = g.from r k in omega arith) ]);
    upto = λ r i. (elim (of_parts xs ys r i) as (λ _. r.tab ≤ high) [ inl k ↦ (let a = h.upto r k in omega arith) | inr k ↦ g.upto r k ]);
  }

  first_four : IsOwn 1 4 (map class_row s.objects.classes ++ map program_row s.objects.programs ++ map queue_row s.objects.jobqs ++ map jobd_row s.objects.jobds)
  first_four =
      let two = next 1 1 2 2 _ _ (omega arith) (omega arith) (omega arith) (one 1 _ (tab_mapped 1 class_row s.objects.classes (λ x. refl)) own_classes) (one 2 _ (tab_mapped 2 program_row s.objects.programs (λ x. refl)) own_programs) in
      let three = next 1 2 3 3 _ _ (omega arith) (omega arith) (omega arith) two (one 3 _ (tab_mapped 3 queue_row s.objects.jobqs (λ x. refl)) own_queues) in
      next 1 3 4 4 _ _ (omega arith) (omega arith) (omega arith) three (one 4 _ (tab_mapped 4 jobd_row s.objects.jobds (λ x. refl)) own_jobds)

  descriptions : IsOwn 5 9 (sbsd_rows s.objects.sbsds)
  descriptions =
      let two = next 5 5 6 6 _ _ (omega arith) (omega arith) (omega arith) (one 5 _ (tab_mapped 5 sbsd_row s.objects.sbsds (λ x. refl)) own_sbsds) (one 6 (flat_map queue_entry_rows s.objects.sbsds) (tab_entries 6 queue_entry_row (λ d. d.queues) (λ q e. refl)) own_queue_entries) in
      let three = next 5 6 7 7 _ _ (omega arith) (omega arith) (omega arith) two (one 7 (flat_map route_entry_rows s.objects.sbsds) (tab_entries 7 route_entry_row (λ d. d.routes) (λ q e. refl)) own_route_entries) in
      let four = next 5 7 8 8 _ _ (omega arith) (omega arith) (omega arith) three (one 8 (flat_map auto_entry_rows s.objects.sbsds) (tab_entries 8 auto_entry_row (λ d. d.autos) (λ q e. refl)) own_auto_entries) in
      next 5 8 9 9 _ _ (omega arith) (omega arith) (omega arith) four (one 9 (flat_map pre_entry_rows s.objects.sbsds) (tab_entries 9 pre_entry_row (λ d. d.pres) (λ q e. refl)) own_pre_entries)

  -- so it is with all rows of the state
  pub own_rows : HasOwnPlaces (rows_of s)
  own_rows =
      let objects = next 1 4 5 9 _ _ (omega arith) (omega arith) (omega arith) first_four descriptions in
      let held = next 1 9 10 10 _ _ (omega arith) (omega arith) (omega arith) objects (one 10 (held_rows s.held) (tab_mapped 10 held_row s.held (λ x. refl)) own_held) in
      let jobs = next 1 10 11 11 _ _ (omega arith) (omega arith) (omega arith) held (one 11 (job_rows s.jobs) (tab_mapped 11 (λ (j : Job). job_row (stored_of j)) s.jobs (λ x. refl)) (own_jobs s.jobs (λ j i. (range.jobs j i).stored.serial) sound.jobs)) in
      (next 1 11 12 12 _ _ (omega arith) (omega arith) (omega arith) jobs (one 12 (counter_rows s.next_number s.next_place s.next_serial) (tab_counters s.next_number s.next_place s.next_serial) (own_counters s.next_number s.next_place s.next_serial))).own
