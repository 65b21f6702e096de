-- The rows of touched and of new jobs are those of jobs that aren't among the rows from before.
use Rattle.std.proofs.Common.{◌≡◌, ◌⊎◌, ℕ, ◌<◌, ◌^◌, ◌++◌, ◌==◌, not, Bool, true, false, cond, List, [], ◌∷◌, length, take, find, fold, map, Option, Some, None, append_assoc, refl, sym, ap, subst, ◌∙◌, inl, inr, arith}
use Rattle.std.specs.Ordering.{nat_cmp}
use Rattle.std.proofs.lemmas.Bool.{cond-true, eq-eqb, eqb-true}
use Rattle.std.proofs.lemmas.Bool.Decides.{nat_tests}
use Rattle.std.proofs.lemmas.Cmp.{nat_cmp_total}
use Rattle.std.proofs.lemmas.List.{append-nil, take-append-drop}
use Rattle.wm_base.proofs.Orderings.{lt-Less}
use Rattle.wm_base.proofs.Tests.{guarded, Some-injective}
use Rattle.wm_traits.specs.declared.row.Row.{Row}
use Rattle.wm_traits.specs.declared.row.RowChange.{RowChange}
use Rattle.wm_traits.specs.declared.row.RowChange.TheVariants.{Put}
use Rattle.wm_traits.specs.Rows.{is_before}
use Rattle.wm_desc.specs.Sorted.{IsSortedOnce}
use Rattle.wm_ordered.specs.Ordered.{key_of}
use Rattle.wm_law.specs.Laws.{IsIn}
use Rattle.wm_law.specs.Sound.{IsIncreasing}
use Rattle.wm_law.specs.declared.job.Job.{Job}
use Rattle.wm_law.proofs.Members.{found_among, in_left, in_mapped, left_in, of_mapped}
use Rattle.wm_law.proofs.InOrder.{rest_sorted}
use Rattle.wm_rows.specs.JobText.{job_row}
use Rattle.wm_rows.specs.Stored.{IsStored, stored_of}
use Rattle.wm_rows.specs.declared.stored_job.StoredJob.{StoredJob}
use Rattle.wm_rows.proofs.ReadBack.{row_back}
use Rattle.wm_jobs.specs.Marked.{undone}
use Rattle.wm_jobs.specs.Table.{Table}
use Rattle.wm_jobs.specs.declared.touched.Standing.{Standing}
use Rattle.wm_tables.specs.Opened.{is_found}
use Rattle.wm_tables.specs.Tables.{job_rows, puts}
use Rattle.wm_tables.proofs.OneMore.{first_below}
use Rattle.wm_tables.proofs.Passing.{in_left_part, in_right_part, left_passes, of_parts}
use Rattle.wm_tables.proofs.RowOrder.{IsAscending}
use Rattle.wm_tables.proofs.SameRows.{found_there, one_list, there_found}
use Rattle.wm_tables.specs.Changes.{new_job_rows}
use Rattle.wm_tables.specs.Noted.{is_old, new_jobs, noted, old_job, with_row, IsStoredAs, PutsJobs, PutsNoted, PutsTouched}
use Rattle.wm_tables.proofs.JobRows.{filter_ascending, jobs_ascending, row_of, serial_before}
use Rattle.wm_tables.proofs.NotedPairs.{Pair, first_noted, first_of, noted_first, noted_sorted, stood, stood_serial, undone_stood}

-- What is stored of two jobs

-- rows of jobs tell apart what is stored of them
rows_apart : (j k : Job) → IsStored (stored_of j) → IsStored (stored_of k) → row_of j ≡ row_of k → stored_of j ≡ stored_of k
rows_apart j k h g e = Some-injective (stored_of j) (stored_of k) (sym (row_back (row_of k) (stored_of j) h e) ∙ row_back (row_of k) (stored_of k) g refl)

-- Jobs in the order of their serials

abbrev serials : List Job → List ℕ
serials jobs = map (λ j. j.serial) jobs

rises : (xs ys : List Job) → IsIncreasing (serials (xs ++ ys)) → (j k : Job) → IsIn j xs → IsIn k ys → j.serial < k.serial
rises [] ys up j k i m = absurd i
rises (x ∷ xs) ys up j k (inl same) m = subst (λ (l : Job). l.serial < k.serial) (sym same) (up.0 k.serial (in_mapped (λ (l : Job). l.serial) (xs ++ ys) k (in_right_part xs ys k m)))
rises (x ∷ xs) ys up j k (inr i) m = rises xs ys up.1 j k i m

later_rise : (xs ys : List Job) → IsIncreasing (serials (xs ++ ys)) → IsIncreasing (serials ys)
later_rise [] ys up = up
later_rise (x ∷ xs) ys up = later_rise xs ys up.1

one_job : (jobs : List Job) (j k : Job) → IsIncreasing (serials jobs) → IsIn j jobs → IsIn k jobs → j.serial ≡ k.serial → j ≡ k
one_job [] j k up i m e = absurd i
one_job (x ∷ xs) j k up (inl f) (inl g) e = f ∙ sym g
one_job (x ∷ xs) j k up (inl f) (inr m) e =
    let less : x.serial < k.serial = up.0 k.serial (in_mapped (λ (l : Job). l.serial) xs k m) in
    let same : x.serial ≡ k.serial = sym (ap (λ (l : Job). l.serial) f) ∙ e in
    absurd (omega arith)
one_job (x ∷ xs) j k up (inr i) (inl g) e =
    let less : x.serial < j.serial = up.0 j.serial (in_mapped (λ (l : Job). l.serial) xs j i) in
    let same : x.serial ≡ j.serial = sym (ap (λ (l : Job). l.serial) g) ∙ sym e in
    absurd (omega arith)
one_job (x ∷ xs) j k up (inr i) (inr m) e = one_job xs j k up.1 i m e

find_by : (x : Job) (xs : List Job) (j : Job) (n : ℕ) (t : Bool) → (x.serial == n) ≡ t → (x.serial ≡ n → x ≡ j) → ((x.serial ≡ n → ⊥) → find (λ k. k.serial == n) xs ≡ Some j) → cond t (Some x) (find (λ k. k.serial == n) xs) ≡ Some j
find_by x xs j n true e here later = ap (λ (k : Job). Some k) (here (eqb-true x.serial n e))
find_by x xs j n false e here later = later (λ same. (let yes : (x.serial == n) ≡ true = eq-eqb x.serial n same in absurd (cc)))

found_job : (jobs : List Job) (j : Job) (n : ℕ) → IsIncreasing (serials jobs) → IsIn j jobs → j.serial ≡ n → find (λ k. k.serial == n) jobs ≡ Some j
found_job [] j n up i e = absurd i
found_job (x ∷ xs) j n up i e = find_by x xs j n (x.serial == n) refl (λ same. one_job (x ∷ xs) x j up (inl refl) i (same ∙ sym e)) (λ other. found_job xs j n up.1 (elim i as (λ _. IsIn j xs) [ inl f ↦ absurd (other (sym (ap (λ (l : Job). l.serial) f) ∙ e)) | inr m ↦ m ]) e)

-- The changes as rows

new_are : (jobs : List Job) (cs : List RowChange) → fold with_row cs jobs ≡ cs ++ puts (job_rows jobs)
new_are [] cs = sym (append-nil cs)
new_are (j ∷ jobs) cs = new_are jobs (with_row cs j) ∙ append_assoc cs (Put (row_of j) ∷ []) (puts (job_rows jobs))

puts_both : (xs ys : List Row) → puts xs ++ puts ys ≡ puts (xs ++ ys)
puts_both [] ys = refl
puts_both (x ∷ xs) ys = ap (λ (l : List RowChange). Put x ∷ l) (puts_both xs ys)

-- a touched job whose row is put
record IsTouched (t : Table) (p : Pair) (r : Row) : Type 0 where
  job : Job
  old : is_old (new_jobs t) p.0 ≡ true
  stands : IsIn job t.jobs
  serial : job.serial ≡ p.0
  other : IsStoredAs p.1 job → ⊥
  is : r ≡ row_of job

-- rows that were put of touched jobs: which these are, that none lacks, and that they ascend
record ArePut (t : Table) (ps : List Pair) (old new : List RowChange) : Type 0 where
  rows : List Row
  made : new ≡ old ++ puts rows
  from : (r : Row) → IsIn r rows → (p : Pair) × IsIn p ps × IsTouched t p r
  each : (p : Pair) (j : Job) → IsIn p ps → old_job t p.0 ≡ Some j → IsStoredAs p.1 j ⊎ IsIn (row_of j) rows
  up : ((j : Job) → IsIn j t.jobs → j.serial < 2 ^ 64) → IsSortedOnce key_of nat_cmp ps → IsAscending rows

module _ (t : Table) where
  touched : (p : Pair) (j : Job) → old_job t p.0 ≡ Some j → (IsStoredAs p.1 j → ⊥) → IsTouched t p (row_of j)
  touched p j e other =
      let old = guarded (is_old (new_jobs t) p.0) (find (λ k. k.serial == p.0) t.jobs) j e in
      let among = found_among (λ (k : Job). k.serial == p.0) t.jobs j old.1 in
      record { job = j; old = old.0; stands = among.0; serial = eqb-true j.serial p.0 among.1; other = other; is = refl }

  touched_before : ((j : Job) → IsIn j t.jobs → j.serial < 2 ^ 64) → (p q : Pair) (r x : Row) → p.0 < q.0 → IsTouched t p r → IsTouched t q x → is_before r x ≡ true
  touched_before fits p q r x less h g =
      let a = h.serial in
      let b = g.serial in
      let before = serial_before h.job g.job (omega arith) (fits g.job g.stands) in
      subst (λ (y : Row). is_before y x ≡ true) (sym h.is) (subst (λ (y : Row). is_before (row_of h.job) y ≡ true) (sym g.is) before)

  module _ (p : Pair) (ps : List Pair) (old mid new : List RowChange) (a : ArePut t ps mid new) where
    rest : IsSortedOnce key_of nat_cmp (p ∷ ps) → IsSortedOnce key_of nat_cmp ps
    rest s = rest_sorted (λ (x : Pair). x.0) nat_cmp nat_cmp_total p ps s

    -- no row of the first
    none_put : mid ≡ old → ((j : Job) → old_job t p.0 ≡ Some j → IsStoredAs p.1 j) → ArePut t (p ∷ ps) old new
    none_put same stored = record {
      rows = a.rows;
      made = a.made ∙ ap (λ (l : List RowChange). l ++ puts a.rows) same;
      from = λ r i. (let m = a.from r i in (m.0, inr m.1, m.2));
      each = λ q j i e. elim i as (λ _. IsStoredAs q.1 j ⊎ IsIn (row_of j) a.rows) [
        | inl f ↦ inl (subst (λ (x : Pair). IsStoredAs x.1 j) (sym f) (stored j (ap (λ (x : Pair). old_job t x.0) (sym f) ∙ e)))
        | inr k ↦ a.each q j k e
      ];
      up = λ fits s. a.up fits (rest s);
    }

    -- the row of the first
    one_put : (j : Job) → mid ≡ with_row old j → old_job t p.0 ≡ Some j → (IsStoredAs p.1 j → ⊥) → ArePut t (p ∷ ps) old new
    one_put j put e other =
        let here : IsTouched t p (row_of j) = touched p j e other in
        record {
          rows = row_of j ∷ a.rows;
          made = a.made ∙ ap (λ (l : List RowChange). l ++ puts a.rows) put ∙ append_assoc old (Put (row_of j) ∷ []) (puts a.rows);
          from = λ r i. elim i as (λ _. (q : Pair) × IsIn q (p ∷ ps) × IsTouched t q r) [
            | inl f ↦ (p, inl refl, subst (λ (x : Row). IsTouched t p x) (sym f) here)
            | inr k ↦ (let m = a.from r k in (m.0, inr m.1, m.2))
          ];
          each = λ q k i f. elim i as (λ _. IsStoredAs q.1 k ⊎ IsIn (row_of k) (row_of j ∷ a.rows)) [
            | inl g ↦ (let one : k ≡ j = Some-injective k j (sym f ∙ ap (λ (x : Pair). old_job t x.0) g ∙ e) in inr (inl (ap row_of one)))
            | inr m ↦ (elim (a.each q k m f) as (λ _. IsStoredAs q.1 k ⊎ IsIn (row_of k) (row_of j ∷ a.rows)) [ inl same ↦ inl same | inr there ↦ inr (inr there) ])
          ];
          up = λ fits s. (
            (λ r i. (let m = a.from r i in touched_before fits p m.0 (row_of j) r (lt-Less p.0 m.0.0 (first_below (λ (x : Pair). x.0) nat_cmp nat_cmp_total p ps m.0 s m.1)) here m.2)),
            a.up fits (rest s),
          );
        }

    one_more : (o : Option Job) → old_job t p.0 ≡ o → PutsTouched p.1 o old mid → ArePut t (p ∷ ps) old new
    one_more None e same = none_put same (λ j f. absurd (cc))
    one_more (Some j) e (inl k) = none_put k.1 (λ l f. subst (λ (x : Job). IsStoredAs p.1 x) (Some-injective j l (sym e ∙ f)) k.0)
    one_more (Some j) e (inr k) = one_put j k.1 e k.0

  all_put : (ps : List Pair) (old new : List RowChange) → PutsNoted t ps old new → ArePut t ps old new
  all_put [] old new same = record {
    rows = [];
    made = same ∙ sym (append-nil old);
    from = λ r i. absurd i;
    each = λ p j i e. absurd i;
    up = λ fits s. tt;
  }
  all_put (p ∷ ps) old new h = one_more p ps old h.0 new (all_put ps h.0 new h.2) (old_job t p.0) refl h.1

-- Their order

both_ascend : (xs ys : List Row) → IsAscending xs → IsAscending ys → ((r q : Row) → IsIn r xs → IsIn q ys → is_before r q ≡ true) → IsAscending (xs ++ ys)
both_ascend [] ys u v h = v
both_ascend (x ∷ xs) ys u v h = (
  λ q i. (elim (of_parts xs ys q i) as (λ _. is_before x q ≡ true) [ inl k ↦ u.0 q k | inr k ↦ h x q (inl refl) k ]),
  both_ascend xs ys u.1 v (λ r q i k. h r q (inr i) k),
)

-- a serial below the first of jobs is below that of each
below_all : (jobs : List Job) (n : ℕ) → IsIncreasing (serials jobs) → is_old jobs n ≡ true → (j : Job) → IsIn j jobs → n < j.serial
below_all [] n up h j i = absurd i
below_all (x ∷ xs) n up h j (inl same) = let first : n < x.serial = grind (arith, nat_tests) in subst (λ (k : Job). n < k.serial) (sym same) first
below_all (x ∷ xs) n up h j (inr i) =
    let first : n < x.serial = grind (arith, nat_tests) in
    let next : x.serial < j.serial = up.0 j.serial (in_mapped (λ (k : Job). k.serial) xs j i) in
    omega arith

all_below : (jobs : List Job) (n : ℕ) → ((j : Job) → IsIn j jobs → n < j.serial) → is_old jobs n ≡ true
all_below [] n h = refl
all_below (x ∷ xs) n h = let first : n < x.serial = h x (inl refl) in grind (arith, nat_tests)

-- The whole

module _ (t : Table) (before : t.marked.jobs ≡ undone t.touched (take (length t.marked.jobs) t.jobs)) (up : IsIncreasing (serials t.jobs)) (now : (j : Job) → IsIn j t.jobs → IsStored (stored_of j)) (was : (j : Job) → IsIn j t.marked.jobs → IsStored (stored_of j)) (cs mid : List RowChange) (puts_noted : PutsNoted t (noted t.touched) cs mid) where
  abbrev olds : List Job
  olds = take (length t.marked.jobs) t.jobs

  abbrev news : List Job
  news = new_jobs t

  whole : olds ++ news ≡ t.jobs
  whole = take-append-drop (length t.marked.jobs) t.jobs

  parts_up : IsIncreasing (serials (olds ++ news))
  parts_up = subst (λ (jobs : List Job). IsIncreasing (serials jobs)) (sym whole) up

  news_up : IsIncreasing (serials news)
  news_up = later_rise olds news parts_up

  old_in : (j : Job) → IsIn j olds → IsIn j t.jobs
  old_in j i = subst (λ (jobs : List Job). IsIn j jobs) whole (in_left_part olds news j i)

  new_in : (j : Job) → IsIn j news → IsIn j t.jobs
  new_in j i = subst (λ (jobs : List Job). IsIn j jobs) whole (in_right_part olds news j i)

  fits : (j : Job) → IsIn j t.jobs → j.serial < 2 ^ 64
  fits j i = (now j i).serial

  abbrev put : ArePut t (noted t.touched) cs mid
  put = all_put t (noted t.touched) cs mid puts_noted

  -- the rows of touched jobs, and those of new ones
  abbrev all_rows : List Row
  all_rows = put.rows ++ job_rows news

  abbrev stood_so : Job → Job
  stood_so j = stood (first_of t.touched j.serial) j

  marked_is : t.marked.jobs ≡ map stood_so olds
  marked_is = before ∙ undone_stood t.touched olds

  in_marked : (j : Job) → IsIn j olds → IsIn (stood_so j) t.marked.jobs
  in_marked j i = subst (λ (jobs : List Job). IsIn (stood_so j) jobs) (sym marked_is) (in_mapped stood_so olds j i)

  of_marked : (k : Job) → IsIn k t.marked.jobs → (j : Job) × IsIn j olds × (k ≡ stood_so j)
  of_marked k i = of_mapped stood_so olds k (subst (λ (jobs : List Job). IsIn k jobs) marked_is i)

  -- a job whose row is among those from before was there, and stood with the same stored of it
  found_old : (j : Job) → IsIn j t.jobs → IsIn (row_of j) (job_rows t.marked.jobs) → IsIn j olds × (stored_of (stood_so j) ≡ stored_of j)
  found_old j i there =
      let m = of_mapped row_of t.marked.jobs (row_of j) there in
      let same : stored_of j ≡ stored_of m.0 = rows_apart j m.0 (now j i) (was m.0 m.1) m.2 in
      let k = of_marked m.0 m.1 in
      let serial : k.0.serial ≡ j.serial = sym (ap (λ (s : StoredJob). s.serial) same ∙ ap (λ (x : Job). x.serial) k.2 ∙ stood_serial (first_of t.touched k.0.serial) k.0) in
      let one : k.0 ≡ j = one_job t.jobs k.0 j up (old_in k.0 k.1) i serial in
      (subst (λ (x : Job). IsIn x olds) one k.1, sym (same ∙ ap stored_of (k.2 ∙ ap stood_so one)))

  touched_not_found : (p : Pair) (r : Row) → IsIn p (noted t.touched) → IsTouched t p r → IsIn r (job_rows t.marked.jobs) → ⊥
  touched_not_found p r i h there =
      let f = found_old h.job h.stands (subst (λ (x : Row). IsIn x (job_rows t.marked.jobs)) h.is there) in
      let first : first_of t.touched h.job.serial ≡ Some p.1 = ap (first_of t.touched) h.serial ∙ noted_first t.touched p i in
      absurd (h.other (ap (λ (o : Option Standing). stored_of (stood o h.job)) (sym first) ∙ f.1))

  new_not_found : (j : Job) → IsIn j news → IsIn (row_of j) (job_rows t.marked.jobs) → ⊥
  new_not_found j i there =
      let f = found_old j (new_in j i) there in
      let less : j.serial < j.serial = rises olds news parts_up j j f.0 i in
      absurd (omega arith)

  abbrev is_new : Row → Bool
  is_new row = not (is_found (job_rows t.marked.jobs) row)

  not_there : (r : Row) (b : Bool) → is_found (job_rows t.marked.jobs) r ≡ b → (IsIn r (job_rows t.marked.jobs) → ⊥) → not b ≡ true
  not_there r true e h = absurd (h (found_there (job_rows t.marked.jobs) r e))
  not_there r false e h = refl

  left_new : (j : Job) → IsIn j t.jobs → (IsIn (row_of j) (job_rows t.marked.jobs) → ⊥) → IsIn (row_of j) (new_job_rows t.marked.jobs t.jobs)
  left_new j i none = in_left is_new (job_rows t.jobs) (row_of j) (not_there (row_of j) (is_found (job_rows t.marked.jobs) (row_of j)) refl none) (in_mapped row_of t.jobs j i)

  to_left : (r : Row) → IsIn r all_rows → IsIn r (new_job_rows t.marked.jobs t.jobs)
  to_left r i = elim (of_parts put.rows (job_rows news) r i) as (λ _. IsIn r (new_job_rows t.marked.jobs t.jobs)) [
    | inl k ↦ (
        let m = put.from r k in
        let left = left_new m.2.job m.2.stands (λ there. touched_not_found m.0 r m.1 m.2 (subst (λ (x : Row). IsIn x (job_rows t.marked.jobs)) (sym m.2.is) there)) in
        subst (λ (x : Row). IsIn x (new_job_rows t.marked.jobs t.jobs)) (sym m.2.is) left)
    | inr k ↦ (
        let m = of_mapped row_of news r k in
        subst (λ (x : Row). IsIn x (new_job_rows t.marked.jobs t.jobs)) (sym m.2) (left_new m.0 (new_in m.0 m.1) (new_not_found m.0 m.1)))
  ]

  old_found : (j : Job) → IsIn j olds → old_job t j.serial ≡ Some j
  old_found j i =
      let old : is_old news j.serial ≡ true = all_below news j.serial (λ k m. rises olds news parts_up j k i m) in
      cond-true (is_old news j.serial) (find (λ k. k.serial == j.serial) t.jobs) None old ∙ found_job t.jobs j j.serial up (old_in j i) refl

  -- the row of a job that stood as it does, or is stored as it was, was there
  row_was : (j : Job) → IsIn j olds → row_of (stood_so j) ≡ row_of j → IsIn (row_of j) (job_rows t.marked.jobs)
  row_was j i row = subst (λ (x : Row). IsIn x (job_rows t.marked.jobs)) row (in_mapped row_of t.marked.jobs (stood_so j) (in_marked j i))

  old_by_first : (j : Job) (o : Option Standing) → IsIn j olds → first_of t.touched j.serial ≡ o → (IsIn (row_of j) (job_rows t.marked.jobs) → ⊥) → IsIn (row_of j) put.rows
  old_by_first j None i e none = absurd (none (row_was j i (ap (λ (o : Option Standing). row_of (stood o j)) e)))
  old_by_first j (Some w) i e none = elim (put.each (j.serial, w) j (first_noted t.touched j.serial w e) (old_found j i)) as (λ _. IsIn (row_of j) put.rows) [
    | inl same ↦ absurd (none (row_was j i (ap (λ (o : Option Standing). row_of (stood o j)) e ∙ ap job_row same)))
    | inr there ↦ there
  ]

  is_false : (b : Bool) → not b ≡ true → b ≡ true → ⊥
  is_false true h e = absurd (cc)
  is_false false h e = absurd (cc)

  of_left : (r : Row) → IsIn r (new_job_rows t.marked.jobs t.jobs) → IsIn r all_rows
  of_left r i =
      let m = of_mapped row_of t.jobs r (left_in is_new (job_rows t.jobs) r i) in
      let passes : is_new r ≡ true = left_passes is_new (job_rows t.jobs) r i in
      let none : IsIn (row_of m.0) (job_rows t.marked.jobs) → ⊥ = λ there. is_false (is_found (job_rows t.marked.jobs) r) passes (there_found (job_rows t.marked.jobs) r (subst (λ (x : Row). IsIn x (job_rows t.marked.jobs)) (sym m.2) there)) in
      subst (λ (x : Row). IsIn x all_rows) (sym m.2) (elim (of_parts olds news m.0 (subst (λ (jobs : List Job). IsIn m.0 jobs) (sym whole) m.1)) as (λ _. IsIn (row_of m.0) all_rows) [
        | inl k ↦ in_left_part put.rows (job_rows news) (row_of m.0) (old_by_first m.0 (first_of t.touched m.0.serial) k refl none)
        | inr k ↦ in_right_part put.rows (job_rows news) (row_of m.0) (in_mapped row_of news m.0 k)
      ])

  rows_up : IsAscending all_rows
  rows_up =
      both_ascend put.rows (job_rows news) (put.up fits (noted_sorted t.touched)) (jobs_ascending news (λ j i. fits j (new_in j i)) news_up)
      (λ r q i k. (
      let m = put.from r i in
      let n = of_mapped row_of news q k in
      let below : m.0.0 < n.0.serial = below_all news m.0.0 news_up m.2.old n.0 n.1 in
      let at = m.2.serial in
      let first = serial_before m.2.job n.0 (omega arith) (fits n.0 (new_in n.0 n.1)) in
      subst (λ (x : Row). is_before x q ≡ true) (sym m.2.is) (subst (λ (x : Row). is_before (row_of m.2.job) x ≡ true) (sym n.2) first)))

  rows_are : all_rows ≡ new_job_rows t.marked.jobs t.jobs
  rows_are = one_list all_rows (new_job_rows t.marked.jobs t.jobs) rows_up (filter_ascending is_new (job_rows t.jobs) (jobs_ascending t.jobs fits up)) to_left of_left

  -- the changes of touched jobs and of new ones put the rows that aren't among those from before
  pub all_are : fold with_row mid news ≡ cs ++ puts (new_job_rows t.marked.jobs t.jobs)
  all_are =
      new_are news mid
      ∙ ap (λ (l : List RowChange). l ++ puts (job_rows news)) put.made
      ∙ append_assoc cs (puts put.rows) (puts (job_rows news))
      ∙ ap (λ (l : List RowChange). cs ++ l) (puts_both put.rows (job_rows news))
      ∙ ap (λ (rows : List Row). cs ++ puts rows) rows_are

pub jobs_are : (t : Table) → t.marked.jobs ≡ undone t.touched (take (length t.marked.jobs) t.jobs) → IsIncreasing (serials t.jobs) → ((j : Job) → IsIn j t.jobs → IsStored (stored_of j)) → ((j : Job) → IsIn j t.marked.jobs → IsStored (stored_of j)) → (old new : List RowChange) → PutsJobs t old new → new ≡ old ++ puts (new_job_rows t.marked.jobs t.jobs)
jobs_are t before up now was old new h = h.2 ∙ all_are t before up now was old h.0 h.1
