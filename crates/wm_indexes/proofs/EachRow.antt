-- How many rows, and how many jobs, have a full name with a serial.
use Rattle.std.proofs.Common.{◌≡◌, ℕ, ◌+◌, ◌<◌, ◌≤◌, Bool, true, false, cond, ◌&&◌, ◌==◌, List, [], ◌∷◌, ◌++◌, length, get_or, count_by, refl, ap, sym, ◌∙◌, subst, inl, inr, arith}
use Rattle.std.specs.Bool.{Decides}
use Rattle.std.specs.List.{AllWithin}
use Rattle.std.specs.List.Sorted.{IsPartitionPoint}
use Rattle.std.specs.Ordering.{is_le, is_eq}
use Rattle.std.specs.declared.cmp.Ordering.{Ordering}
use Rattle.std.specs.declared.cmp.Ordering.TheVariants.{Less, Equal, Greater}
use Rattle.std.proofs.lemmas.Bool.{false≢true, cases_lt}
use Rattle.std.proofs.lemmas.Bool.Decides.{Decides-and, Decides-eqb}
use Rattle.std.proofs.lemmas.List.{get_or_default}
use Rattle.std.proofs.lemmas.List.Sums.{sum_by-cons, sum_by-append, sum_by_push}
use Rattle.std.proofs.lemmas.Slice.Eq.{bytes_eq-Decides}
use Rattle.wm_base.specs.declared.job.JobName.{JobName}
use Rattle.wm_desc.proofs.Places.{count_by-split}
use Rattle.wm_law.specs.declared.job.Job.{Job}
use Rattle.wm_indexes.specs.declared.keys.FullName.{FullName}
use Rattle.wm_indexes.specs.FullNames.{name_cmp, same_row, is_row, is_up_to}
use Rattle.wm_indexes.specs.Names.{Names, IsNames, row_of, has_row}
use Rattle.wm_indexes.proofs.FullRows.{name_ties}

row_decides : (a b : FullName) → Decides (same_row a b) (((a.job.number ≡ b.job.number) × ((a.job.user ≡ b.job.user) × (a.job.name ≡ b.job.name))) × (a.serial ≡ b.serial))
row_decides a b =
    let names = Decides-and _ _ (bytes_eq-Decides a.job.user b.job.user) (bytes_eq-Decides a.job.name b.job.name) in
    Decides-and _ _ (Decides-and _ _ (Decides-eqb a.job.number b.job.number) names) (Decides-eqb a.serial b.serial)

one_name : (a b : JobName) → a.number ≡ b.number → a.user ≡ b.user → a.name ≡ b.name → a ≡ b
one_name a b number user name =
    let first : a ≡ record a { number = b.number } = ap (λ (n : ℕ). record a { number = n }) number in
    let second : record a { number = b.number } ≡ record b { name = a.name } = ap (λ (l : List ℕ). record a { number = b.number; user = l }) user in
    first ∙ (second ∙ ap (λ (l : List ℕ). record b { name = l }) name)

one_row_by : (a b : FullName) → a.job ≡ b.job → a.serial ≡ b.serial → a ≡ b
one_row_by a b job serial = ap (λ (n : JobName). record a { job = n }) job ∙ ap (λ (s : ℕ). record b { serial = s }) serial

-- two rows are one where the test says so
pub one_row : (a b : FullName) → same_row a b ≡ true → a ≡ b
one_row a b h =
    let same = (row_decides a b).0 h in
    one_row_by a b (one_name a.job b.job same.0.0 same.0.1.0 same.0.1.1) same.1

pub own_row : (row : FullName) → is_row row row ≡ true
own_row row = (row_decides row row).1 ((refl, (refl, refl)), refl)

not_tied : (r : Ordering) → is_le r ≡ false → is_eq r ≡ false
not_tied Less h = absurd (false≢true (sym h))
not_tied Equal h = absurd (false≢true (sym h))
not_tied Greater h = refl

-- a row of a name above that of a row isn't this one
above_row : (row x : FullName) → is_up_to row.job x ≡ false → is_row row x ≡ false
above_row row x h = ap (λ (b : Bool). b && (x.serial == row.serial)) (name_ties x.job row.job ∙ not_tied (name_cmp x.job row.job) h)

module _ (row : FullName) (rows : List FullName) where
  -- none of the rows from a place on is the one that is sought
  abbrev pub NoneFrom : ℕ → Type 0
  NoneFrom i = AllWithin (λ x. is_row row x ≡ false) rows i (length rows)

  pub none_above : (i : ℕ) → IsPartitionPoint (λ x. is_up_to row.job x ≡ true) (λ x. is_up_to row.job x ≡ false) rows i → NoneFrom i
  none_above i point k d le lt = above_row row (get_or rows k d) (point.1 k d le lt)

  pub none_more : (i n : ℕ) (x : FullName) → n ≡ i + 1 → NoneFrom n → x ≡ get_or rows i x → is_row row x ≡ false → NoneFrom i
  none_more i n x next none is other k d le lt =
      elim (cases_lt i k) [
        | inl above ↦ none k d (omega arith) lt
        | inr at ↦
            let same : i ≡ k = omega arith in
            let here : get_or rows i x ≡ get_or rows k d = ap (λ q. get_or rows q x) same ∙ get_or_default rows k x d lt in
            subst (λ y. is_row row y ≡ false) (is ∙ here) other
      ]

  -- the one that the test finds is it
  pub row_at : (i : ℕ) (x : FullName) → i < length rows → x ≡ get_or rows i x → is_row row x ≡ true → get_or rows i row ≡ row
  row_at i x lt is h = get_or_default rows i row x lt ∙ (sym is ∙ one_row x row h)

  -- one of them is
  pub some_there : 1 ≤ count_by (is_row row) rows → NoneFrom 0 → ⊥
  some_there some none =
      let count = count_by-split (is_row row) rows 0 (omega arith) (λ k d le lt. absurd (omega arith)) none in
      omega (arith, some, count)

-- jobs with one more behind
pub each-push : (jobs : List Job) (j : Job) (row : FullName) → count_by (has_row row) (jobs ++ j ∷ []) ≡ count_by (has_row row) jobs + cond (has_row row j) 1 0
each-push jobs j row = sum_by_push (λ (x : Job). cond (has_row row x) 1 0) jobs j

-- jobs where another of the same full name and serial stands in the place of one
pub each-replaced : (before : List Job) (j k : Job) (behind : List Job) → k.serial ≡ j.serial → k.job ≡ j.job → (row : FullName) → count_by (has_row row) (before ++ j ∷ behind) ≡ count_by (has_row row) (before ++ k ∷ behind)
each-replaced before j k behind serial job row =
    parts j ∙ (ap (λ (x : FullName). count_by (has_row row) before + (cond (is_row row x) 1 0 + count_by (has_row row) behind)) (sym (one_row_by (row_of k) (row_of j) job serial)) ∙ sym (parts k))
  where
    parts : (x : Job) → count_by (has_row row) (before ++ x ∷ behind) ≡ count_by (has_row row) before + (cond (has_row row x) 1 0 + count_by (has_row row) behind)
    parts x = sum_by-append (λ (y : Job). cond (has_row row y) 1 0) before (x ∷ behind) ∙ ap (λ (n : ℕ). count_by (has_row row) before + n) (sum_by-cons (λ (y : Job). cond (has_row row y) 1 0) x behind)

-- the row of the last job is there
pub last-there : (jobs : List Job) (j : Job) (names : Names) → IsNames (jobs ++ j ∷ []) names → 1 ≤ count_by (is_row (row_of j)) names.rows.full
last-there jobs j names are =
    let own : ◌≡◌ {A = ℕ} (cond (has_row (row_of j) j) 1 0) 1 = ap (λ (b : Bool). cond b 1 0) (own_row (row_of j)) in
    omega (arith, are.each (row_of j), each-push jobs j (row_of j), own)
