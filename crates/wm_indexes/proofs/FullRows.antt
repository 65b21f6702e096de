-- The order of full names, and what lies where in rows that have it.
use Rattle.std.proofs.Common.{◌≡◌, ℕ, ◌+◌, ◌-◌, ◌<◌, ◌≤◌, true, false, cond, List, [], ◌∷◌, length, get_or, count_by, inl, inr, refl, ap, sym, ◌∙◌, subst, arith}
use Rattle.std.specs.List.{AllWithin, insert}
use Rattle.std.specs.List.Sorted.{IsPartitionPoint, IsPartitionedBy}
use Rattle.std.specs.Cmp.{IsTotalOrder, unsigned_ties, both_tied}
use Rattle.std.specs.Cmp.Lexicographic.{texts_ties}
use Rattle.std.specs.Ordering.{is_lt, is_le, is_gt, is_eq, ordering_reverse}
use Rattle.std.specs.declared.cmp.Ordering.{Ordering}
use Rattle.std.specs.declared.cmp.Ordering.TheVariants.{Less, Equal, Greater}
use Rattle.std.proofs.lemmas.Bool.{false≢true, cases_lt}
use Rattle.std.proofs.lemmas.List.{get_or_default}
use Rattle.std.proofs.lemmas.Cmp.{alike_right, on_total, then_total, nat_cmp_total, nat_list_cmp_total}
use Rattle.std.proofs.lemmas.List.Edits.{length-insert, get_or-insert_below, get_or-insert_at, get_or-insert_above}
use Rattle.std.proofs.lemmas.List.Sums.{sum_by-cons}
use Rattle.wm_base.specs.declared.job.JobName.{JobName}
use Rattle.wm_desc.proofs.Places.{count_by-split}
use Rattle.wm_indexes.specs.declared.keys.FullName.{FullName}
use Rattle.wm_indexes.specs.FullNames.{name_cmp, same_name, is_of, is_below, is_up_to, AreInOrder}

pub name_total : IsTotalOrder name_cmp
name_total = then_total (on_total (λ n. n.number) nat_cmp_total) (then_total (on_total (λ n. n.user) nat_list_cmp_total) (on_total (λ n. n.name) nat_list_cmp_total))

pub name_ties : (a b : JobName) → same_name a b ≡ is_eq (name_cmp a b)
name_ties a b = both_tied _ _ _ _ (unsigned_ties a.number b.number) (both_tied _ _ _ _ (texts_ties a.user b.user) (texts_ties a.name b.name))

lt_by : (r s : Ordering) (a b c : JobName) → name_cmp a b ≡ r → name_cmp b c ≡ s → is_le r ≡ true → is_lt s ≡ true → is_lt (name_cmp a c) ≡ true
lt_by Less Less a b c e f h k = ap is_lt (name_total.trans a b c e f)
lt_by Less Equal a b c e f h k = absurd (false≢true k)
lt_by Less Greater a b c e f h k = absurd (false≢true k)
lt_by Equal s a b c e f h k = ap is_lt (name_total.congr a b c e ∙ f) ∙ k
lt_by Greater s a b c e f h k = absurd (false≢true h)

le_by : (r s : Ordering) (a b c : JobName) → name_cmp a b ≡ r → name_cmp b c ≡ s → is_le r ≡ true → is_le s ≡ true → is_le (name_cmp a c) ≡ true
le_by Less Less a b c e f h k = ap is_le (name_total.trans a b c e f)
le_by Less Equal a b c e f h k = ap is_le (sym (alike_right name_total b c a f) ∙ e)
le_by Less Greater a b c e f h k = absurd (false≢true k)
le_by Equal s a b c e f h k = ap is_le (name_total.congr a b c e ∙ f) ∙ k
le_by Greater s a b c e f h k = absurd (false≢true h)

-- what isn't at or below stands above
above_by : (r : Ordering) (a b : JobName) → name_cmp a b ≡ r → is_le r ≡ false → is_le (name_cmp b a) ≡ true
above_by Less a b e h = absurd (false≢true (sym h))
above_by Equal a b e h = absurd (false≢true (sym h))
above_by Greater a b e h = ap is_le (name_total.antisymm b a ∙ ap ordering_reverse e)

pub not_above : (r : Ordering) → is_gt r ≡ false → is_le r ≡ true
not_above Less h = refl
not_above Equal h = refl
not_above Greater h = absurd (false≢true (sym h))

-- at or below is below or at
parts : (r : Ordering) → cond (is_le r) 1 0 ≡ cond (is_lt r) 1 0 + cond (is_eq r) 1 0
parts Less = refl
parts Equal = refl
parts Greater = refl

of_by : (r : Ordering) → is_lt r ≡ false → is_le r ≡ true → is_eq r ≡ true
of_by Less below up_to = absurd (false≢true (sym below))
of_by Equal below up_to = refl
of_by Greater below up_to = absurd (false≢true up_to)

module _ (job : JobName) where
  -- the rows up to a name are those below it and those of it
  pub count-parts : (rows : List FullName) → count_by (is_up_to job) rows ≡ count_by (is_below job) rows + count_by (is_of job) rows
  count-parts [] = refl
  count-parts (row ∷ rows) =
      let one : cond (is_up_to job row) 1 0 ≡ cond (is_below job row) 1 0 + cond (is_of job row) 1 0 = parts (name_cmp row.job job) ∙ ap (λ b. cond (is_below job row) 1 0 + cond b 1 0) (sym (name_ties row.job job)) in
      omega (arith, one, count-parts rows, sum_by-cons (λ (x : FullName). cond (is_up_to job x) 1 0) row rows, sum_by-cons (λ (x : FullName). cond (is_below job x) 1 0) row rows, sum_by-cons (λ (x : FullName). cond (is_of job x) 1 0) row rows)

  module _ (rows : List FullName) where
    pub parted-below : AreInOrder rows → IsPartitionedBy (is_below job) rows
    parted-below order i j d le lt h =
        elim (cases_lt i j) [
          | inl before ↦ lt_by _ _ (get_or rows i d).job (get_or rows j d).job job refl refl (order i j d before lt) h
          | inr at_j ↦ let same : j ≡ i = omega arith in subst (λ q. is_below job (get_or rows q d) ≡ true) same h
        ]

    pub parted-up_to : AreInOrder rows → IsPartitionedBy (is_up_to job) rows
    parted-up_to order i j d le lt h =
        elim (cases_lt i j) [
          | inl before ↦ le_by _ _ (get_or rows i d).job (get_or rows j d).job job refl refl (order i j d before lt) h
          | inr at_j ↦ let same : j ≡ i = omega arith in subst (λ q. is_up_to job (get_or rows q d) ≡ true) same h
        ]

    -- where the last row is of this name or of one below it, all are
    pub up_to_last : AreInOrder rows → (last : FullName) → last ≡ get_or rows (length rows - 1) last → is_up_to job last ≡ true → IsPartitionPoint (λ row. is_up_to job row ≡ true) (λ row. is_up_to job row ≡ false) rows (length rows)
    up_to_last order last is up_to = (each, λ j d le lt. absurd (omega arith))
      where
        at_end : (d : FullName) → 0 < length rows → is_up_to job (get_or rows (length rows - 1) d) ≡ true
        at_end d some = subst (λ row. is_up_to job row ≡ true) (is ∙ get_or_default rows (length rows - 1) last d (omega arith)) up_to

        each : AllWithin (λ row. is_up_to job row ≡ true) rows 0 (length rows)
        each j d le lt = parted-up_to order j (length rows - 1) d (omega arith) (omega arith) (at_end d (omega arith))

    module _ (begin end : ℕ) (in_range : begin ≤ length rows) (in_range' : end ≤ length rows)
        (below : IsPartitionPoint (λ row. is_below job row ≡ true) (λ row. is_below job row ≡ false) rows begin) (up_to : IsPartitionPoint (λ row. is_up_to job row ≡ true) (λ row. is_up_to job row ≡ false) rows end) where
      -- so many rows are of a name as lie between the places where they begin and end
      pub count-between : end ≡ begin + count_by (is_of job) rows
      count-between =
          omega (arith, count-parts rows, count_by-split (is_below job) rows begin in_range below.0 below.1, count_by-split (is_up_to job) rows end in_range' up_to.0 up_to.1)

      pub is_of-first : begin < end → (d : FullName) → is_of job (get_or rows begin d) ≡ true
      is_of-first some d =
          name_ties (get_or rows begin d).job job ∙ of_by (name_cmp (get_or rows begin d).job job) (below.1 begin d (omega arith) (omega arith)) (up_to.0 begin d (omega arith) some)

-- a row behind all that are of its name or of one below it keeps the order
pub order-insert : (row : FullName) (rows : List FullName) (i : ℕ) → AreInOrder rows → i ≤ length rows → IsPartitionPoint (λ x. is_up_to row.job x ≡ true) (λ x. is_up_to row.job x ≡ false) rows i → AreInOrder (insert rows i row)
order-insert row rows i order in_place point a b d lt in_range =
    let new = insert rows i row in
    let n = length-insert rows i row in_place in
    let lower : (j : ℕ) → j < i → get_or new j d ≡ get_or rows j d = λ j lo. get_or-insert_below rows i row d j lo in_place in
    let here : (j : ℕ) → j ≡ i → get_or new j d ≡ row = λ j e. rw e (get_or-insert_at rows i row d in_place) in
    let upper : (j : ℕ) → i < j → get_or new j d ≡ get_or rows (j - 1) d = λ j hi. subst (λ q. get_or new q d ≡ get_or rows (j - 1) d) {x = j - 1 + 1} (omega arith) (get_or-insert_above rows i row d (j - 1) (omega arith) in_place) in
    let before : a < i → is_up_to row.job (get_or rows a d) ≡ true = λ lo. point.0 a d (omega arith) lo in
    let after : i < b → is_up_to (get_or rows (b - 1) d).job row ≡ true = λ hi. above_by _ (get_or rows (b - 1) d).job row.job refl (point.1 (b - 1) d (omega arith) (omega arith)) in
    elim (cases_lt b i) [
      | inl b_low ↦ rw (lower a (omega arith), lower b b_low) (order a b d lt (omega arith))
      | inr b_high ↦ elim (cases_lt a i) [
        | inl a_low ↦ elim (cases_lt i b) [
          | inl b_up ↦ rw (lower a a_low, upper b b_up) (order a (b - 1) d (omega arith) (omega (arith, n, in_range)))
          | inr b_at ↦ rw (lower a a_low, here b (omega arith)) (before a_low)
        ]
        | inr a_high ↦ elim (cases_lt i a) [
          | inl a_up ↦ rw (upper a a_up, upper b (omega arith)) (order (a - 1) (b - 1) d (omega arith) (omega (arith, n, in_range)))
          | inr a_at ↦ rw (here a (omega arith), upper b (omega arith)) (after (omega arith))
        ]
      ]
    ]
