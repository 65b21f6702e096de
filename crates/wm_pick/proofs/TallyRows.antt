-- What the edits of sorted rows leave of their numbers and of their order.
use Rattle.std.proofs.Common.{◌≡◌, ℕ, zero, suc, ◌+◌, ◌-◌, ◌<◌, ◌≤◌, ◌==◌, Bool, true, false, cond, List, [], ◌∷◌, length, get_or, set, take, sum_by, count_by, insert, remove, inl, inr, refl, ap, sym, ◌∙◌, subst, arith}
use Rattle.std.specs.declared.cmp.Ordering.{Ordering}
use Rattle.std.specs.declared.cmp.Ordering.TheVariants.{Less, Equal, Greater}
use Rattle.std.specs.Cmp.{IsTotalOrder}
use Rattle.std.specs.List.{AllWithin}
use Rattle.std.specs.Ordering.{is_eq}
use Rattle.std.proofs.lemmas.Bool.{cases_lt, cond-true, cond-false}
use Rattle.std.proofs.lemmas.Bool.Decides.{nat_tests}
use Rattle.std.proofs.lemmas.Cmp.{tied_itself}
use Rattle.std.proofs.lemmas.List.{take_all}
use Rattle.std.proofs.lemmas.List.Sums.{sum_by-cons, sum_by-insert, sum_by-set, sum_by-remove, sum_by_more, sum_by_more_le}
use Rattle.wm_desc.specs.Place.{IsAt, IsGap}
use Rattle.wm_pick.specs.Rows.{key_of, part_of, number_at, uncounted}

module _ {X : Type 0} (f : X → ℕ) where
  -- the first element and the others
  within_tail : (x : X) (xs : List X) (low high : ℕ) → AllWithin (λ y. f y ≡ 0) (x ∷ xs) (suc low) (suc high) → AllWithin (λ y. f y ≡ 0) xs low high
  within_tail x xs low high h k d le lt = h (suc k) d (omega arith) (omega arith)

  from_start : (x : X) (xs : List X) (high : ℕ) → AllWithin (λ y. f y ≡ 0) (x ∷ xs) 0 (suc high) → AllWithin (λ y. f y ≡ 0) xs 0 high
  from_start x xs high h k d le lt = h (suc k) d (omega arith) (omega arith)

  -- no element adds to the sum
  sum_by-none : (xs : List X) → AllWithin (λ y. f y ≡ 0) xs 0 (length xs) → sum_by f xs ≡ 0
  sum_by-none [] none = refl
  sum_by-none (x ∷ xs) none =
      let here = none 0 x (omega arith) (omega arith) in
      let rest = sum_by-none xs (from_start x xs (length xs) none) in
      rw (sum_by-cons f x xs, here, rest) refl

  -- the element at place i alone adds to the sum
  sum_by-one : (xs : List X) (i : ℕ) (d : X) → i < length xs → AllWithin (λ y. f y ≡ 0) xs 0 i → AllWithin (λ y. f y ≡ 0) xs (suc i) (length xs) → sum_by f xs ≡ f (get_or xs i d)
  sum_by-one [] i d lt before after = absurd (omega arith)
  sum_by-one (x ∷ xs) zero d lt before after =
      let rest = sum_by-none xs (within_tail x xs zero (length xs) after) in
      rw (sum_by-cons f x xs, rest) (omega arith)
  sum_by-one (x ∷ xs) (suc i) d lt before after =
      let here = before 0 x (omega arith) (omega arith) in
      let rest = sum_by-one xs i d (omega arith) (from_start x xs i before) (within_tail x xs (suc i) (length xs) after) in
      rw (sum_by-cons f x xs, here, rest) (omega arith)

raise_step : (b : Bool) (new old n : ℕ) → new + cond b n 0 ≡ old + cond b (n + 1) 0 → new ≡ old + cond b 1 0
raise_step true new old n h = omega arith
raise_step false new old n h = omega arith

lower_step : (b : Bool) (new old n : ℕ) → 1 ≤ n → new + cond b n 0 ≡ old + cond b (n - 1) 0 → new + cond b 1 0 ≡ old
lower_step true new old n some h = omega arith
lower_step false new old n some h = omega arith

module _ {K : Type 0} (eq : K → K → Bool) (cmp : K → K → Ordering) (o : IsTotalOrder cmp) (ties : (a b : K) → eq a b ≡ is_eq (cmp a b)) where
  -- a row of another key adds nothing
  apart : (r : Ordering) → is_eq r ≡ false → (row : K × ℕ) (k : K) → cmp row.0 k ≡ r → part_of eq k row ≡ 0
  apart r differs row k h = cond-false (eq row.0 k) row.1 0 (ties row.0 k ∙ (ap is_eq h ∙ differs))

  -- the number that stands in the row of a key
  pub read-number_at : (k : K) (rows : List (K × ℕ)) (i : ℕ) (row : K × ℕ) → IsAt key_of cmp k rows i → row ≡ get_or rows i row → row.1 ≡ number_at eq k rows
  read-number_at k rows i row h here =
      let whole = sum_by-one (part_of eq k) rows i row h.in_range (λ j d le lt. apart Less refl (get_or rows j d) k (h.before j d le lt)) (λ j d le lt. apart Greater refl (get_or rows j d) k (h.after j d le lt)) in
      let alone = cond-true (eq (get_or rows i row).0 k) (get_or rows i row).1 0 (ties (get_or rows i row).0 k ∙ ap is_eq (h.here row)) in
      ap (λ (r : K × ℕ). r.1) here ∙ sym (whole ∙ alone)

  -- a key without a row
  pub number_at-gap : (k : K) (rows : List (K × ℕ)) (i : ℕ) → IsGap key_of cmp k rows i → number_at eq k rows ≡ 0
  number_at-gap k rows i h = sum_by-none (part_of eq k) rows (λ j d _ lt. other j d lt)
    where
      other : (j : ℕ) (d : K × ℕ) → j < length rows → part_of eq k (get_or rows j d) ≡ 0
      other j d lt = elim (cases_lt j i) [ inl lo ↦ apart Less refl (get_or rows j d) k (h.before j d (omega arith) lo) | inr hi ↦ apart Greater refl (get_or rows j d) k (h.after j d hi lt) ]

  -- what the edits of the row of a key leave of the number of any key
  module _ (key k : K) (rows : List (K × ℕ)) (i : ℕ) (row : K × ℕ) (h : IsAt key_of cmp key rows i) (here : row ≡ get_or rows i row) where
    alike : eq row.0 k ≡ eq key k
    alike =
        let tied = subst (λ (r : K × ℕ). cmp r.0 key ≡ Equal) (sym here) (h.here row) in
        ties row.0 k ∙ (ap is_eq (o.congr row.0 key k tied) ∙ sym (ties key k))

    written : (n : ℕ) → number_at eq k (set rows i (row.0, n)) + part_of eq k row ≡ number_at eq k rows + part_of eq k (row.0, n)
    written n = ap (λ (r : K × ℕ). number_at eq k (set rows i (row.0, n)) + part_of eq k r) here ∙ sum_by-set (part_of eq k) rows i (row.0, n) row h.in_range

    pub raised : number_at eq k (set rows i (row.0, row.1 + 1)) ≡ number_at eq k rows + cond (eq key k) 1 0
    raised =
        let new : ℕ = number_at eq k (set rows i (row.0, row.1 + 1)) in
        subst (λ b. new ≡ number_at eq k rows + cond b 1 0) alike (raise_step (eq row.0 k) new (number_at eq k rows) row.1 (written (row.1 + 1)))

    pub lowered : 1 ≤ row.1 → number_at eq k (set rows i (row.0, row.1 - 1)) + cond (eq key k) 1 0 ≡ number_at eq k rows
    lowered some =
        let new : ℕ = number_at eq k (set rows i (row.0, row.1 - 1)) in
        subst (λ b. new + cond b 1 0 ≡ number_at eq k rows) alike (lower_step (eq row.0 k) new (number_at eq k rows) row.1 some (written (row.1 - 1)))

    pub number_at-remove : row.1 ≡ 1 → number_at eq k (remove rows i) + cond (eq key k) 1 0 ≡ number_at eq k rows
    number_at-remove one =
        let part : cond (eq key k) 1 0 ≡ part_of eq k (get_or rows i row) = ap (λ b. cond b 1 0) (sym alike) ∙ (ap (λ n. cond (eq row.0 k) n 0) (sym one) ∙ ap (part_of eq k) here) in
        ap (λ n. number_at eq k (remove rows i) + n) part ∙ sum_by-remove (part_of eq k) rows i row h.in_range

not_none : (n : ℕ) → 1 ≤ n → (n == 0) ≡ false
not_none n some = grind (arith, nat_tests)

-- no row has the number 0 where one is set or put in that hasn't, or one is taken out
module _ {K : Type 0} (rows : List (K × ℕ)) (i : ℕ) (none : uncounted rows ≡ 0) where
  abbrev none_of : K × ℕ → ℕ
  none_of row = cond (row.1 == 0) 1 0

  some_of : (row : K × ℕ) → 1 ≤ row.1 → none_of row ≡ 0
  some_of row some = cond-false (row.1 == 0) 1 0 (not_none row.1 some)

  pub counted-set : (row : K × ℕ) → i < length rows → 1 ≤ row.1 → uncounted (set rows i row) ≡ 0
  counted-set row lt some =
      let whole : uncounted (set rows i row) + none_of (get_or rows i row) ≡ uncounted rows + none_of row = sum_by-set none_of rows i row row lt in
      let here = some_of row some in
      omega (arith, whole, here, none)

  pub counted-insert : (row : K × ℕ) → 1 ≤ row.1 → uncounted (insert rows i row) ≡ 0
  counted-insert row some =
      let whole : uncounted (insert rows i row) ≡ uncounted rows + none_of row = sum_by-insert none_of rows i row in
      let here = some_of row some in
      omega (arith, whole, here, none)

  pub counted-remove : K × ℕ → i < length rows → uncounted (remove rows i) ≡ 0
  counted-remove row lt =
      let whole : uncounted (remove rows i) + none_of (get_or rows i row) ≡ uncounted rows = sum_by-remove none_of rows i row lt in
      omega (arith, whole, none)

-- how often a key stands among the first keys, and the next one
module _ {K : Type 0} (eq : K → K → Bool) (keys : List K) (i : ℕ) (key : K) (lt : i < length keys) (here : key ≡ get_or keys i key) where
  pub counted-next : (k : K) → count_by (λ x. eq x k) (take (i + 1) keys) ≡ count_by (λ x. eq x k) (take i keys) + cond (eq key k) 1 0
  counted-next k =
      let next = sum_by_more (λ x. cond (eq x k) 1 0) keys i key lt in
      subst (λ (x : K). count_by (λ y. eq y k) (take (i + 1) keys) ≡ count_by (λ y. eq y k) (take i keys) + cond (eq x k) 1 0) (sym here) next

  pub counted-within : (k : K) → count_by (λ x. eq x k) (take i keys) + cond (eq key k) 1 0 ≤ count_by (λ x. eq x k) keys
  counted-within k =
      let within = sum_by_more_le (λ x. cond (eq x k) 1 0) keys i key lt in
      subst (λ (x : K). count_by (λ y. eq y k) (take i keys) + cond (eq x k) 1 0 ≤ count_by (λ y. eq y k) keys) (sym here) within

-- and among all of them
pub counted-all : {K : Type 0} (eq : K → K → Bool) (keys : List K) (i : ℕ) (k : K) → length keys ≤ i → count_by (λ x. eq x k) (take i keys) ≡ count_by (λ x. eq x k) keys
counted-all {K} eq keys i k whole = ap (λ (xs : List K). count_by (λ x. eq x k) xs) (take_all i keys whole)

-- a key is itself
pub one-itself : {K : Type 0} (eq : K → K → Bool) (cmp : K → K → Ordering) (o : IsTotalOrder cmp) (ties : (a b : K) → eq a b ≡ is_eq (cmp a b)) (k : K) → ◌≡◌ {A = ℕ} (cond (eq k k) 1 0) 1
one-itself eq cmp o ties k = cond-true (eq k k) 1 0 (ties k k ∙ ap is_eq (tied_itself o k))
