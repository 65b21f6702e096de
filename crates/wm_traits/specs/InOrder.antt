-- Why rows that are changed stay in order.
use Rattle.std.proofs.Common.{◌≡◌, ℕ, zero, suc, ◌+◌, Bool, true, false, cond, List, [], ◌∷◌, get_or, take, drop, All, AllPairs, count_by, refl, ap, sym, ◌∙◌, arith}
use Rattle.std.specs.declared.cmp.Ordering.{Ordering}
use Rattle.std.specs.declared.cmp.Ordering.TheVariants.{Less, Equal, Greater}
use Rattle.std.specs.Cmp.{IsTotalOrder}
use Rattle.std.specs.Cmp.Lexicographic.{slice_cmp, on_texts, texts_ties}
use Rattle.std.specs.Ordering.{is_lt, is_eq, nat_cmp, ordering_reverse}
use Rattle.std.specs.List.{insert}
use Rattle.std.proofs.Math.Numerals.{one-add}
use Rattle.std.proofs.lemmas.Bool.{true≢false, false≢true}
use Rattle.std.proofs.lemmas.List.Elements.{All-cons, All-head, All-tail, All-append, All-take, All-drop}
use Rattle.std.proofs.lemmas.List.Kept.{AllPairs-cons}
use Rattle.std.proofs.lemmas.List.Sums.{sum_by-cons}
use Rattle.wm_traits.specs.declared.row.Row.{Row}
use Rattle.wm_traits.specs.declared.row.RowChange.{RowChange}
use Rattle.wm_traits.specs.declared.row.RowChange.TheVariants.{Put, Del}
use Rattle.wm_traits.specs.Rows.{place_of, is_before, is_of, IsInOrder, without, placed, put, changed_by, changed}
use Rattle.wm_traits.specs.Spawner.{without_first}

-- how two rows stand
abbrev stand : Row → Row → Ordering
stand a b = slice_cmp nat_cmp (place_of a) (place_of b)

order : IsTotalOrder stand
order = on_texts place_of

abbrev Before : Row → Row → Type 0
Before a b = is_before a b ≡ true

-- what an answer of a comparison is, by its test
is_Less : (c : Ordering) → is_lt c ≡ true → c ≡ Less
is_Less Less h = refl
is_Less Equal h = absurd (false≢true h)
is_Less Greater h = absurd (false≢true h)

is_Equal : (c : Ordering) → is_eq c ≡ true → c ≡ Equal
is_Equal Less h = absurd (false≢true h)
is_Equal Equal h = refl
is_Equal Greater h = absurd (false≢true h)

is_Greater : (c : Ordering) → is_lt c ≡ false → is_eq c ≡ false → c ≡ Greater
is_Greater Less h g = absurd (true≢false h)
is_Greater Equal h g = absurd (true≢false g)
is_Greater Greater h g = refl

turned : (a b : Row) (c : Ordering) → stand b a ≡ c → stand a b ≡ ordering_reverse c
turned a b c h = order.antisymm a b ∙ ap ordering_reverse h

pub before_later : (a b c : Row) → is_before a b ≡ true → is_before b c ≡ true → is_before a c ≡ true
before_later a b c h g = ap is_lt (order.trans a b c (is_Less _ h) (is_Less _ g))

-- a row is that of another's table and key where they stand alike
of_is_eq : (row x : Row) → is_of row.tab row.key x ≡ is_eq (stand x row)
of_is_eq row x = texts_ties (place_of x) (place_of row)

module _ {X : Type 0} (P : X → Type 0) (test : X → Bool) where
  either_all : (b : Bool) (x : X) (xs ys : List X) → All P xs → All P (x ∷ ys) → All P (cond b xs (x ∷ ys))
  either_all true x xs ys h k = h
  either_all false x xs ys h k = k

  all_without : (xs : List X) → All P xs → All P (without_first test xs)
  all_without [] h = h
  all_without (x ∷ xs) h =
      let tail = All-tail P x xs h in
      either_all (test x) x xs (without_first test xs) tail (All-cons P x (without_first test xs) (All-head P x xs h) (all_without xs tail))

all_inserted : {X : Type 0} (P : X → Type 0) (xs : List X) (n : ℕ) (x : X) → All P xs → P x → All P (insert xs n x)
all_inserted P xs n x h here = All-append P (take n xs) (x ∷ drop n xs) (All-take P n xs h) (All-cons P x (drop n xs) here (All-drop P n xs h))

module _ {X : Type 0} (R : X → X → Type 0) where
  pairs_tail : (x : X) (xs : List X) → AllPairs R (x ∷ xs) → AllPairs R xs
  pairs_tail x xs h i j d lt within = h (suc i) (suc j) d (omega arith) (omega arith)

  pairs_head : (x : X) (xs : List X) → AllPairs R (x ∷ xs) → All (R x) xs
  pairs_head x xs h k d within = h zero (suc k) d (omega arith) (omega arith)

  either_pairs : (b : Bool) (x : X) (xs ys : List X) → AllPairs R xs → AllPairs R (x ∷ ys) → AllPairs R (cond b xs (x ∷ ys))
  either_pairs true x xs ys h k = h
  either_pairs false x xs ys h k = k

  pairs_without : (test : X → Bool) (xs : List X) → AllPairs R xs → AllPairs R (without_first test xs)
  pairs_without test [] h = h
  pairs_without test (x ∷ xs) h =
      let tail = pairs_tail x xs h in
      either_pairs (test x) x xs (without_first test xs) tail (AllPairs-cons R x (without_first test xs) (all_without (R x) test xs (pairs_head x xs h)) (pairs_without test xs tail))

-- a row and those that stand behind it
module _ (row : Row) where
  abbrev IsOther : Row → Type 0
  IsOther x = is_of row.tab row.key x ≡ false

  -- behind a row of the same place there is none
  other_behind : (x y : Row) → stand x row ≡ Equal → Before x y → IsOther y
  other_behind x y h lt =
      let less : stand row y ≡ Less = sym (order.congr x row y h) ∙ is_Less _ lt in
      of_is_eq row y ∙ ap is_eq (turned y row Less less)

  none_left : (xs : List Row) → IsInOrder xs → All IsOther (without row.tab row.key xs)
  none_left [] h = λ k d within. absurd (omega arith)
  none_left (x ∷ xs) h = by (none_left xs (pairs_tail Before x xs h)) (is_of row.tab row.key x) refl
    where
      by : All IsOther (without row.tab row.key xs) → (b : Bool) → is_of row.tab row.key x ≡ b → All IsOther (cond b xs (x ∷ without row.tab row.key xs))
      by rest true is =
          let alike = is_Equal _ (sym (of_is_eq row x) ∙ is) in
          λ k d within. other_behind x (get_or xs k d) alike (pairs_head Before x xs h k d within)
      by rest false is = All-cons IsOther x (without row.tab row.key xs) is rest

  abbrev behind : List Row → ℕ
  behind xs = count_by (λ other. is_before other row) xs

  counted : (x : Row) (xs : List Row) → behind (x ∷ xs) ≡ cond (is_before x row) 1 0 + behind xs
  counted x xs = sum_by-cons (λ other. cond (is_before other row) 1 0) x xs

  not_before : (y : Row) → Before row y → is_before y row ≡ false
  not_before y lt = ap is_lt (turned y row Less (is_Less _ lt))

  none_before : (xs : List Row) → All (Before row) xs → behind xs ≡ 0
  none_before [] h = refl
  none_before (x ∷ xs) h =
      rw (counted x xs, not_before x (All-head (Before row) x xs h), none_before xs (All-tail (Before row) x xs h)) refl

  place_in_order : (xs : List Row) → IsInOrder xs → All IsOther xs → IsInOrder (placed row xs)
  place_in_order [] h others = AllPairs-cons Before row [] (λ k d within. absurd (omega arith)) h
  place_in_order (x ∷ xs) h others = by (place_in_order xs (pairs_tail Before x xs h) (All-tail IsOther x xs others)) (is_before x row) refl
    where
      by : IsInOrder (placed row xs) → (b : Bool) → is_before x row ≡ b → IsInOrder (placed row (x ∷ xs))
      by later true is =
          let count : behind (x ∷ xs) ≡ suc (behind xs) = rw (counted x xs, is) (one-add (behind xs)) in
          let all = all_inserted (Before x) xs (behind xs) row (pairs_head Before x xs h) is in
          rw count (AllPairs-cons Before x (placed row xs) all later)
      by later false is =
          let other : is_eq (stand x row) ≡ false = sym (of_is_eq row x) ∙ All-head IsOther x xs others in
          let less : stand row x ≡ Less = turned row x Greater (is_Greater _ is other) in
          let first : Before row x = ap is_lt less in
          let all : All (Before row) xs = λ k d within. ap is_lt (order.trans row x (get_or xs k d) less (is_Less _ (pairs_head Before x xs h k d within))) in
          let both : All (Before row) (x ∷ xs) = All-cons (Before row) x xs first all in
          rw (none_before (x ∷ xs) both) (AllPairs-cons Before row (x ∷ xs) both h)

  put_in_order : (xs : List Row) → IsInOrder xs → IsInOrder (put row xs)
  put_in_order xs h = place_in_order (without row.tab row.key xs) (pairs_without Before (is_of row.tab row.key) xs h) (none_left xs h)

one_in_order : (rows : List Row) (change : RowChange) → IsInOrder rows → IsInOrder (changed_by rows change)
one_in_order rows (Put row) h = put_in_order row rows h
one_in_order rows (Del tab key) h = pairs_without Before (is_of tab key) rows h

pub changed_in_order : (changes : List RowChange) (rows : List Row) → IsInOrder rows → IsInOrder (changed changes rows)
changed_in_order [] rows h = h
changed_in_order (change ∷ changes) rows h = changed_in_order changes (changed_by rows change) (one_in_order rows change h)
