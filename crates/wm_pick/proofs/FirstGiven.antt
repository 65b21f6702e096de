-- The first that the elements of a list give, where these stand in the order of a number.
use Rattle.std.proofs.Common.{◌≡◌, ℕ, zero, suc, ◌<◌, ◌≤◌, ◌+◌, ◌-◌, Bool, true, false, List, [], ◌∷◌, Option, Some, None, is_some, fold, length, take, slice_index_or, refl, sym, ap, ◌∙◌, inl, inr, arith}
use Rattle.std.specs.List.{range_with_len}
use Rattle.std.specs.Option.{option_or}
use Rattle.std.proofs.lemmas.List.Folds.{fold_stays, fold_stuck}
use Rattle.std.proofs.lemmas.List.FromFn.{length-range_with_len, get_or-range_with_len}
use Rattle.std.proofs.lemmas.List.Sums.{fold_more}
use Rattle.wm_base.proofs.Tests.{None-from_is_some}
use Rattle.wm_law.specs.Laws.{IsIn}
use Rattle.wm_law.proofs.ByNumber.{IsAscending}
use Rattle.wm_pick.specs.Heads.{first_given, priorities}

-- an element gives it, and none of a lesser number gives anything
pub record IsGiven {X Y : Type 0} (give : X → Option Y) (key : X → ℕ) (xs : List X) (y : Y) : Type 0 where
  pub element : X
  pub is_in : IsIn element xs
  pub gives : give element ≡ Some y
  pub before : (z : X) → IsIn z xs → key z < key element → give z ≡ None

module _ {X Y : Type 0} (give : X → Option Y) where
  -- what is found first stays
  found_stays : (y : Y) (xs : List X) → fold (λ found x. option_or found (give x)) (Some y) xs ≡ Some y
  found_stays y xs = fold_stays (λ (found : Option Y) (x : X). option_or found (give x)) (Some y) (λ x. refl) xs

  begun_by : (xs : List X) (o : Option Y) → fold (λ found x. option_or found (give x)) o xs ≡ option_or o (first_given give xs)
  begun_by xs None = refl
  begun_by xs (Some y) = found_stays y xs

  -- what the first element gives, or else the others
  begun : (x : X) (xs : List X) → first_given give (x ∷ xs) ≡ option_or (give x) (first_given give xs)
  begun x xs = begun_by xs (give x)

  none_by : (x : X) (xs : List X) (o : Option Y) → give x ≡ o → option_or o (first_given give xs) ≡ None → (first_given give xs ≡ None → (z : X) → IsIn z xs → give z ≡ None) → (z : X) → IsIn z (x ∷ xs) → give z ≡ None
  none_by x xs (Some y) h e rest z i = absurd (cc)
  none_by x xs None h e rest z (inl same) = ap give same ∙ h
  none_by x xs None h e rest z (inr i) = rest e z i

  -- where nothing is given, no element gives anything
  pub none_given : (xs : List X) → first_given give xs ≡ None → (z : X) → IsIn z xs → give z ≡ None
  none_given [] e z i = absurd i
  none_given (x ∷ xs) e z i = none_by x xs (give x) refl (sym (begun x xs) ∙ e) (none_given xs) z i

  module _ (key : X → ℕ) where
    none_less : (x : X) (xs : List X) → IsAscending key (x ∷ xs) → (z : X) → IsIn z (x ∷ xs) → key z < key x → ⊥
    none_less x xs a z (inl same) less = let level : key z ≡ key x = ap key same in omega arith
    none_less x xs a z (inr i) less = let more : key x < key z = a.0 z i in omega arith

    none_before : (x : X) (xs : List X) (y : Y) → give x ≡ None → (g : IsGiven give key xs y) → (z : X) → IsIn z (x ∷ xs) → key z < key g.element → give z ≡ None
    none_before x xs y h g z (inl same) less = ap give same ∙ h
    none_before x xs y h g z (inr i) less = g.before z i less

    given_by : (x : X) (xs : List X) (o : Option Y) (y : Y) → give x ≡ o → IsAscending key (x ∷ xs) → option_or o (first_given give xs) ≡ Some y → (first_given give xs ≡ Some y → IsGiven give key xs y) → IsGiven give key (x ∷ xs) y
    given_by x xs (Some v) y h a e rest = record { element = x; is_in = inl refl; gives = h ∙ e; before = λ z i less. absurd (none_less x xs a z i less) }
    given_by x xs None y h a e rest =
        let g = rest e in
        record { element = g.element; is_in = inr g.is_in; gives = g.gives; before = none_before x xs y h g }

    -- what is given first
    pub is_given : (xs : List X) (y : Y) → IsAscending key xs → first_given give xs ≡ Some y → IsGiven give key xs y
    is_given [] y a e = absurd (cc)
    is_given (x ∷ xs) y a e = given_by x xs (give x) y refl a (sym (begun x xs) ∙ e) (is_given xs y a.1)

some_of : {Y : Type 0} (o : Option Y) → is_some o ≡ true → (y : Y) × (o ≡ Some y)
some_of None e = absurd (cc)
some_of (Some y) e = (y, refl)

-- a walk along a list that stops at the first element that gives something
module _ {X Y : Type 0} (give : X → Option Y) (xs : List X) (i : ℕ) (x : X) (within : i < length xs) (here : x ≡ slice_index_or xs i x) (none : first_given give (take i xs) ≡ None) where
  given_next : option_or (first_given give (take i xs)) (give (slice_index_or xs i x)) ≡ give x
  given_next = ap (λ (o : Option Y). option_or o (give (slice_index_or xs i x))) none ∙ ap give (sym here)

  -- what the next one gives is the first
  pub given_here : (z : X) (o : Option Y) (t : Bool) → z ≡ x → o ≡ give z → t ≡ is_some o → t ≡ true → o ≡ first_given give xs
  given_here z o t same gives is some =
      let e : o ≡ give x = gives ∙ ap give same in
      let y = some_of o (sym is ∙ some) in
      y.1 ∙ fold_stuck (λ (found : Option Y) (z : X). option_or found (give z)) (Some y.0) (λ w. refl) None xs i x within (given_next ∙ sym e ∙ y.1)

  -- the next one gives nothing either
  pub none_next : (z : X) (o : Option Y) (t : Bool) → z ≡ x → o ≡ give z → t ≡ is_some o → t ≡ false → first_given give (take (i + 1) xs) ≡ None
  none_next z o t same gives is nothing =
      let e : o ≡ give x = gives ∙ ap give same in
      fold_more (λ (found : Option Y) (z : X). option_or found (give z)) None xs i x within ∙ given_next ∙ sym e ∙ None-from_is_some o (sym is ∙ nothing)

-- the numbers of a range
not_below : (n a p : ℕ) → IsIn p (range_with_len a n) → a ≤ p
not_below zero a p i = absurd i
not_below (suc n) a p (inl e) = omega arith
not_below (suc n) a p (inr i) = let more : a + 1 ≤ p = not_below n (a + 1) p i in omega arith

range_ascends : (n a : ℕ) → IsAscending (λ p. p) (range_with_len a n)
range_ascends zero a = tt
range_ascends (suc n) a = ((λ p i. let more : a + 1 ≤ p = not_below n (a + 1) p i in omega arith), range_ascends n (a + 1))

in_range : (n a p k : ℕ) → p ≡ a + k → k < n → IsIn p (range_with_len a n)
in_range zero a p k e h = absurd (omega arith)
in_range (suc n) a p zero e h = inl (omega arith)
in_range (suc n) a p (suc k) e h = inr (in_range n (a + 1) p k (omega arith) (omega arith))

pub priorities_ascend : IsAscending (λ p. p) priorities
unfolding priorities
priorities_ascend = range_ascends 9 1

pub in_priorities : (p : ℕ) → 1 ≤ p → p ≤ 9 → IsIn p priorities
unfolding priorities
in_priorities p least greatest = in_range 9 1 p (p - 1) (omega arith) (omega arith)

-- where they stand
pub length_priorities : length priorities ≡ 9
unfolding priorities
length_priorities = length-range_with_len 1 9

pub priority_at : (p : ℕ) → 1 ≤ p → p < 10 → p ≡ slice_index_or priorities (p - 1) p
unfolding priorities
priority_at p least most =
    let there = get_or-range_with_len 1 9 (p - 1) p (omega arith) in
    let same : p ≡ 1 + (p - 1) = omega arith in
    same ∙ sym there
