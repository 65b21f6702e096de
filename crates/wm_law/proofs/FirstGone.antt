-- A list without the first element that passes a test.
use Rattle.std.proofs.Common.{◌≡◌, ℕ, suc, ◌+◌, ◌≤◌, ◌||◌, not, nat_lt, Bool, true, false, cond, List, [], ◌∷◌, length, Some, None, refl, sym, ap, ◌∙◌, arith}
use Rattle.std.specs.List.{count_by, list_any, position_or_len}
use Rattle.std.specs.Option.{option_map_or}
use Rattle.std.specs.Prelude.{position, remove}
use Rattle.std.proofs.lemmas.Bool.Decides.{nat_tests}
use Rattle.std.proofs.lemmas.List.Sums.{sum_by-cons}

-- by recursion
abbrev pub first_gone : {X : Type 0} → (X → Bool) → List X → List X
first_gone p [] = []
first_gone p (x ∷ xs) = cond (p x) xs (x ∷ first_gone p xs)

-- by the place of the first
abbrev taken_at : {X : Type 0} → List X → Bool → ℕ → List X
taken_at xs b n = option_map_or (λ i. remove xs i) (cond b (Some n) None) xs

none_less : (n : ℕ) → nat_lt 0 (suc n) ≡ true
none_less n = grind (arith, nat_tests)

both_less : (n m : ℕ) → nat_lt (1 + n) (suc m) ≡ nat_lt n m
both_less n m = grind (arith, nat_tests)

later_gone : {X : Type 0} (x : X) (xs : List X) (b : Bool) (n : ℕ) → taken_at (x ∷ xs) b (1 + n) ≡ x ∷ taken_at xs b n
later_gone x xs true n = let one : 1 + n ≡ suc n = omega arith in ap (λ (k : ℕ). taken_at (x ∷ xs) true k) one
later_gone x xs false n = refl

gone_by : {X : Type 0} (p : X → Bool) (x : X) (xs ys : List X) (b : Bool) → taken_at xs (nat_lt (position_or_len p xs) (length xs)) (position_or_len p xs) ≡ ys → taken_at (x ∷ xs) (nat_lt (cond (not b) (1 + position_or_len p xs) 0) (suc (length xs))) (cond (not b) (1 + position_or_len p xs) 0) ≡ cond b xs (x ∷ ys)
gone_by p x xs ys true e = ap (λ (t : Bool). taken_at (x ∷ xs) t 0) (none_less (length xs))
gone_by p x xs ys false e = ap (λ (t : Bool). taken_at (x ∷ xs) t (1 + position_or_len p xs)) (both_less (position_or_len p xs) (length xs)) ∙ (later_gone x xs (nat_lt (position_or_len p xs) (length xs)) (position_or_len p xs) ∙ ap (λ (l : List _). x ∷ l) e)

-- the definition removes the same
pub gone_is : {X : Type 0} (p : X → Bool) (xs : List X) → option_map_or (λ i. remove xs i) (position p xs) xs ≡ first_gone p xs
gone_is p [] = refl
gone_is p (x ∷ xs) = gone_by p x xs (first_gone p xs) (p x) (gone_is p xs)

no_more : (a b c : ℕ) → a ≤ b → a ≤ c + b
no_more a b c h = omega arith

fewer_by : {X : Type 0} (q : X → Bool) (x : X) (xs ys : List X) (b : Bool) → count_by q ys ≤ count_by q xs → count_by q (cond b xs (x ∷ ys)) ≤ count_by q (x ∷ xs)
fewer_by q x xs ys true h = rw (sum_by-cons (λ (y : _). cond (q y) 1 0) x xs) (omega arith)
fewer_by q x xs ys false h = rw (sum_by-cons (λ (y : _). cond (q y) 1 0) x ys, sum_by-cons (λ (y : _). cond (q y) 1 0) x xs) (omega arith)

-- it raises no count
pub gone_fewer : {X : Type 0} (p q : X → Bool) (xs : List X) → count_by q (first_gone p xs) ≤ count_by q xs
gone_fewer p q [] = omega arith
gone_fewer p q (x ∷ xs) = fewer_by q x xs (first_gone p xs) (p x) (gone_fewer p q xs)

-- a count of none, and a test that none passes
any_by : (b : Bool) (a : Bool) (n : ℕ) → (n ≡ 0 → a ≡ false) → cond b 1 0 + n ≡ 0 → (b || a) ≡ false
any_by true a n h e = absurd (omega arith)
any_by false a n h e = h (omega arith)

pub none_any : {X : Type 0} (p : X → Bool) (xs : List X) → count_by p xs ≡ 0 → list_any p xs ≡ false
none_any p [] e = refl
none_any p (x ∷ xs) e = any_by (p x) (list_any p xs) (count_by p xs) (none_any p xs) (sym (sum_by-cons (λ (y : _). cond (p y) 1 0) x xs) ∙ e)
