-- Pass 0 once the seats have given their passes back.
use Rattle.std.proofs.Common.{◌≡◌, ◌∙◌, ℕ, ◌+◌, ◌<◌, ◌≤◌, max, Bool, List, [], ◌∷◌, ◌++◌, All, count_by, drop, fold, get_or, length, map, take, Option, Some, None, refl, sym, ap, arith}
use Rattle.std.specs.Prelude.{if◌then◌else◌}
use Rattle.std.specs.List.{AllZip}
use Rattle.std.proofs.lemmas.List.{length-append, length-map, length-take-le}
use Rattle.std.proofs.lemmas.List.Elements.{All-head, All-tail}
use Rattle.std.proofs.lemmas.List.Sums.{fold_more}
use Rattle.wm_floor.specs.Floor.{Floored, Seen}
use Rattle.wm_turn.specs.Passed.{longer}
use Rattle.wm_serve.specs.Seating.{entered, given, joined, left, seated, with_pass}
use Rattle.wm_serve.specs.Seats.{Runs, Sits, Tellers, pass_of, takes_pass}
use Rattle.wm_serve.specs.declared.seat.Seat.{Seat}
use Rattle.wm_serve.specs.declared.seat.Seat.TheVariants.{Worker, Closer, Monitor}
use Rattle.wm_serve.proofs.Seatings.{counted, unchanged_here}

-- of two lists the longer one is as long as each
longer_first : {E : Type 0} (a b : List E) → length a ≤ length (longer a b)
longer_first a b = grind (arith)

longer_second : {E : Type 0} (a b : List E) → length b ≤ length (longer a b)
longer_second a b = grind (arith)

module _ {K : Type 0} where
  -- one seat gives its pass back
  left_number : (zero : Seen K) (p : Option (Seen K)) → (joined p zero).number ≡ zero.number
  left_number zero None = refl
  left_number zero (Some p) = refl

  left_made : (zero : Seen K) (p : Option (Seen K)) → (joined p zero).made ≡ zero.made
  left_made zero None = refl
  left_made zero (Some p) = refl

  left_mark : (zero : Seen K) (p : Option (Seen K)) → zero.mark ≤ (joined p zero).mark
  left_mark zero None = omega arith
  left_mark zero (Some p) = omega arith

  left_seen : (zero : Seen K) (p : Option (Seen K)) → length zero.seen ≤ length (joined p zero).seen
  left_seen zero None = omega arith
  left_seen zero (Some p) = longer_first zero.seen p.seen

module _ {K D P C : Type 0} where
  -- all seats give theirs back
  pub number_left : (zero : Seen K) (xs : List (Seat K D P C)) → (fold left zero xs).number ≡ zero.number
  number_left zero [] = refl
  number_left zero (x ∷ xs) = number_left (left zero x) xs ∙ left_number zero (pass_of x)

  -- one more has
  pub left_more : (zero z to : Seen K) (xs ys : List (Seat K D P C)) (i : ℕ) (d : Seat K D P C) → i < length xs → z ≡ fold left zero (take i xs) → get_or ys i d ≡ get_or xs i d → to ≡ left z (get_or ys i d) → to ≡ fold left zero (take (i + 1) xs)
  left_more zero z to xs ys i d lt has same new =
      new ∙ ap (λ (s : Seat K D P C). left z s) same ∙ ap (λ (p : Seen K). left p (get_or xs i d)) has ∙ sym (fold_more (λ (p : Seen K) (s : Seat K D P C). left p s) zero xs i d lt)

  pub next_left : (xs ys : List (Seat K D P C)) (i : ℕ) (d : Seat K D P C) → i < length xs → ys ≡ map (with_pass None) (take i xs) ++ drop i xs → get_or ys i d ≡ get_or xs i d
  next_left xs ys i d lt is = unchanged_here (map (with_pass None) (take i xs)) xs ys i d lt (length-map (take i xs) (with_pass None) ∙ length-take-le i xs (omega arith)) is

  pub made_left : (zero : Seen K) (xs : List (Seat K D P C)) → (fold left zero xs).made ≡ zero.made
  made_left zero [] = refl
  made_left zero (x ∷ xs) = made_left (left zero x) xs ∙ left_made zero (pass_of x)

  pub mark_left : (zero : Seen K) (xs : List (Seat K D P C)) → zero.mark ≤ (fold left zero xs).mark
  mark_left zero [] = omega arith
  mark_left zero (x ∷ xs) = omega (arith, left_mark zero (pass_of x), mark_left (left zero x) xs)

  pub seen_left : (zero : Seen K) (xs : List (Seat K D P C)) → length zero.seen ≤ length (fold left zero xs).seen
  seen_left zero [] = omega arith
  seen_left zero (x ∷ xs) = omega (arith, left_seen zero (pass_of x), seen_left (left zero x) xs)

  -- a seat's own pass is in it
  pub own_mark : (zero : Seen K) (x : Seat K D P C) (xs : List (Seat K D P C)) (p : Seen K) → pass_of x ≡ Some p → p.mark ≤ (fold left zero (x ∷ xs)).mark
  own_mark zero x xs p is = let first : (left zero x).mark ≡ max zero.mark p.mark = ap (λ (o : Option (Seen K)). (joined o zero).mark) is in omega (arith, first, mark_left (left zero x) xs)

  pub own_seen : (zero : Seen K) (x : Seat K D P C) (xs : List (Seat K D P C)) (p : Seen K) → pass_of x ≡ Some p → length p.seen ≤ length (fold left zero (x ∷ xs)).seen
  own_seen zero x xs p is =
      let first : length (left zero x).seen ≡ length (longer zero.seen p.seen) = ap (λ (o : Option (Seen K)). length (joined o zero).seen) is in
      omega (arith, first, longer_second zero.seen p.seen, seen_left (left zero x) xs)

  module _ (t : Tellers D P) (f : Floored K) where
    joined_one : (zero : Seen K) (x : Seat K D P C) → Sits t f x → length (left zero x).joined ≡ length zero.joined + (if takes_pass x then 1 else 0)
    joined_one zero (Worker w) h = ap (λ (o : Option (Seen K)). length (joined o zero).joined) h.its ∙ length-append zero.joined _
    joined_one zero (Closer c) h = omega arith
    joined_one zero (Monitor m) h = ap (λ (o : Option (Seen K)). length (joined o zero).joined) h.0.its ∙ length-append zero.joined _

    pub joined_left : (zero : Seen K) (xs : List (Seat K D P C)) → All (Sits t f) xs → length (fold left zero xs).joined ≡ length zero.joined + count_by takes_pass xs
    joined_left zero [] h = omega arith
    joined_left zero (x ∷ xs) h = omega (arith, joined_left (left zero x) xs (All-tail (Sits t f) x xs h), joined_one zero x (All-head (Sits t f) x xs h), counted x xs)

    same_kind : (x y : Seat K D P C) → Runs t f x y → takes_pass x ≡ takes_pass y
    same_kind (Worker w) (Worker v) h = refl
    same_kind (Worker w) (Closer c) h = absurd h
    same_kind (Worker w) (Monitor m) h = absurd h
    same_kind (Closer c) (Worker w) h = absurd h
    same_kind (Closer c) (Closer d) h = refl
    same_kind (Closer c) (Monitor m) h = absurd h
    same_kind (Monitor m) (Worker w) h = absurd h
    same_kind (Monitor m) (Closer c) h = absurd h
    same_kind (Monitor m) (Monitor n) h = refl

    pub count_runs : (xs ys : List (Seat K D P C)) → AllZip (Runs t f) xs ys → count_by takes_pass xs ≡ count_by takes_pass ys
    count_runs [] [] h = refl
    count_runs [] (y ∷ ys) h = absurd h
    count_runs (x ∷ xs) [] h = absurd h
    count_runs (x ∷ xs) (y ∷ ys) h = omega (arith, counted x xs, counted y ys, count_runs xs ys h.1, ap {B = ℕ} (λ (b : Bool). if b then 1 else 0) (same_kind x y h.0))

  given_kind : (zero : Seen K) (x : Seat K D P C) → takes_pass (given zero x) ≡ takes_pass x
  given_kind zero (Worker w) = refl
  given_kind zero (Closer c) = refl
  given_kind zero (Monitor m) = refl

  pub count_seated : (zero : Seen K) (xs : List (Seat K D P C)) → count_by takes_pass (seated zero xs) ≡ count_by takes_pass xs
  count_seated zero [] = refl
  count_seated zero (x ∷ xs) = omega (arith, counted (given zero x) (seated (entered zero x) xs), counted x xs, count_seated (entered zero x) xs, ap {B = ℕ} (λ (b : Bool). if b then 1 else 0) (given_kind zero x))
