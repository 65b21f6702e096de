-- Seats that take passes and give them back.
use Rattle.std.proofs.Common.{◌≡◌, ◌∙◌, ℕ, ◌+◌, ◌≤◌, ◌<◌, List, [], ◌∷◌, ◌++◌, All, count_by, drop, fold, get_or, length, map, set, take, Option, None, IfSome, refl, sym, subst, ap, arith, suc, append_assoc}
use Rattle.std.specs.Prelude.{if◌then◌else◌}
use Rattle.std.proofs.lemmas.List.{append-nil, drop_all, drop_more, get_or_at, length-take-le, set_at, take_more}
use Rattle.std.proofs.lemmas.List.Elements.{All-cons, All-head, All-map, All-nil, All-push, All-same, All-tail}
use Rattle.std.proofs.lemmas.List.Sums.{count_by-le-length, fold_more, sum_by-cons}
use Rattle.wm_floor.specs.Floor.{Floored, IsPassOf, Seen}
use Rattle.wm_turn.specs.Passed.{child, parent}
use Rattle.wm_serve.specs.Seating.{HasPassOf, entered, given, seated, with_pass}
use Rattle.wm_serve.specs.Seats.{IsFresh, Sits, Tellers, pass_of, takes_pass}
use Rattle.wm_serve.specs.declared.seat.Seat.{Seat}
use Rattle.wm_serve.specs.declared.seat.Seat.TheVariants.{Worker, Closer, Monitor}

-- one more of a list that is changed from the front: the changed ones, this one, and the rest
pub changed_more : {X : Type 0} (done xs ys : List X) (i : ℕ) (x y : X) → i < length xs → length done ≡ i → ys ≡ done ++ drop i xs → set ys i y ≡ (done ++ y ∷ []) ++ drop (i + 1) xs
changed_more {X} done xs ys i x y lt len is =
    let front : ys ≡ done ++ get_or xs i x ∷ drop (i + 1) xs = is ∙ ap (λ (l : List X). done ++ l) (drop_more xs i x lt) in
    let written : set (done ++ get_or xs i x ∷ drop (i + 1) xs) i y ≡ done ++ y ∷ drop (i + 1) xs = set_at done (get_or xs i x) (drop (i + 1) xs) y i len in
    let parts : (done ++ y ∷ []) ++ drop (i + 1) xs ≡ done ++ y ∷ drop (i + 1) xs = append_assoc done (y ∷ []) (drop (i + 1) xs) in
    cc

-- the next one of such a list is as it was
pub unchanged_here : {X : Type 0} (done xs ys : List X) (i : ℕ) (x : X) → i < length xs → length done ≡ i → ys ≡ done ++ drop i xs → get_or ys i x ≡ get_or xs i x
unchanged_here {X} done xs ys i x lt len is = ap (λ (l : List X). get_or l i x) (is ∙ ap (λ (l : List X). done ++ l) (drop_more xs i x lt)) ∙ get_or_at done (get_or xs i x) (drop (i + 1) xs) x i len

-- none is left
pub changed_all : {X : Type 0} (done xs ys : List X) (i : ℕ) → length xs ≤ i → ys ≡ done ++ drop i xs → ys ≡ done
changed_all {X} done xs ys i past is = is ∙ ap (λ (l : List X). done ++ l) (drop_all i xs past) ∙ append-nil done

one_more : (a n m : ℕ) → m ≡ 1 + n → a + 1 + n ≡ a + m
one_more a n m is = omega arith

no_more : (a n m : ℕ) → m ≡ 0 + n → a + n ≡ a + m
no_more a n m is = omega arith

module _ {K D P C : Type 0} where
  pub seated-append : (zero : Seen K) (xs ys : List (Seat K D P C)) → seated zero (xs ++ ys) ≡ seated zero xs ++ seated (fold entered zero xs) ys
  seated-append zero [] ys = refl
  seated-append zero (x ∷ xs) ys = ap (λ (l : List (Seat K D P C)). given zero x ∷ l) (seated-append (entered zero x) xs ys)

  pub length-seated : (zero : Seen K) (xs : List (Seat K D P C)) → length (seated zero xs) ≡ length xs
  length-seated zero [] = refl
  length-seated zero (x ∷ xs) = ap suc (length-seated (entered zero x) xs)

  -- the next seat is as it was
  pub next_seat : (zero : Seen K) (xs ys : List (Seat K D P C)) (i : ℕ) (d : Seat K D P C) → i < length xs → ys ≡ seated zero (take i xs) ++ drop i xs → get_or ys i d ≡ get_or xs i d
  next_seat zero xs ys i d lt is = unchanged_here (seated zero (take i xs)) xs ys i d lt (length-seated zero (take i xs) ∙ length-take-le i xs (omega arith)) is

  -- one more seat has taken a pass
  seated_push : (zero : Seen K) (xs : List (Seat K D P C)) (i : ℕ) (d : Seat K D P C) → i < length xs → seated zero (take (i + 1) xs) ≡ seated zero (take i xs) ++ given (fold entered zero (take i xs)) (get_or xs i d) ∷ []
  seated_push zero xs i d lt = ap (λ (l : List (Seat K D P C)). seated zero l) (take_more xs i d lt) ∙ seated-append zero (take i xs) (get_or xs i d ∷ [])

  given_next : (zero z : Seen K) (xs ys : List (Seat K D P C)) (i : ℕ) (d now : Seat K D P C) → i < length xs → z ≡ fold entered zero (take i xs) → ys ≡ seated zero (take i xs) ++ drop i xs → now ≡ given z (get_or ys i d) → now ≡ given (fold entered zero (take i xs)) (get_or xs i d)
  given_next zero z xs ys i d now lt has is new = new ∙ ap (λ (s : Seat K D P C). given z s) (next_seat zero xs ys i d lt is) ∙ ap (λ (p : Seen K). given p (get_or xs i d)) has

  pub seated_more : (zero z : Seen K) (xs ys : List (Seat K D P C)) (i : ℕ) (d now : Seat K D P C) → i < length xs → z ≡ fold entered zero (take i xs) → ys ≡ seated zero (take i xs) ++ drop i xs → now ≡ given z (get_or ys i d) → set ys i now ≡ seated zero (take (i + 1) xs) ++ drop (i + 1) xs
  seated_more zero z xs ys i d now lt has is new =
      let done = seated zero (take i xs) in
      let len : length done ≡ i = length-seated zero (take i xs) ∙ length-take-le i xs (omega arith) in
      let more : seated zero (take (i + 1) xs) ≡ done ++ now ∷ [] = seated_push zero xs i d lt ∙ ap (λ (s : Seat K D P C). done ++ s ∷ []) (sym (given_next zero z xs ys i d now lt has is new)) in
      changed_more done xs ys i d now lt len is ∙ ap (λ (l : List (Seat K D P C)). l ++ drop (i + 1) xs) (sym more)

  -- and has it
  pub its_more : (f : Floored K) (zero z : Seen K) (xs ys : List (Seat K D P C)) (i : ℕ) (d now : Seat K D P C) → i < length xs → z ≡ fold entered zero (take i xs) → ys ≡ seated zero (take i xs) ++ drop i xs → now ≡ given z (get_or ys i d) → All (HasPassOf f) (seated zero (take i xs)) → HasPassOf f now → All (HasPassOf f) (seated zero (take (i + 1) xs))
  its_more f zero z xs ys i d now lt has is new its own =
      let done = seated zero (take i xs) in
      let more : seated zero (take (i + 1) xs) ≡ done ++ now ∷ [] = seated_push zero xs i d lt ∙ ap (λ (s : Seat K D P C). done ++ s ∷ []) (sym (given_next zero z xs ys i d now lt has is new)) in
      All-same (HasPassOf f) (seated zero (take (i + 1) xs)) (done ++ now ∷ []) more (All-push (HasPassOf f) done now its own)

  -- pass 0 once it has
  pub entered_more : (zero z to : Seen K) (xs ys : List (Seat K D P C)) (i : ℕ) (d : Seat K D P C) → i < length xs → z ≡ fold entered zero (take i xs) → ys ≡ seated zero (take i xs) ++ drop i xs → to ≡ entered z (get_or ys i d) → to ≡ fold entered zero (take (i + 1) xs)
  entered_more zero z to xs ys i d lt has is new =
      new ∙ ap (λ (s : Seat K D P C). entered z s) (next_seat zero xs ys i d lt is) ∙ ap (λ (p : Seen K). entered p (get_or xs i d)) has ∙ sym (fold_more (λ (p : Seen K) (s : Seat K D P C). entered p s) zero xs i d lt)

  -- pass 0 keeps its number, and has made as many passes more as seats took one
  pub entered-number : (zero : Seen K) (s : Seat K D P C) → (entered zero s).number ≡ zero.number
  entered-number zero (Worker w) = refl
  entered-number zero (Closer c) = refl
  entered-number zero (Monitor m) = refl

  pub number_then : (zero : Seen K) (xs : List (Seat K D P C)) → (fold entered zero xs).number ≡ zero.number
  number_then zero [] = refl
  number_then zero (x ∷ xs) = number_then (entered zero x) xs ∙ entered-number zero x

  pub counted : (x : Seat K D P C) (xs : List (Seat K D P C)) → count_by takes_pass (x ∷ xs) ≡ (if takes_pass x then 1 else 0) + count_by takes_pass xs
  counted x xs = sum_by-cons (λ (s : Seat K D P C). if takes_pass s then 1 else 0) x xs

  pub made_then : (zero : Seen K) (xs : List (Seat K D P C)) → (fold entered zero xs).made ≡ zero.made + count_by takes_pass xs
  made_then zero [] = omega arith
  made_then zero (Worker w ∷ xs) = made_then (parent zero) xs ∙ one_more zero.made _ _ (counted (Worker w) xs)
  made_then zero (Closer c ∷ xs) = made_then zero xs ∙ no_more zero.made _ _ (counted (Closer c) xs)
  made_then zero (Monitor m ∷ xs) = made_then (parent zero) xs ∙ one_more zero.made _ _ (counted (Monitor m) xs)

  pub made_most : (zero : Seen K) (xs : List (Seat K D P C)) → (fold entered zero xs).made ≤ zero.made + length xs
  made_most zero xs = omega (arith, made_then zero xs, count_by-le-length takes_pass xs)

  pub joined_kept : (zero : Seen K) (xs : List (Seat K D P C)) → (fold entered zero xs).joined ≡ zero.joined
  joined_kept zero [] = refl
  joined_kept zero (Worker w ∷ xs) = joined_kept (parent zero) xs
  joined_kept zero (Closer c ∷ xs) = joined_kept zero xs
  joined_kept zero (Monitor m ∷ xs) = joined_kept (parent zero) xs

  pub mine_kept : (zero : Seen K) (xs : List (Seat K D P C)) → (fold entered zero xs).mine ≡ zero.mine
  mine_kept zero [] = refl
  mine_kept zero (Worker w ∷ xs) = mine_kept (parent zero) xs
  mine_kept zero (Closer c ∷ xs) = mine_kept zero xs
  mine_kept zero (Monitor m ∷ xs) = mine_kept (parent zero) xs

  pub mark_kept : (zero : Seen K) (xs : List (Seat K D P C)) → (fold entered zero xs).mark ≡ zero.mark
  mark_kept zero [] = refl
  mark_kept zero (Worker w ∷ xs) = mark_kept (parent zero) xs
  mark_kept zero (Closer c ∷ xs) = mark_kept zero xs
  mark_kept zero (Monitor m ∷ xs) = mark_kept (parent zero) xs

-- Fresh seats have no pass

module _ {K D P C : Type 0} (t : Tellers D P) where
  vacant_one : (s : Seat K D P C) → IsFresh t s → pass_of s ≡ None
  vacant_one (Worker w) h = h.0
  vacant_one (Closer c) h = refl
  vacant_one (Monitor m) h = h.0

  pub vacant_all : (xs : List (Seat K D P C)) → All (IsFresh t) xs → All (λ s. pass_of s ≡ None) xs
  vacant_all xs h k d lt = vacant_one (get_or xs k d) (h k d lt)

-- Seats that have taken their passes have what their threads need

module _ {K D P C : Type 0} (t : Tellers D P) (f : Floored K) where
  sits_given : (zero : Seen K) (s : Seat K D P C) → IsFresh t s → HasPassOf f (given zero s) → Sits t f (given zero s)
  sits_given zero (Worker w) h own = record { pass = child zero; its = refl; own = own; free = h.1.1 }
  sits_given zero (Closer c) h own = tt
  sits_given zero (Monitor m) h own = (record { pass = child zero; its = refl; own = own }, λ none. h.1.1.no_report)

  pub sit_seated : (zero : Seen K) (xs : List (Seat K D P C)) → All (IsFresh t) xs → All (HasPassOf f) (seated zero xs) → All (Sits t f) (seated zero xs)
  sit_seated zero [] h own = All-nil (Sits t f)
  sit_seated zero (x ∷ xs) h own =
      let rest = seated (entered zero x) xs in
      All-cons (Sits t f) (given zero x) rest (sits_given zero x (All-head (IsFresh t) x xs h) (All-head (HasPassOf f) (given zero x) rest own)) (sit_seated (entered zero x) xs (All-tail (IsFresh t) x xs h) (All-tail (HasPassOf f) (given zero x) rest own))

  has_pass : (s : Seat K D P C) → Sits t f s → HasPassOf f s
  has_pass (Worker w) h = subst (λ (p : Option (Seen K)). IfSome p (IsPassOf f)) (sym h.its) h.own
  has_pass (Closer c) h = tt
  has_pass (Monitor m) h = subst (λ (p : Option (Seen K)). IfSome p (IsPassOf f)) (sym h.0.its) h.0.own

  pub have_passes : (xs : List (Seat K D P C)) → All (Sits t f) xs → All (HasPassOf f) xs
  have_passes xs h k d lt = has_pass (get_or xs k d) (h k d lt)

module _ {K D P C : Type 0} where
  emptied : (s : Seat K D P C) → pass_of (with_pass None s) ≡ None
  emptied (Worker w) = refl
  emptied (Closer c) = refl
  emptied (Monitor m) = refl

  pub all_emptied : (xs : List (Seat K D P C)) → All (λ s. pass_of s ≡ None) (map (with_pass None) xs)
  all_emptied xs = All-map (λ s. pass_of s ≡ None) (with_pass None) xs (λ k d lt. emptied (get_or xs k d))
