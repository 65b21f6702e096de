-- What is known of lists and results, beside std's lemmas.
use Rattle.std.proofs.Common.{◌≤◌, ℕ, Bool, true, false, cond, List, [], ◌∷◌, length, filter, suc, Option, Some, None, Result, Ok, Err, OnErr, arith}
use Rattle.std.specs.List.{cons_option}

-- a filter leaves no more
pub length-filter_few : {X : Type 0} (p : X → Bool) (xs : List X) → length (filter p xs) ≤ length xs
length-filter_few p [] = omega arith
length-filter_few {X} p (x ∷ xs) = on (p x) (length-filter_few p xs)
  where
    on : (b : Bool) → length (filter p xs) ≤ length xs → length (cond b (x ∷ filter p xs) (filter p xs)) ≤ suc (length xs)
    on true le = omega arith
    on false le = omega arith

-- one more at most
pub length-cons_option : {X : Type 0} (o : Option X) (xs : List X) (n : ℕ) → length xs ≤ n → length (cons_option o xs) ≤ suc n
length-cons_option None xs n h = omega arith
length-cons_option (Some x) xs n h = omega arith

-- what holds, holds on an error
pub on_err : {T E P : Type 0} (r : Result T E) → P → OnErr r P
on_err (Ok x) p = tt
on_err (Err e) p = p
