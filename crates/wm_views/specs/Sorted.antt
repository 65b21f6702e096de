-- Lists in an order, whatever order they came in.
use Rattle.std.specs.Prelude.{ℕ, Bool, not, List, [], count_by, fold, insert}

-- where an element goes: behind all that it doesn't go before
abbrev pub place_in : {E : Type 0} → (E → E → Bool) → List E → E → ℕ
place_in before xs x = count_by (λ y. not (before x y)) xs

abbrev pub put_in : {E : Type 0} → (E → E → Bool) → List E → E → List E
put_in before xs x = insert xs (place_in before xs x) x

-- the elements in their order, equal ones as they came
abbrev pub sorted : {E : Type 0} → (E → E → Bool) → List E → List E
sorted before xs = fold (put_in before) [] xs
