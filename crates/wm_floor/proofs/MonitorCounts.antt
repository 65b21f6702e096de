-- Laws of what is counted.
use Rattle.std.proofs.Common.{◌≡◌, ℕ, ◌+◌, ◌≤◌, true, List, [], ◌∷◌, ◌++◌, ap, refl, cond, arith}
use Rattle.std.specs.List.{count_by}
use Rattle.std.proofs.lemmas.List.Sums.{sum_by-append}
use Rattle.wm_law.specs.declared.call.Call.{Call}
use Rattle.wm_law.specs.declared.call.Call.TheVariants as call
use Rattle.wm_law.specs.declared.call.Entry.{Entry}
use Rattle.wm_law.specs.History.{is_hand}
use Rattle.wm_floor.specs.Monitor.{RisesBy, hands_of, is_spawner_fault}

pub hands-append : (xs ys : List Entry) → hands_of (xs ++ ys) ≡ hands_of xs + hands_of ys
hands-append xs ys = sum_by-append (λ (e : Entry). cond (is_hand e.call) 1 0) xs ys

pub hands_first : (e : Entry) (more : List Entry) → e.call ≡ call.Hand → 1 ≤ hands_of (e ∷ more)
hands_first e more is =
    let t : is_hand e.call ≡ true = ap is_hand is in
    let one : hands_of (e ∷ []) ≡ 1 = rw t refl in
    let both : hands_of (e ∷ more) ≡ hands_of (e ∷ []) + hands_of more = hands-append (e ∷ []) more in
    omega arith

pub count-append : (xs ys : List Call) → count_by is_spawner_fault (xs ++ ys) ≡ count_by is_spawner_fault xs + count_by is_spawner_fault ys
count-append xs ys = sum_by-append (λ x. cond (is_spawner_fault x) 1 0) xs ys

-- a count that has risen twice has risen by both
pub RisesBy-then : (a b c m n k : ℕ) → k ≡ m + n → RisesBy a m b → RisesBy b n c → RisesBy a k c
RisesBy-then a b c m n k e h i = omega arith
