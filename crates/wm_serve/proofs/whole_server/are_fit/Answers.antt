use Rattle.std.proofs.Common.{◌≡◌, ◌∙◌, ℕ, ◌+◌, ◌<◌, Bool, true, false, List, ap, arith, drop, get_or, length, refl, sym, take}
use Rattle.std.specs.Prelude.{◌==◌, ◌&&◌}
use Rattle.std.specs.List.{list_all}
use Rattle.std.proofs.lemmas.Bool.{and_left, and_right, ne_eqb}
use Rattle.std.proofs.lemmas.List.{drop_more}
use Rattle.wm_serve.specs.Server.{are_fit, is_closer, is_worker}
use Rattle.wm_serve.specs.declared.seat.Seat.{Seat}
use Rattle.wm_serve.proofs.whole_server.are_fit.Goals as goal
use Rattle.wm_serve.proofs.whole_server.are_fit.Goals.{then-seats-workers, else-seats-workers, then-are_workers, else-are_workers}

and_true : (b : Bool) → (b && true) ≡ b
and_true true = refl
and_true false = refl

-- of one element
one_tested : {X : Type 0} (p : X → Bool) (xs : List X) (i : ℕ) (d : X) → i < length xs → list_all p (take 1 (drop i xs)) ≡ p (get_or xs i d)
one_tested {X} p xs i d lt = ap (λ (l : List X). list_all p (take 1 l)) (drop_more xs i d lt) ∙ and_true (p (get_or xs i d))

module _ {K D P C : Type 0} (n m : ℕ) (xs : List (Seat K D P C)) where
  wrong_count : (length xs ≡ n + 1 + m → ⊥) → false ≡ are_fit n m xs
  wrong_count h = sym (and_left (length xs == n + 1 + m) _ (ne_eqb (length xs) (n + 1 + m) h))

  no_workers : list_all is_worker (take n xs) ≡ false → false ≡ are_fit n m xs
  no_workers h = sym (and_right (length xs == n + 1 + m) _ (and_left (list_all is_worker (take n xs)) _ h))

  no_closer : (d : Seat K D P C) → n < length xs → is_closer (get_or xs n d) ≡ false → false ≡ are_fit n m xs
  no_closer d lt h = sym (and_right (length xs == n + 1 + m) _ (and_right (list_all is_worker (take n xs)) _ (and_left (list_all is_closer (take 1 (drop n xs))) _ (one_tested is_closer xs n d lt ∙ h))))

pub returns-else-is_closer : goal.returns-else-is_closer
returns-else-is_closer g c =
    let n = c.args.plan.now.workers in
    let m = c.args.plan.now.monitors in
    let xs = c.args.seats.now in
    let unfit : false ≡ are_fit n m xs =
    elim c.if-seats-workers.branch [
      | then-seats-workers v ↦
          elim c.if-are_workers.branch [
            | then-are_workers w ↦
                let none : is_closer (get_or xs n w.index-seats-workers.result) ≡ false = cc (ap is_closer w.index-seats-workers.is) in
                no_closer n m xs w.index-seats-workers.result (omega arith) none
            | else-are_workers w ↦ no_workers n m xs (sym v.are_workers.ensures ∙ (sym v.value-is ∙ w.if-are_workers.false))
          ]
      | else-seats-workers v ↦ wrong_count n m xs v.if-seats-workers.false
    ] in
    c.if-is_closer.false ∙ unfit
