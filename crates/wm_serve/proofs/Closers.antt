-- The closer's seat stays where it is.
use Rattle.std.proofs.Common.{◌≡◌, ◌⊎◌, ◌+◌, ◌<◌, ℕ, zero, suc, true, List, [], ◌∷◌, All, drop, get_or, length, set, take, Option, Some, refl, sym, subst, ap, inl, inr, arith}
use Rattle.std.specs.Prelude.{◌==◌, option_map, slice_get}
use Rattle.std.specs.List.{AllZip, list_all}
use Rattle.std.proofs.lemmas.Bool.{and_parts, eqb-true, false≢true}
use Rattle.std.proofs.lemmas.Option.{same_Some}
use Rattle.std.proofs.lemmas.List.Elements.{All-cons, All-head, All-tail}
use Rattle.wm_floor.specs.Floor.{Floored, Seen}
use Rattle.wm_serve.specs.Ending.{IsCloserAt, IsSeatHalt}
use Rattle.wm_serve.specs.Seating.{entered, given, seated}
use Rattle.wm_serve.specs.Seats.{Runs, Sits, Tellers}
use Rattle.wm_serve.specs.Server.{are_fit, is_closer, is_worker}
use Rattle.wm_serve.specs.declared.halt.Halt.{Halt}
use Rattle.wm_serve.specs.declared.seat.MonitorSeat.{MonitorSeat}
use Rattle.wm_serve.specs.declared.seat.Seat.{Seat}
use Rattle.wm_serve.specs.declared.seat.Seat.TheVariants.{Worker, Closer, Monitor}
use Rattle.wm_serve.specs.declared.seat.WorkerSeat.{WorkerSeat}
use Rattle.wm_serve.proofs.Running.{runs_none}

module _ {K D P C : Type 0} where
  nothing_there : (c : C) (at : ℕ) → slice_get {X = Seat K D P C} [] at ≡ Some (Closer c) → ⊥
  nothing_there c at is = absurd (cc)

  pub closer_seated : (p : Seen K) (at : ℕ) (xs : List (Seat K D P C)) → IsCloserAt at xs → IsCloserAt at (seated p xs)
  closer_seated p at [] h = absurd (nothing_there h.0 at h.1)
  closer_seated p zero (x ∷ xs) h = (h.0, ap (λ (o : Option (Seat K D P C)). option_map (given p) o) h.1)
  closer_seated p (suc n) (x ∷ xs) h = closer_seated (entered p x) n xs h

  -- its clock was read
  pub closer_read : (at : ℕ) (c : C) (xs : List (Seat K D P C)) → IsCloserAt at xs → IsCloserAt at (set xs at (Closer c))
  closer_read at c [] h = absurd (nothing_there h.0 at h.1)
  closer_read zero c (x ∷ xs) h = (c, refl)
  closer_read (suc n) c (x ∷ xs) h = closer_read n c xs h

  module _ (t : Tellers D P) (f : Floored K) where
    pub closer_runs : (at : ℕ) (xs ys : List (Seat K D P C)) → AllZip (Runs t f) xs ys → IsCloserAt at xs → IsCloserAt at ys
    closer_runs at [] ys h k = absurd (nothing_there k.0 at k.1)
    closer_runs at (x ∷ xs) [] h k = absurd h
    closer_runs (suc n) (x ∷ xs) (y ∷ ys) h k = closer_runs n xs ys h.1 k
    closer_runs zero (Worker w ∷ xs) (y ∷ ys) h k = absurd (cc)
    closer_runs zero (Monitor m ∷ xs) (y ∷ ys) h k = absurd (cc)
    closer_runs zero (Closer c ∷ xs) (Worker w ∷ ys) h k = absurd h.0
    closer_runs zero (Closer c ∷ xs) (Closer d ∷ ys) h k = (d, refl)
    closer_runs zero (Closer c ∷ xs) (Monitor m ∷ ys) h k = absurd h.0

    pub read_sit : (at : ℕ) (c : C) (xs : List (Seat K D P C)) → IsCloserAt at xs → All (Sits t f) xs → All (Sits t f) (set xs at (Closer c))
    read_sit at c [] k h = absurd (nothing_there k.0 at k.1)
    read_sit zero c (x ∷ xs) k h = All-cons (Sits t f) (Closer c) xs tt (All-tail (Sits t f) x xs h)
    read_sit (suc n) c (x ∷ xs) k h = All-cons (Sits t f) x (set xs n (Closer c)) (All-head (Sits t f) x xs h) (read_sit n c xs k (All-tail (Sits t f) x xs h))

    pub all_none : (xs : List (Seat K D P C)) → All (Sits t f) xs → AllZip (Runs t f) xs xs
    all_none [] h = tt
    all_none (x ∷ xs) h = (runs_none t f x (All-head (Sits t f) x xs h), all_none xs (All-tail (Sits t f) x xs h))

    pub read_runs : (at : ℕ) (c : C) (xs : List (Seat K D P C)) → IsCloserAt at xs → All (Sits t f) xs → AllZip (Runs t f) xs (set xs at (Closer c))
    read_runs at c [] k h = absurd (nothing_there k.0 at k.1)
    read_runs zero c (Worker w ∷ xs) k h = absurd (cc)
    read_runs zero c (Monitor m ∷ xs) k h = absurd (cc)
    read_runs zero c (Closer d ∷ xs) k h = (tt, all_none xs (All-tail (Sits t f) (Closer d) xs h))
    read_runs (suc n) c (x ∷ xs) k h = (runs_none t f x (All-head (Sits t f) x xs h), read_runs n c xs k (All-tail (Sits t f) x xs h))

  -- a fault of a thread stands
  pub read_halt : (at : ℕ) (c : C) (xs : List (Seat K D P C)) (e : Halt) → IsCloserAt at xs → IsSeatHalt xs e → IsSeatHalt (set xs at (Closer c)) e
  read_halt at c [] e k h = absurd h
  read_halt zero c (Worker w ∷ xs) e k h = absurd (cc)
  read_halt zero c (Monitor m ∷ xs) e k h = absurd (cc)
  read_halt zero c (Closer d ∷ xs) e k h = h
  read_halt (suc n) c (x ∷ xs) e k (inl h) = inl h
  read_halt (suc n) c (x ∷ xs) e k (inr h) = inr (read_halt n c xs e k h)

-- What stands at the closer's place

module _ {K D P C : Type 0} where
  pub closer_within : (at : ℕ) (xs : List (Seat K D P C)) → IsCloserAt at xs → at < length xs
  closer_within at [] h = absurd (nothing_there h.0 at h.1)
  closer_within zero (x ∷ xs) h = omega arith
  closer_within (suc n) (x ∷ xs) h = omega (arith, closer_within n xs h)

  closer_found : (at : ℕ) (xs : List (Seat K D P C)) (d : Seat K D P C) (h : IsCloserAt at xs) → get_or xs at d ≡ Closer h.0
  closer_found at [] d h = absurd (nothing_there h.0 at h.1)
  closer_found zero (x ∷ xs) d h = same_Some x (Closer h.0) h.1
  closer_found (suc n) (x ∷ xs) d h = closer_found n xs d h

  -- neither a worker nor a monitor does
  pub closer_alone : (at : ℕ) (xs : List (Seat K D P C)) (d : Seat K D P C) → IsCloserAt at xs → ((w : WorkerSeat K D C) × (get_or xs at d ≡ Worker w)) ⊎ ((m : MonitorSeat K P C) × (get_or xs at d ≡ Monitor m)) → ⊥
  closer_alone at xs d h (inl (w, is)) = let k = closer_found at xs d h in absurd (cc)
  closer_alone at xs d h (inr (m, is)) = let k = closer_found at xs d h in absurd (cc)

-- The clock of the closer's seat was read, and nothing else was done

module _ {K D P C : Type 0} (t : Tellers D P) (f : Floored K) where
  pub record Reads (at : ℕ) (xs ys : List (Seat K D P C)) : Type 0 where
    pub closer : IsCloserAt at ys
    pub sit : All (Sits t f) ys
    pub run : AllZip (Runs t f) xs ys
    pub halt : (e : Halt) → IsSeatHalt xs e → IsSeatHalt ys e

  pub reads : (at : ℕ) (xs ys : List (Seat K D P C)) → IsCloserAt at xs → All (Sits t f) xs → (c : C) × (ys ≡ set xs at (Closer c)) → Reads at xs ys
  reads at xs ys closer sit only =
      let c = only.0 in
      subst (Reads at xs) (sym only.1) (record { closer = closer_read at c xs closer; sit = read_sit t f at c xs closer sit; run = read_runs t f at c xs closer sit; halt = λ e. read_halt at c xs e closer })

-- The seats are as the plan says

module _ {K D P C : Type 0} where
  closer_at : (n : ℕ) (xs : List (Seat K D P C)) → n < length xs → list_all is_closer (take 1 (drop n xs)) ≡ true → IsCloserAt n xs
  closer_at n [] lt is = absurd (omega arith)
  closer_at zero (Worker w ∷ xs) lt is = absurd (false≢true is)
  closer_at zero (Closer c ∷ xs) lt is = (c, refl)
  closer_at zero (Monitor m ∷ xs) lt is = absurd (false≢true is)
  closer_at (suc n) (x ∷ xs) lt is = closer_at n xs (omega arith) is

  pub fit_length : (workers monitors : ℕ) (xs : List (Seat K D P C)) → are_fit workers monitors xs ≡ true → length xs ≡ workers + 1 + monitors
  fit_length workers monitors xs fit = eqb-true (length xs) (workers + 1 + monitors) (and_parts (length xs == workers + 1 + monitors) _ fit).0

  pub fit_closer : (workers monitors : ℕ) (xs : List (Seat K D P C)) → are_fit workers monitors xs ≡ true → IsCloserAt workers xs
  fit_closer workers monitors xs fit =
      let rest = (and_parts (length xs == workers + 1 + monitors) _ fit).1 in
      let more = (and_parts (list_all is_worker (take workers xs)) _ rest).1 in
      closer_at workers xs (omega (arith, fit_length workers monitors xs fit)) (and_parts (list_all is_closer (take 1 (drop workers xs))) _ more).0
