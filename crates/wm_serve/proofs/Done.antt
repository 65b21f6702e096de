-- What each seat did, from what its thread made of it and what pass 0 keeps of its pass.
use Rattle.std.proofs.Common.{◌≡◌, ◌⊎◌, ◌∙◌, ℕ, ◌+◌, ◌<◌, List, [], ◌∷◌, ◌++◌, All, append_assoc, fold, get_or, length, map, take, Option, Some, None, IfSome, refl, sym, subst, ap, inl, inr}
use mathlib.Core.Option.{some}
use lib.ListN.{get_elem?}
use Rattle.std.specs.List.{AllZip}
use Rattle.std.proofs.lemmas.List.{append-nil, take_more}
use Rattle.std.proofs.lemmas.List.Elements.{All-head, All-push, All-same, All-tail}
use Rattle.std.proofs.lemmas.Option.{same_Some}
use Rattle.atomic_table.proofs.Lists.{at_last, at_longer}
use Rattle.wm_law.specs.declared.call.Entry.{Entry}
use Rattle.wm_floor.specs.Floor.{Floored, HasLooked, IsSame, Seen}
use Rattle.wm_floor.specs.Ledger.{caller_of}
use Rattle.wm_turn.specs.Passed.{HasOwn, StartsWith, child, own, parent}
use Rattle.wm_turn.proofs.Histories.{starts_again}
use Rattle.wm_serve.specs.Seating.{joined, left, seated, with_pass}
use Rattle.wm_serve.specs.Seats.{IsFresh, Runs, Sits, Tellers, pass_of}
use Rattle.wm_serve.specs.Done.{HasTold, SeatServed, SeatsServed}
use Rattle.wm_serve.specs.declared.seat.Seat.{Seat}
use Rattle.wm_serve.specs.declared.seat.Seat.TheVariants.{Worker, Closer, Monitor}
use Rattle.wm_serve.specs.declared.worker.Stopped.{Stopped}
use Rattle.wm_serve.specs.declared.worker.Stopped.TheVariants.{Dry, Failed}

-- What passes have seen that were joined

module _ {K D P C : Type 0} where
  -- it is seen later too
  told_then : (zero later : Seen K) (seat : Seat K D P C) → StartsWith later.seen zero.seen → HasTold zero seat → HasTold later seat
  told_then zero later seat more told = by (pass_of seat) told
    where
      by : (pass : Option (Seen K)) → IfSome pass (λ p. StartsWith zero.seen p.seen) → IfSome pass (λ p. StartsWith later.seen p.seen)
      by None h = tt
      by (Some p) h = starts_again later.seen zero.seen p.seen more h

  pub all_told_then : (zero later : Seen K) (seats : List (Seat K D P C)) → StartsWith later.seen zero.seen → All (HasTold zero) seats → All (HasTold later) seats
  all_told_then zero later seats more told k d lt = told_then zero later (get_or seats k d) more (told k d lt)

  -- one more seat has given its pass back
  pub told_more : (zero later : Seen K) (xs : List (Seat K D P C)) (i : ℕ) (d : Seat K D P C) → i < length xs → StartsWith later.seen zero.seen → All (HasTold zero) (take i xs) → HasTold later (get_or xs i d) → All (HasTold later) (take (i + 1) xs)
  told_more zero later xs i d lt more told one =
      let so_far = all_told_then zero later (take i xs) more told in
      All-same (HasTold later) (take (i + 1) xs) (take i xs ++ get_or xs i d ∷ []) (take_more xs i d lt) (All-push (HasTold later) (take i xs) (get_or xs i d) so_far one)

-- What pass 0 keeps of them

module _ {K : Type 0} where
  joined_first : (z : Seen K) (pass : Option (Seen K)) → (more : List (ℕ × List Entry)) × ((joined pass z).joined ≡ z.joined ++ more)
  joined_first z None = ([], sym (append-nil z.joined))
  joined_first z (Some p) = ((p.number, p.mine) ∷ [], refl)

module _ {K D P C : Type 0} where
  joined_all : (z : Seen K) (ys : List (Seat K D P C)) → (more : List (ℕ × List Entry)) × ((fold left z ys).joined ≡ z.joined ++ more)
  joined_all z [] = ([], sym (append-nil z.joined))
  joined_all z (y ∷ ys) =
      let first = joined_first z (pass_of y) in
      let rest = joined_all (left z y) ys in
      (first.0 ++ rest.0, rest.1 ∙ (ap (λ (l : List (ℕ × List Entry)). l ++ rest.0) first.1 ∙ append_assoc z.joined first.0 rest.0))

  -- where each joined pass has the entries of its number, so has that of the next seat
  own_next : (log : List Entry) (z : Seen K) (y : Seat K D P C) (ys : List (Seat K D P C)) (to : Seen K) → pass_of y ≡ Some to → HasOwn caller_of log (fold left z (y ∷ ys)).joined → to.mine ≡ own caller_of to.number log
  own_next log z y ys to has whole =
      let x : ℕ × List Entry = (to.number, to.mine) in
      let rest = joined_all (left z y) ys in
      let here : (left z y).joined ≡ z.joined ++ x ∷ [] = ap (λ (o : Option (Seen K)). (joined o z).joined) has in
      let all : (fold left z (y ∷ ys)).joined ≡ (z.joined ++ x ∷ []) ++ rest.0 = rest.1 ∙ ap (λ (l : List (ℕ × List Entry)). l ++ rest.0) here in
      let at : get_elem? ((z.joined ++ x ∷ []) ++ rest.0) (length z.joined) ≡ some x = at_longer (z.joined ++ x ∷ []) rest.0 (length z.joined) x (at_last z.joined x (length z.joined) refl) in
      whole (length z.joined) to.number to.mine (ap (λ (l : List (ℕ × List Entry)). get_elem? l (length z.joined)) all ∙ at)

-- Each seat

-- a seat on which nothing had run wasn't stopped before
since_fresh : {P : Type 0} (old : Option Stopped) (why : Stopped) → old ≡ None → (old ≡ Some why) ⊎ P → P
since_fresh {P} old why none (inl was) = absurd (cc)
since_fresh {P} old why none (inr h) = h

module _ {K D P C : Type 0} (t : Tellers D P) (f : Floored K) (log : List Entry) where
  pub seats_served : (zero z : Seen K) (xs ys : List (Seat K D P C)) → zero.seen ≡ [] → All (IsFresh t) xs → All (Sits t f) ys → AllZip (Runs t f) (seated zero xs) ys → HasOwn caller_of log (fold left z ys).joined → All (λ seat. IfSome (pass_of seat) (λ p. StartsWith log p.seen)) ys → SeatsServed t f log (zero.made + 1) xs (map (with_pass None) ys)
  seats_served zero z [] [] unseen fresh sit run whole told = tt
  seats_served zero z [] (y ∷ ys) unseen fresh sit run whole told = absurd run
  seats_served zero z (x ∷ xs) [] unseen fresh sit run whole told = absurd run
  seats_served zero z (Worker w ∷ xs) (Worker v ∷ ys) unseen fresh sit run whole told =
      let Told : Seat K D P C → Type 0 = λ seat. IfSome (pass_of seat) (λ p. StartsWith log p.seen) in
      let free = All-head (IsFresh t) (Worker w) xs fresh in
      let r = run.0 in
      let its : child zero ≡ r.from = same_Some (child zero) r.from r.had in
      let number : r.from.number ≡ zero.made + 1 = ap (λ (p : Seen K). p.number) (sym its) in
      let one : SeatServed t f log (zero.made + 1) (Worker w) (with_pass None (Worker v)) = record {
        from = r.from;
        to = r.to;
        number = number;
        unseen = ap (λ (p : Seen K). p.seen) (sym its) ∙ unseen;
        unmade = ap (λ (p : Seen K). p.mine) (sym its);
        seen = subst (λ (o : Option (Seen K)). IfSome o (λ p. StartsWith log p.seen)) r.has (All-head Told (Worker v) ys told);
        mine = own_next log z (Worker v) ys r.to r.has whole ∙ ap (λ (n : ℕ). own caller_of n log) (r.same.number ∙ number);
        did = record {
          served = r.served;
          free = (All-head (Sits t f) (Worker v) ys sit).free;
          commands = r.commands;
          dries = r.dries;
          dry = λ e. since_fresh w.stopped Dry free.1.0 (r.dry e);
          looks = r.looks;
          failed = λ e. since_fresh w.stopped Failed free.1.0 (r.failed e);
        };
      } in
      (one, seats_served (parent zero) (left {P = P} z (Worker v)) xs ys unseen (All-tail (IsFresh t) (Worker w) xs fresh) (All-tail (Sits t f) (Worker v) ys sit) run.1 whole (All-tail Told (Worker v) ys told))
  seats_served zero z (Worker w ∷ xs) (Closer c ∷ ys) unseen fresh sit run whole told = absurd run.0
  seats_served zero z (Worker w ∷ xs) (Monitor m ∷ ys) unseen fresh sit run whole told = absurd run.0
  seats_served zero z (Closer c ∷ xs) (Worker v ∷ ys) unseen fresh sit run whole told = absurd run.0
  seats_served zero z (Closer c ∷ xs) (Closer d ∷ ys) unseen fresh sit run whole told =
      seats_served zero z xs ys unseen (All-tail (IsFresh t) (Closer c) xs fresh) (All-tail (Sits t f) (Closer d) ys sit) run.1 whole (All-tail (λ (seat : Seat K D P C). IfSome (pass_of seat) (λ p. StartsWith log p.seen)) (Closer d) ys told)
  seats_served zero z (Closer c ∷ xs) (Monitor m ∷ ys) unseen fresh sit run whole told = absurd run.0
  seats_served zero z (Monitor m ∷ xs) (Worker v ∷ ys) unseen fresh sit run whole told = absurd run.0
  seats_served zero z (Monitor m ∷ xs) (Closer c ∷ ys) unseen fresh sit run whole told = absurd run.0
  seats_served zero z (Monitor m ∷ xs) (Monitor n ∷ ys) unseen fresh sit run whole told =
      let Told : Seat K D P C → Type 0 = λ seat. IfSome (pass_of seat) (λ p. StartsWith log p.seen) in
      let r = run.0 in
      let its : child zero ≡ r.from = same_Some (child zero) r.from r.had in
      let number : r.from.number ≡ zero.made + 1 = ap (λ (p : Seen K). p.number) (sym its) in
      let one : SeatServed t f log (zero.made + 1) (Monitor m) (with_pass None (Monitor n)) = record {
        from = r.from;
        to = r.to;
        number = number;
        unseen = ap (λ (p : Seen K). p.seen) (sym its) ∙ unseen;
        unmade = ap (λ (p : Seen K). p.mine) (sym its);
        seen = subst (λ (o : Option (Seen K)). IfSome o (λ p. StartsWith log p.seen)) r.has (All-head Told (Monitor n) ys told);
        mine = own_next log z (Monitor n) ys r.to r.has whole ∙ ap (λ (k : ℕ). own caller_of k log) (r.part.part.pass.same.number ∙ number);
        did = r.part;
      } in
      (one, seats_served (parent zero) (left {D = D} z (Monitor n)) xs ys unseen (All-tail (IsFresh t) (Monitor m) xs fresh) (All-tail (Sits t f) (Monitor n) ys sit) run.1 whole (All-tail Told (Monitor n) ys told))

-- All of them, as pass 0 closes the floor

module _ {K D P C : Type 0} (t : Tellers D P) (f : Floored K) (before served given_back last : Seen K) (xs ys zs ends : List (Seat K D P C)) where
  pub ended_served : before.seen ≡ [] → before.made ≡ 0 → All (IsFresh t) xs → All (Sits t f) zs → ys ≡ seated before xs → AllZip (Runs t f) ys zs → given_back ≡ fold left served zs → All (HasTold given_back) zs → ends ≡ map (with_pass None) zs → IsSame given_back last → HasLooked given_back last → HasOwn caller_of last.seen last.joined → SeatsServed t f last.seen 1 xs ends
  ended_served unseen made fresh sit seats run leaves told vacant still looks whole =
      let kept : last.joined ≡ (fold left served zs).joined = still.joined ∙ ap (λ (p : Seen K). p.joined) leaves in
      let ran : AllZip (Runs t f) (seated before xs) zs = subst (λ (l : List (Seat K D P C)). AllZip (Runs t f) l zs) seats run in
      let all : SeatsServed t f last.seen (before.made + 1) xs (map (with_pass None) zs) = seats_served t f last.seen before served xs zs unseen fresh sit ran (subst (λ (j : List (ℕ × List Entry)). HasOwn caller_of last.seen j) kept whole) (all_told_then given_back last zs looks.seen told) in
      let from_one : SeatsServed t f last.seen 1 xs (map (with_pass None) zs) = subst (λ (n : ℕ). SeatsServed t f last.seen (n + 1) xs (map (with_pass None) zs)) made all in
      subst (λ (l : List (Seat K D P C)). SeatsServed t f last.seen 1 xs l) (sym vacant) from_one
