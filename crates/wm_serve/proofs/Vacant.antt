-- A seat on which nothing has run has no pass, and one more of them leaves all so.
use Rattle.std.proofs.Common.{◌≡◌, ◌++◌, ◌∷◌, [], List, All, None, OnErr, OnOk, Result, Ok, Err, refl, sym, subst}
use Rattle.std.proofs.lemmas.List.Elements.{All-push}
use Rattle.wm_serve.specs.Seats.{IsFresh, Tellers, pass_of}
use Rattle.wm_serve.specs.declared.seat.Seat.{Seat}
use Rattle.wm_serve.specs.declared.seat.Seat.TheVariants.{Worker, Closer, Monitor}

module _ {K D P C : Type 0} (t : Tellers D P) where
  -- such a seat has no pass
  pub vacant : (s : Seat K D P C) → IsFresh t s → pass_of s ≡ None
  vacant (Worker w) h = h.0
  vacant (Closer c) h = refl
  vacant (Monitor m) h = h.0

  -- one more of them, where there was room for it
  pub pushed : {E : Type 0} (r : Result (Unit {0}) E) (old new : List (Seat K D P C)) (s : Seat K D P C) → OnOk r (new ≡ old ++ s ∷ []) → OnErr r (new ≡ old) → All (IsFresh t) old → IsFresh t s → All (IsFresh t) new
  pushed (Ok u) old new s ok err h k = subst (All (IsFresh t)) (sym ok) (All-push (IsFresh t) old s h k)
  pushed (Err e) old new s ok err h k = subst (All (IsFresh t)) (sym err) h
