-- What a listener answers.
use Rattle.std.specs.Prelude.{◌≡◌, ℕ, Bool, true, false, List, Option, Some, None, Result, Ok, Err, ⊤}
use Rattle.wm_traits.specs.declared.fault.Failed.{Failed}
use Rattle.wm_traits.specs.Told.{IsEmpty}
use Rattle.wm_listener.specs.declared.next.Next.{Next}
use Rattle.wm_listener.specs.declared.next.Next.TheVariants.{Here, Dry, Closed}

module _ {I O : Type 0} where
  -- no connection can come any more
  abbrev pub is_dry : Result (Next I O) Failed → Bool
  is_dry (Ok (Here input output)) = false
  is_dry (Ok Dry) = true
  is_dry (Ok Closed) = false
  is_dry (Err fault) = false

  -- the connection that is given is in hand, with what there is to read of it, where that is told
  abbrev pub hand_with : (I → Option (List ℕ)) → Result (Next I O) Failed → Option (Option (List ℕ))
  hand_with left (Ok (Here input output)) = Some (left input)
  hand_with left (Ok Dry) = None
  hand_with left (Ok Closed) = None
  hand_with left (Err fault) = None

  -- of the connection that is given nothing was written, and neither side has counted a fault
  abbrev pub GivesNew : (I → ℕ) → (O → ℕ) → (O → Option (List ℕ)) → Result (Next I O) Failed → Type 0
  GivesNew read_faults write_faults written (Ok (Here input output)) = (read_faults input ≡ 0) × (write_faults output ≡ 0) × IsEmpty (written output)
  GivesNew read_faults write_faults written (Ok Dry) = ⊤
  GivesNew read_faults write_faults written (Ok Closed) = ⊤
  GivesNew read_faults write_faults written (Err fault) = ⊤
