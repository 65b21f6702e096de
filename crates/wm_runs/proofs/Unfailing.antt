-- What never fails raises no count.
use Rattle.std.proofs.Common.{◌≡◌, ℕ, true, List, [], Result, Ok, Err, IsErrOf, refl, is_err, arith}
use Rattle.std.specs.List.{Contains}
use Rattle.wm_outside.specs.Calls.{CountsCall}
use Rattle.wm_outside.specs.declared.memory.calls.Calls.{Calls}
use Rattle.wm_traits.specs.Cause.{HasCause, HasKeepCause, HasStartCause, keep_missed, start_missed}
use Rattle.wm_traits.specs.declared.fault.Failed.{Failed}
use Rattle.wm_traits.specs.declared.fault.KeepFault.{KeepFault}
use Rattle.wm_traits.specs.declared.fault.KeepFault.TheVariants as keep
use Rattle.wm_traits.specs.declared.fault.StartFault.{StartFault}
use Rattle.wm_traits.specs.declared.fault.StartFault.TheVariants as start
use Rattle.wm_runs.specs.Unfailing.{NeverFails}

none_among : (failing : List ℕ) (made : ℕ) → failing ≡ [] → Contains failing made → ⊥
none_among failing made none h = grind (arith)

-- a call doesn't fail
unfailed : (old new : Calls) → NeverFails old → CountsCall old new true → ⊥
unfailed old new never h = none_among old.failing.items new.made never (h.exactly.0 refl)

pub steady_cause : {T : Type 0} (old new : Calls) (r : Result T Failed) → NeverFails old → CountsCall old new (is_err r) → HasCause 0 0 r
steady_cause old new (Ok x) never h = record { later = omega arith; failed = tt; left = refl }
steady_cause old new (Err e) never h = absurd (unfailed old new never h)

pub started_cause : {T : Type 0} (old new : Calls) (r : Result T StartFault) → NeverFails old → CountsCall old new (start_missed r) → HasStartCause 0 0 r
started_cause old new (Ok x) never h = record { later = omega arith; failed = λ is. absurd (cc); no_memory = λ _. refl }
started_cause old new (Err start.Failed) never h = absurd (unfailed old new never h)
started_cause old new (Err start.NoMemory) never h = record { later = omega arith; failed = λ is. absurd (cc); no_memory = λ _. refl }

pub applied_cause : {T : Type 0} (old new : Calls) (r : Result T KeepFault) → NeverFails old → CountsCall old new (keep_missed r) → HasKeepCause 0 0 r
applied_cause old new (Ok x) never h = record { later = omega arith; failed = λ is. absurd (cc); left = refl }
applied_cause old new (Err keep.Failed) never h = absurd (unfailed old new never h)
applied_cause old new (Err keep.NoMemory) never h = record { later = omega arith; failed = λ is. absurd (cc); left = tt }

pub loaded_cause : {T : Type 0} (r : Result T KeepFault) → (IsErrOf r keep.Failed → ⊥) → HasKeepCause 0 0 r
loaded_cause (Ok x) never = record { later = omega arith; failed = λ is. absurd (never is); left = refl }
loaded_cause (Err e) never = record { later = omega arith; failed = λ is. absurd (never is); left = tt }
