-- Counts of faults.
use Rattle.std.proofs.Common.{Result, Ok, Err, is_err, arith}
use Rattle.wm_traits.specs.declared.fault.Failed.{Failed}
use Rattle.wm_outside.specs.declared.memory.calls.Calls.{Calls}
use Rattle.wm_traits.specs.Cause.{HasCause}
use Rattle.wm_outside.specs.Calls.{CountsCall}

-- a call of a form in memory
pub counted_cause : {T : Type 0} (old new : Calls) (r : Result T Failed) → CountsCall old new (is_err r) → HasCause old.failed new.failed r
counted_cause old new (Ok x) h = record { later = h.later; failed = tt; left = h.faults }
counted_cause old new (Err e) h = record { later = h.later; failed = omega (arith, h.faults); left = tt }
