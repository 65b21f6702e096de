-- What a call on one kind of connection comes to.
use Rattle.std.proofs.Common.{◌≡◌, refl, Result, Ok, Err, IfOk, OnOk, OnErr}
use Rattle.sqlite.specs.Held.{state}
use Rattle.sqlite.specs.Steps.{over_memory}
use Rattle.sqlite.proofs.Callers.{memory_is_clean}
use Rattle.wm_sqlkeep.specs.Changes.{IsAsItWas}

-- what holds of a value under a premise, holds under it of what an answer shows
pub if_ok : {X E C : Type 0} (P : X → Type 0) (r : Result X E) → (C → IfOk r P) → IfOk r (λ x. C → P x)
if_ok P (Ok x) f = f
if_ok P (Err e) f = tt

-- and so does what an answer that is Ok comes to
pub on_ok : {X E C : Type 0} (P : Type 0) (r : Result X E) → (C → OnOk r P) → OnOk r (C → P)
on_ok P (Ok x) f = f
on_ok P (Err e) f = tt

-- memory is always clean and open
pub in_memory : {X E : Type 0} (old new : _) (r : Result X E) → OnErr r (IsAsItWas (state over_memory old) (state over_memory new)) → OnErr r ((state over_memory new).now ≡ (state over_memory old).now)
in_memory old new (Ok x) same = tt
in_memory old new (Err e) same = (same (memory_is_clean new) refl).0
