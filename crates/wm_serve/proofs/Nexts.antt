-- What a listener answers.
use Rattle.std.proofs.Common.{◌≡◌, ◌∙◌, ℕ, Result, Ok, ap}
use Rattle.std.specs.Prelude.{if◌then◌else◌}
use Rattle.wm_listener.specs.Next.{is_dry}
use Rattle.wm_listener.specs.declared.next.Next.{Next}
use Rattle.wm_listener.specs.declared.next.Next.TheVariants.{Here}
use Rattle.wm_traits.specs.declared.fault.Failed.{Failed}
use Rattle.wm_traits.specs.Cause.{raised}

-- a connection leaves the count of Dry answers
pub here_not_dry : {I O : Type 0} (r : Result (Next I O) Failed) (next : Next I O) (input : I) (output : O) (old new : ℕ) → r ≡ Ok next → next ≡ Here input output → new ≡ (if is_dry r then raised old else old) → new ≡ old
here_not_dry r next input output old new is here count = count ∙ ap (λ (a : Result (Next _ _) Failed). if is_dry a then raised old else old) (is ∙ ap Ok here)
