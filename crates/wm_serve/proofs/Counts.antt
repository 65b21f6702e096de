-- Counts that haven't fallen.
use Rattle.std.proofs.Common.{◌≡◌, ℕ, ◌≤◌, refl, arith}
use Rattle.wm_traits.specs.Cause.{raised}
use Rattle.wm_serve.specs.Seats.{IsLater}
use Rattle.wm_serve.specs.declared.worker.Stopped.{Stopped}
use Rattle.wm_serve.specs.declared.worker.Stopped.TheVariants.{Dry, Closed, Failed, NoMemory}

-- where one reason raises the count and any other leaves it
pub dry_later : (why : Stopped) (old new : ℕ) → (why ≡ Dry → new ≡ raised old) → ((why ≡ Dry → ⊥) → new ≡ old) → IsLater old new
dry_later Dry old new h k = let r = h refl in omega arith
dry_later Closed old new h k = let r = k (λ is. absurd (cc)) in omega arith
dry_later Failed old new h k = let r = k (λ is. absurd (cc)) in omega arith
dry_later NoMemory old new h k = let r = k (λ is. absurd (cc)) in omega arith

pub failed_later : (why : Stopped) (old new : ℕ) → (why ≡ Failed → raised old ≤ new) → ((why ≡ Failed → ⊥) → new ≡ old) → IsLater old new
failed_later Failed old new h k = let r = h refl in omega arith
failed_later Closed old new h k = let r = k (λ is. absurd (cc)) in omega arith
failed_later Dry old new h k = let r = k (λ is. absurd (cc)) in omega arith
failed_later NoMemory old new h k = let r = k (λ is. absurd (cc)) in omega arith
