-- How a keeper's faults and a pass's mark are counted.
use Rattle.std.proofs.Common.{◌≡◌, ◌+◌, ◌-◌, ◌<◌, ◌≤◌, ℕ, Bool, true, false, max, Result, Ok, Err, sym, refl, subst, arith, if◌then◌else◌, ◌==◌}
use borrow.Author.Tests.{eqb-true, eqb-false}
use Rattle.wm_traits.specs.Cause.{raised}
use Rattle.wm_turn.specs.Passed.{greatest, risen}
use Rattle.wm_floor.specs.declared.call_fault.CallFault.{CallFault}
use Rattle.wm_floor.specs.declared.call_fault.CallFault.TheVariants.{KeeperFault, LogFull, NoMemory}
use Rattle.wm_floor.specs.Causes.{HasMarkCause, HasMissed, IsMissCounted}
use Rattle.wm_floor.specs.Ledger.{HasRisen}

-- as the keeper is found
pub risen_none : (found now : ℕ) → now ≡ found → HasRisen found 0 now
risen_none found now e = record { later = omega arith; by_misses = omega arith }

risen_more : (found m before now : ℕ) → HasRisen found m before → before ≤ now → raised before ≤ now → HasRisen found (raised m) now
risen_more found m before now h le r = let l = h.later in let b = h.by_misses in record { later = omega arith; by_misses = omega arith }

risen_same : (found m n before now : ℕ) → HasRisen found m before → before ≤ now → n ≡ m → HasRisen found n now
risen_same found m n before now h le e = let l = h.later in let b = h.by_misses in record { later = omega arith; by_misses = omega arith }

-- after a call
pub risen_after : {T : Type 0} (found m n before now : ℕ) (result : Result T CallFault) → HasRisen found m before → before ≤ now → IsMissCounted before now result → HasMissed m n result → HasRisen found n now
risen_after found m n before now (Ok v) h le c k = risen_same found m n before now h le (k.left (λ e. absurd (cc)))
risen_after found m n before now (Err KeeperFault) h le c k = subst (λ x. HasRisen found x now) (sym (k.failed refl)) (risen_more found m before now h le (c refl))
risen_after found m n before now (Err (LogFull x)) h le c k = risen_same found m n before now h le (k.left (λ e. absurd (cc)))
risen_after found m n before now (Err NoMemory) h le c k = risen_same found m n before now h le (k.left (λ e. absurd (cc)))

-- a value whose mark isn't 0 has a keeper whose count has risen
pub risen_some : (found m now : ℕ) → (m ≡ 0 → ⊥) → HasRisen found m now → raised found ≤ now
risen_some found m now some h = let b = h.by_misses in omega arith

by_test : (P : ℕ → Type 0) (m before after : ℕ) → (after ≡ greatest → P (max m greatest)) → ((after ≡ greatest → ⊥) → P (m + (after - before))) → P (risen m before after)
by_test P m before after f g = by (after == greatest) refl
  where
    by : (t : Bool) → (after == greatest) ≡ t → P (if t then max m greatest else m + (after - before))
    by true e = f (eqb-true after greatest e)
    by false e = g (eqb-false after greatest e)

-- a mark doesn't fall
pub grows : (m before after : ℕ) → m ≤ risen m before after
grows m before after = by_test (λ n. m ≤ n) m before after (λ e. omega arith) (λ e. omega arith)

one_more : (m before after : ℕ) → after ≡ raised before → raised m ≤ risen m before after
one_more m before after h = by_test (λ n. raised m ≤ n) m before after (λ e. omega arith) (λ e. omega arith)

none_more : (m before after : ℕ) → after ≡ before → risen m before after < greatest → risen m before after ≡ m
none_more m before after h = by_test (λ n. n < greatest → n ≡ m) m before after (λ e l. omega arith) (λ e l. omega arith)

-- the mark of a pass in whose turn a call was made
pub marked : {T : Type 0} (m before after : ℕ) (result : Result T CallFault) → HasMissed before after result → HasMarkCause m (risen m before after) result
marked m before after result k = record {
  later = grows m before after;
  failed = λ e. one_more m before after (k.failed e);
  left = λ other. none_more m before after (k.left other);
}
