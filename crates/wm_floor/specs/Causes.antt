-- Why a call isn't made, and how a keeper's faults are counted.
use Rattle.std.specs.Prelude.{◌≡◌, ◌≤◌, ◌<◌, ℕ, Result, Err}
use Rattle.wm_traits.specs.Cause.{raised}
use Rattle.wm_turn.specs.Passed.{greatest}
use Rattle.wm_floor.specs.declared.call_fault.CallFault.{CallFault}
use Rattle.wm_floor.specs.declared.call_fault.CallFault.TheVariants.{KeeperFault, LogFull}

-- the keeper's fault is answered only where its count has risen
abbrev pub IsMissCounted : {T : Type 0} → ℕ → ℕ → Result T CallFault → Type 0
IsMissCounted before now result = result ≡ Err KeeperFault → raised before ≤ now

-- the failed calls are one more where the keeper's fault is answered, and else as many as before
pub record HasMissed {T : Type 0} (before now : ℕ) (result : Result T CallFault) : Type 0 where
  pub later : before ≤ now
  pub failed : result ≡ Err KeeperFault → now ≡ raised before
  pub left : (result ≡ Err KeeperFault → ⊥) → now ≡ before

-- no full log is answered
abbrev pub NeverFull : {T : Type 0} → Result T CallFault → Type 0
NeverFull result = (n : ℕ) → result ≡ Err (LogFull n) → ⊥

-- the mark of a pass hasn't fallen: it has risen where the keeper's fault is answered, and else it is as it was, until it is the greatest
pub record HasMarkCause {T : Type 0} (before now : ℕ) (result : Result T CallFault) : Type 0 where
  pub later : before ≤ now
  pub failed : result ≡ Err KeeperFault → raised before ≤ now
  pub left : (result ≡ Err KeeperFault → ⊥) → now < greatest → now ≡ before
