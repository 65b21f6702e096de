-- Counts of faults.
use Rattle.std.specs.Prelude.{◌≡◌, ℕ, ◌+◌, ◌-◌, ◌^◌, ◌≤◌, ◌<◌, min, Bool, true, false, Result, Ok, Err, OnOk, OnErr, IsErrOf}
use Rattle.wm_traits.specs.declared.fault.Failed.{Failed}
use Rattle.wm_traits.specs.declared.fault.KeepFault.{KeepFault}
use Rattle.wm_traits.specs.declared.fault.KeepFault.TheVariants.{Failed as keep_failed, NoMemory as keep_no_memory}
use Rattle.wm_traits.specs.declared.fault.StartFault.{StartFault}
use Rattle.wm_traits.specs.declared.fault.StartFault.TheVariants.{Failed as start_failed, NoMemory}

-- a count with one more, which stays at the greatest u64
abbrev pub raised : ℕ → ℕ
raised count = min (count + 1) (2 ^ 64 - 1)

-- the count hasn't fallen: a call that answers `Failed` has raised it, and any other has left it
pub record HasCause {T : Type 0} (before now : ℕ) (result : Result T Failed) : Type 0 where
  pub later : before ≤ now
  pub failed : OnErr result (raised before ≤ now)
  pub left : OnOk result (now ≡ before)

-- the same of a start, which raises no count for want of memory
pub record HasStartCause {T : Type 0} (before now : ℕ) (result : Result T StartFault) : Type 0 where
  pub later : before ≤ now
  pub failed : IsErrOf result start_failed → raised before ≤ now
  pub no_memory : IsErrOf result NoMemory → now ≡ before

-- whether a start failed, and not for want of memory
abbrev pub start_missed : {T : Type 0} → Result T StartFault → Bool
start_missed (Err start_failed) = true
start_missed (Err NoMemory) = false
start_missed (Ok started) = false

-- the same of a call of a keeper or a store, which may raise the count for want of memory
pub record HasKeepCause {T : Type 0} (before now : ℕ) (result : Result T KeepFault) : Type 0 where
  pub later : before ≤ now
  pub failed : IsErrOf result keep_failed → raised before ≤ now
  pub left : OnOk result (now ≡ before)

-- whether a call of a keeper failed, and not for want of memory
abbrev pub keep_missed : {T : Type 0} → Result T KeepFault → Bool
keep_missed (Err keep_failed) = true
keep_missed (Err keep_no_memory) = false
keep_missed (Ok kept) = false

-- what another count has is passed on: this one is raised where that one isn't 0, and only there
pub record PassesOn (other before now : ℕ) : Type 0 where
  pub passed : 0 < other → raised before ≤ now
  pub left : other ≡ 0 → now ≡ before
  pub later : before ≤ now
