-- Why a machine doesn't open.
use Rattle.std.specs.Prelude.{◌≡◌, ◌≤◌, ℕ, ℤ, List, Option, IfSome, ⊤}
use Rattle.wm_traits.specs.Cause.{raised}
use Rattle.wm_traits.specs.declared.fault.KeepFault.{KeepFault}
use Rattle.wm_traits.specs.declared.fault.KeepFault.TheVariants as keep
use Rattle.wm_traits.specs.declared.row.Row.{Row}
use Rattle.wm_tables.specs.Restart.{IsBad}
use Rattle.wm_restart.specs.declared.restart.RestartFault.{RestartFault}
use Rattle.wm_restart.specs.declared.restart.RestartFault.TheVariants as restart
use Rattle.wm_floor.specs.declared.open_fault.OpenFault.{OpenFault}
use Rattle.wm_floor.specs.declared.open_fault.OpenFault.TheVariants.{KeeperFault, BadRow, NoMemory}

-- what a keeper's fault is here
abbrev pub of_keep : KeepFault → OpenFault
of_keep keep.Failed = KeeperFault
of_keep keep.NoMemory = NoMemory

-- what a fault of rows is here
abbrev pub of_restart : RestartFault → OpenFault
of_restart (restart.BadRow n) = BadRow n
of_restart restart.NoMemory = NoMemory

-- a row that is named is the first of those told that isn't good
abbrev pub NamesBad : ℤ → Option (List Row) → OpenFault → Type 0
NamesBad offset told KeeperFault = ⊤
NamesBad offset told (BadRow n) = IfSome told (λ rows. IsBad offset rows n)
NamesBad offset told NoMemory = ⊤

-- the keeper's count hasn't fallen, and its fault has raised it
pub record IsCounted (before now : ℕ) (fault : OpenFault) : Type 0 where
  pub later : before ≤ now
  pub failed : fault ≡ KeeperFault → raised before ≤ now
