-- Counts of faults.
use Rattle.std.specs.Prelude.{ℕ}
use Rattle.wm_sqlkeep.specs.declared.keeper.SqlKeeper.{SqlKeeper}
use Rattle.wm_sqlkeep.specs.declared.store.SqlStore.{SqlStore}

-- the calls that failed
abbrev pub keeper_faults : {S : Type 0} → SqlKeeper S → ℕ
keeper_faults k = k.faults

-- the openings that failed, and the keepers that came back having failed
abbrev pub store_faults : SqlStore → ℕ
store_faults s = s.faults
