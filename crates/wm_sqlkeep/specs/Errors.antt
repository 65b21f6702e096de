-- What SQLite's errors are for a keeper.
use Rattle.sqlite.specs.declared.error.Error.{Error}
use Rattle.sqlite.specs.declared.error.Error.TheVariants.{SqliteFailure}
use Rattle.sqlite.specs.declared.error.ErrorCode.TheVariants.{OutOfMemory}
use Rattle.wm_traits.specs.declared.fault.KeepFault.{KeepFault}
use Rattle.wm_traits.specs.declared.fault.KeepFault.TheVariants.{Failed, NoMemory}

-- want of memory, or else a fault
abbrev pub keep_fault : Error → KeepFault
keep_fault (SqliteFailure OutOfMemory) = NoMemory
keep_fault _ = Failed
