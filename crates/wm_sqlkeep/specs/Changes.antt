-- What a call makes of a database.
use Rattle.std.specs.Prelude.{◌≡◌, IsTrue}
use Rattle.sqlite.specs.State.{State, HasCleanDisk}

-- while the disk has returned what was written and the database is open, it is as it was, as the connection sees it and as it was committed
abbrev pub IsAsItWas : State → State → Type 0
IsAsItWas old new = HasCleanDisk new → IsTrue new.is_open → (new.now ≡ old.now) × (new.committed ≡ old.committed)
