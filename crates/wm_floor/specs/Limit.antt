-- How many entries a history takes.
use Rattle.std.specs.Prelude.{ℕ}
use Rattle.wm_law.specs.declared.call.Call.{Call}
use Rattle.wm_law.specs.declared.call.Call.TheVariants.{Change, Hand, Started, StartFailed, Finished, UseDone, Tick}

-- a user's command is taken below the limit that was given, and a call of a monitor below 4,000,000 entries, so that what was ordered can be reported
abbrev pub limit_of : Call → ℕ → ℕ
limit_of (Change user c) limit = limit
limit_of Hand limit = 4000000
limit_of (Started serial) limit = 4000000
limit_of (StartFailed serial why) limit = 4000000
limit_of (Finished serial end) limit = 4000000
limit_of (UseDone serial) limit = 4000000
limit_of Tick limit = 4000000
