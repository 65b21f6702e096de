-- Forms in memory of which no call fails.
use Rattle.std.specs.Prelude.{◌≡◌, []}
use Rattle.wm_outside.specs.declared.memory.calls.Calls.{Calls}

-- no call fails
abbrev pub NeverFails : Calls → Type 0
NeverFails calls = calls.failing.items ≡ []
