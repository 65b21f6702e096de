-- What a kill's answer says.
use Rattle.std.specs.Prelude.{◌≡◌, ◌⊎◌, ℤ, pos}
use Rattle.libc.specs.declared.TheConstants.{ECHILD, ESRCH}

-- a kill leaves nothing to kill: it was sent, or there is no such child any more
abbrev pub LeavesNothing : ℤ → ℤ → Type 0
LeavesNothing code errno = (code ≡ pos 0) ⊎ ((errno ≡ ECHILD) ⊎ (errno ≡ ESRCH))
