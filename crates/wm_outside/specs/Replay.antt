-- The program that reads a log, beside its reading.
use Rattle.std.specs.Prelude.{◌≡◌}
use Rattle.wm_outside.specs.declared.memory.replay.Replay.{Replay}
use Rattle.wm_outside.specs.ChangeLog.{Reading}

-- the program is where the reading is
abbrev pub IsAt : Replay → Reading → Type 0
IsAt p r = r ≡ record { base = p.base; ahead = p.ahead; tab = p.tab; key = p.key; text = p.text; changes = p.changes.items; calls = r.calls }
