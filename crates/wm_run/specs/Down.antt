-- Where the power went down. Of lines' entries it is a line's PWRDWNSYS: the program's own stands behind them.
use Rattle.std.specs.Prelude.{◌==◌, Bool, ◌&&◌, List}
use Rattle.std.specs.List.{list_any}
use Rattle.wm_law.specs.declared.call.Entry.{Entry}
use Rattle.wm_run.specs.Answer.{is_power_down}
use Rattle.wm_run.specs.Calls.{session_pass}

-- the entry is an accepted PWRDWNSYS of the session
abbrev pub powers_down : Entry → Bool
powers_down e = e.caller == session_pass && is_power_down e.reply

-- one of the entries is
abbrev pub is_down : List Entry → Bool
is_down es = list_any powers_down es
