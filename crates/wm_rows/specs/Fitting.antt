-- Which stored things keep their forms and ranges.
use Rattle.std.specs.Prelude.{ℕ, ◌<◌, ◌^◌, List, Option, Some, None, codes, if◌then◌else◌}
use Rattle.wm_law.specs.Fit.{IsCommand, IsQName}
use Rattle.wm_law.specs.declared.command.Command.{Command}
use Rattle.wm_command.specs.Printed.{IsFit}
use Rattle.wm_command.specs.Words.{same}
use Rattle.wm_rows.specs.declared.stored.Counter.{Counter}
use Rattle.wm_rows.specs.declared.stored.Counter.TheVariants as counter
use Rattle.wm_rows.specs.declared.stored.Stored.{Stored}
use Rattle.wm_rows.specs.declared.stored.Stored.TheVariants as stored

-- a command keeps those of the command table and of the machine
abbrev pub IsFitCommand : Command → Type 0
IsFitCommand c = IsFit c × IsCommand c

-- a counter is what a u64 can be
abbrev pub IsFitting : Stored → Type 0
IsFitting (stored.Made c) = IsFitCommand c
IsFitting (stored.Held jobq) = IsQName jobq
IsFitting (stored.Counter c n) = n < 2 ^ 64

-- the counter with a key
abbrev pub counter_named : List ℕ → Option Counter
counter_named key =
    if same key (codes "NUMBER") then Some counter.Number
    else if same key (codes "PLACE") then Some counter.Place
    else if same key (codes "SCHEMA") then Some counter.Schema
    else if same key (codes "SERIAL") then Some counter.Serial
    else None
