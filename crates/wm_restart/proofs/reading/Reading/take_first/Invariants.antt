use Rattle.std.proofs.Common.{◌≤◌, take}
use Rattle.wm_tables.specs.Restart.{IsRead}
use Rattle.wm_restart.proofs.reading.Reading.take_first.Given as goal

-- the rows so far make the state of the one at the beginning
abbrev pub invariant-loop-n : goal.invariant-loop-n
invariant-loop-n l = record {
  within : l.n ≤ l.most;
  read : IsRead l.fn.self (take l.n l.rows) l.self;
}
