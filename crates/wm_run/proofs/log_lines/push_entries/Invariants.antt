use Rattle.std.proofs.Common.{◌≡◌, ◌++◌, take}
use Rattle.wm_listing.specs.Log.{entry_lines}
use Rattle.wm_run.proofs.log_lines.push_entries.Given as goal

-- the lines of the entries so far
abbrev pub invariant-loop-at : goal.invariant-loop-at
invariant-loop-at l = l.out.items ≡ l.fn.out.items ++ entry_lines 1 (take l.at l.log)
