-- proofs/columns/push_blanks/Invariants.antt
use Rattle.std.proofs.Common.{◌≡◌, ◌++◌}
use Rattle.wm_listing.specs.Columns.{blanks}
use Rattle.wm_listing.proofs.columns.push_blanks.Given as goal

-- the blanks so far
abbrev pub invariant-loop : goal.invariant-loop
invariant-loop l = l.out.items ≡ l.fn.out.items ++ blanks l.counter
