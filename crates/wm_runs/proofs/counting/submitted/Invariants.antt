-- proofs/counting/submitted/Invariants.antt
use Rattle.std.proofs.Common.{◌≡◌, ◌≤◌, count_by, take}
use Rattle.wm_runs.specs.Counts.{submits}
use Rattle.wm_runs.proofs.counting.submitted.Given as goal

-- the entries so far, of which no more were counted than there are
abbrev pub invariant-loop-at : goal.invariant-loop-at
invariant-loop-at l = (l.count ≡ count_by submits (take l.at l.log)) × (l.count ≤ l.at)
