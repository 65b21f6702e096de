-- proofs/replay/replayed/Invariants.antt
use Rattle.std.proofs.Common.{◌≡◌, pos, drop}
use Rattle.wm_law.specs.History.{after, IsLegal}
use Rattle.wm_law.specs.Opening.{opening}
use Rattle.wm_runs.proofs.replay.replayed.Given as goal

-- the entries that are left are legal, and reach what all entries reach
abbrev pub invariant-loop-at : goal.invariant-loop-at
invariant-loop-at l =
    IsLegal l.core.state (drop l.at l.log) × (after l.core.state (drop l.at l.log) ≡ after (opening (pos 0)) l.log)
