use Rattle.std.proofs.Common.{◌≡◌, ◌≤◌, ◌+◌, ◌-◌, None, take}
use Rattle.wm_pick.specs.Heads.{first_given, head_at, priorities}
use Rattle.wm_pick.proofs.parts.Parts.entry_head.Given as goal

-- the priorities so far have no head that is allowed
abbrev pub invariant-loop-pty : goal.invariant-loop-pty
invariant-loop-pty g l = record {
  least : 1 ≤ l.pty;
  most : l.pty ≤ 10;
  none : first_given (head_at l.self l.sbs l.entry) (take (l.pty - 1) priorities) ≡ None;
  looks : l.steps ≤ l.fn.steps + (l.pty - 1);
}

abbrev pub decreases-loop-pty : goal.decreases-loop-pty
decreases-loop-pty g l = 10 - l.pty
