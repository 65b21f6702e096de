use Rattle.std.proofs.Common.{◌≡◌, ◌≤◌, ◌+◌, ◌*◌, None, take}
use Rattle.wm_pick.specs.Heads.{first_given, open_head}
use Rattle.wm_pick.proofs.parts.Parts.first_head.Given as goal

-- the entries so far have no head
abbrev pub invariant-loop-entry : goal.invariant-loop-entry
invariant-loop-entry g l = record {
  none : first_given (open_head l.self l.sbs l.description) (take l.entry-index l.entry-items) ≡ None;
  looks : l.steps ≤ l.fn.steps + 9 * l.entry-index;
}
