use Rattle.std.proofs.Common.{sym, ◌∙◌}
use mathlib.Core.Bool.{true≢false}
use Rattle.wm_law.proofs.Due.{opening_has_none_due}
use Rattle.wm_law.proofs.Sound.{opening_is_sound}
use Rattle.wm_core.proofs.sound.Core.opening.Goals as goal

pub invariant_of-result : goal.invariant_of-result
invariant_of-result c = record {
  state = rw c.in_ok-machine.ensures.state (record { sound = opening_is_sound c.args.setup.now.offset; none_due = opening_has_none_due c.args.setup.now.offset });
  before = λ undoable. absurd (true≢false (sym undoable ∙ c.in_ok-machine.ensures.undoable));
}
