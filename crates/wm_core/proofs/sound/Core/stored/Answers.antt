use Rattle.std.proofs.Common.{refl, sym, ◌∙◌}
use mathlib.Core.Bool.{true≢false}
use Rattle.wm_core.specs.Stored.{kept_state}
use Rattle.wm_core.proofs.FromStore.{sound-stored, stored_none_due}
use Rattle.wm_core.proofs.sound.Core.stored.Goals as goal

pub stored-requires : goal.stored-requires
stored-requires c = sound-stored (kept_state c.args.kept) c.requires.sound c.requires.inactive

pub invariant_of-result : goal.invariant_of-result
invariant_of-result c = record {
  state = rw c.in_ok-machine.ensures.state (record { sound = c.requires.sound; none_due = stored_none_due (kept_state c.args.kept) refl c.requires.inactive });
  before = λ undoable. absurd (true≢false (sym undoable ∙ c.in_ok-machine.ensures.undoable));
}
