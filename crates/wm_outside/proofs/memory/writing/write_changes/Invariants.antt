use Rattle.std.proofs.Common.{◌≡◌, take}
use Rattle.wm_outside.specs.ChangeLog.{read}
use Rattle.wm_outside.specs.Writing.{with_changes, StartsWith}
use Rattle.wm_outside.proofs.memory.writing.write_changes.Given as goal

abbrev pub invariant-loop-change : goal.invariant-loop-change
invariant-loop-change l = record {
  so_far : read l.bytes.items ≡ with_changes (read l.initial.bytes.items) (take l.change-index l.changes);
  begins : StartsWith l.bytes.items l.initial.bytes.items;
}
