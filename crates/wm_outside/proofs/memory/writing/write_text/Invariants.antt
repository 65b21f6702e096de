use Rattle.std.proofs.Common.{◌≡◌, ◌+◌, ◌++◌, length}
use Rattle.wm_base.specs.Text.{IsText}
use Rattle.wm_outside.specs.ChangeLog.{read}
use Rattle.wm_outside.specs.Writing.{with_text, StartsWith}
use Rattle.wm_outside.proofs.memory.writing.write_text.Given as goal

abbrev pub invariant-loop-left : goal.invariant-loop-left
invariant-loop-left l = record {
  so_far : read l.bytes.items ≡ with_text (read l.initial.bytes.items) (read l.bytes.items).text l.ahead;
  text : (read l.bytes.items).text ++ l.left ≡ (read l.initial.bytes.items).text ++ l.text;
  is_text : IsText l.left;
  begins : StartsWith l.bytes.items l.initial.bytes.items;
}

abbrev pub decreases-loop-left : goal.decreases-loop-left
decreases-loop-left l = length l.left + length l.ahead
