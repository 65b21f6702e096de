use Rattle.std.proofs.Common.{◌≡◌, take}
use Rattle.wm_outside.specs.ChangeLog.{read}
use Rattle.wm_outside.specs.Log.{tables_after}
use Rattle.wm_outside.specs.Replay.{IsAt}
use Rattle.wm_outside.proofs.memory.replay.make_all.Given as goal

abbrev pub invariant-loop-byte : goal.invariant-loop-byte
invariant-loop-byte l = record {
  at : IsAt l.replay (read (take l.byte-index l.bytes));
  rows : l.rows.items ≡ tables_after l.initial.rows.items (read (take l.byte-index l.bytes)).calls;
}
