use Rattle.std.proofs.Common.{take}
use Rattle.wm_outside.specs.ChangeLog.{read}
use Rattle.wm_outside.proofs.ChangeLog.{read_next}
use Rattle.wm_outside.proofs.memory.replay.make_all.Goals as goal

pub loop-byte-preserved : goal.loop-byte-preserved
loop-byte-preserved c =
    let before = c.loop-byte.invariant in
    let at = c.loop-byte.byte-index in
    let r = read (take at c.args.bytes.now) in
    let next = read_next c.args.bytes.now at c.sign_of.result c.loop-byte-test.true c.sign_of.ensures in
    record {
      at = rw next (c.in_ok-read.ensures.at r before.at);
      rows = rw next (c.in_ok-read.ensures.rows r c.args.rows.now.items before.at before.rows);
    }
