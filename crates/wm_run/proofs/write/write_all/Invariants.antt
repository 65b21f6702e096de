use Rattle.std.proofs.Common.{◌-◌, length}
use Rattle.wm_run.proofs.Writes.{WriteLoop}
use Rattle.wm_run.proofs.write.write_all.Given as goal

abbrev pub invariant-writes : goal.invariant-writes
invariant-writes g l =
    let o = g.O.Sink in
    WriteLoop l.bytes l.at (o.written l.fn.out) (o.written l.out) (o.faults l.fn.out) (o.faults l.out)

abbrev pub decreases-writes : goal.decreases-writes
decreases-writes g l = length l.bytes - l.at
