use Rattle.std.proofs.Common.{◌∙◌}
use Rattle.wm_run.proofs.Writes.{write_more, write_within}
use Rattle.wm_run.proofs.write.write_all.Goals as goal

pub writes-preserved : goal.writes-preserved
writes-preserved g c =
    let o = g.O.Sink in
    let bytes = c.args.bytes.now in
    record {
      within = write_within bytes c.writes.at c.in_ok-at.field-0 c.writes.invariant.within c.in_ok-at.ensures.within;
      written = write_more bytes c.writes.at c.in_ok-at.field-0 (o.written c.args.out.now) (o.written c.writes.out) (o.written c.write.new.self) c.writes.invariant.written c.in_ok-at.ensures.written;
      faults = c.in_ok-at.ensures.cause.left ∙ c.writes.invariant.faults;
    }
