use Rattle.wm_web.proofs.Readings.{ReadLoop}
use Rattle.wm_web.proofs.serving.serve_next.Given as goal

abbrev pub invariant-reads : goal.invariant-reads
invariant-reads g l =
    let i = g.I.Source in
    ReadLoop (i.left l.fn.source) (i.left l.source) l.fn.unread l.unread l.counter (i.faults l.fn.source) (i.faults l.source) l.fn.pass l.pass
