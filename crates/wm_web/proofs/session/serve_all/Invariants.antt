use Rattle.wm_web.proofs.Connections.{SessionLoop}
use Rattle.wm_web.proofs.session.serve_all.Given as goal

abbrev pub invariant-requests : goal.invariant-requests
invariant-requests g l =
    let i = g.I.Source in
    let o = g.O.Sink in
    SessionLoop l.floor l.before (i.left l.fn.source) (i.left l.source) l.unread l.fn.pass l.pass (o.written l.fn.sink) (o.written l.sink)
    (i.faults l.fn.source) (i.faults l.source) (o.faults l.fn.sink) (o.faults l.sink)
