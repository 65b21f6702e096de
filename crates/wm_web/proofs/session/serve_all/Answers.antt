use Rattle.std.proofs.Common.{arith}
use Rattle.wm_web.proofs.Connections.{far_ends, far_more, far_none, same_none, same_then}
use Rattle.wm_web.proofs.session.serve_all.Goals as goal

pub requests-init : goal.requests-init
requests-init g c =
    let i = g.I.Source in
    let o = g.O.Sink in
    record {
      own = c.requires.own;
      same = same_none c.args.pass.now;
      far = far_none c.args.floor.now.opening (i.left c.args.source.now) c.args.unread.now c.args.pass.now (o.written c.args.sink.now) c.requires.none;
      read = omega arith;
      written = omega arith;
    }

pub returns-in-Some-clause-session : goal.returns-in-Some-clause-session
returns-in-Some-clause-session g c =
    let i = g.I.Source in
    let o = g.O.Sink in
    far_ends c.args.floor.now.opening c.in-Some.end c.requests.before (i.left c.args.source.now) (i.left c.requests.source) (i.left c.serve_one-came.new.source) c.requests.unread c.serve_one-came.new.unread c.args.pass.now c.requests.pass c.serve_one-came.new.pass (o.written c.args.sink.now) (o.written c.requests.sink) (o.written c.serve_one-came.new.sink) c.requests.invariant.far c.in-Some.ensures.serves

pub requests-preserved : goal.requests-preserved
requests-preserved g c =
    let i = g.I.Source in
    let o = g.O.Sink in
    let inv = c.requests.invariant in
    record {
      own = c.serve_one-came.ensures.own;
      same = same_then c.args.pass.now c.requests.pass c.serve_one-came.new.pass inv.same c.serve_one-came.ensures.same;
      far = far_more c.args.floor.now.opening c.requests.before (i.left c.args.source.now) (i.left c.requests.source) (i.left c.serve_one-came.new.source) c.requests.unread c.serve_one-came.new.unread c.args.pass.now c.requests.pass c.serve_one-came.new.pass (o.written c.args.sink.now) (o.written c.requests.sink) (o.written c.serve_one-came.new.sink) inv.far c.in_default.ensures.serves;
      read = let a = inv.read in let b = c.serve_one-came.ensures.read in omega arith;
      written = let a = inv.written in let b = c.serve_one-came.ensures.written in omega arith;
    }
