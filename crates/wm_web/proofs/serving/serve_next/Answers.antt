use Rattle.std.proofs.Common.{◌≡◌, length, sym, subst, arith}
use Rattle.wm_http.specs.declared.request.Cut.TheVariants.{Whole}
use Rattle.wm_web.specs.Cuts.{IsInside}
use Rattle.wm_web.proofs.Requests.{ended_unserved, inside_cut, inside_still, own_still, same_from, same_still, served_refused, served_whole, unserved_whole}
use Rattle.wm_web.proofs.serving.serve_next.Goals as goal

pub returns-in-Refused-clause-own : goal.returns-in-Refused-clause-own
returns-in-Refused-clause-own g c = own_still c.args.floor.now c.args.pass.now c.reads.pass c.reads.invariant.pass c.requires.own

pub returns-in-Refused-clause-same : goal.returns-in-Refused-clause-same
returns-in-Refused-clause-same g c = same_still c.args.pass.now c.reads.pass c.reads.invariant.pass

pub returns-in-Refused-clause-served : goal.returns-in-Refused-clause-served
returns-in-Refused-clause-served g c =
    served_refused c.args.floor.now.opening c.in-Refused.fault c.as_slice.result.now c.reads.unread c.cut.result c.args.pass.now c.reads.pass c.serve_refused.result c.as_slice.ensures.value (cc) c.cut.ensures c.reads.invariant.pass c.serve_refused.ensures.answer c.serve_refused.ensures.up c.serve_refused.ensures.asks c.serve_refused.ensures.len

pub serve_request-requires-clause-own : goal.serve_request-requires-clause-own
serve_request-requires-clause-own g c = own_still c.args.floor.now c.args.pass.now c.reads.pass c.reads.invariant.pass c.requires.own

pub returns-in-Whole-clause-same : goal.returns-in-Whole-clause-same
returns-in-Whole-clause-same g c = same_from c.args.pass.now c.reads.pass c.serve_request.new.pass c.reads.invariant.pass c.serve_request.ensures.same

pub returns-in-Whole-clause-served : goal.returns-in-Whole-clause-served
returns-in-Whole-clause-served g c =
    served_whole c.args.floor.now.opening (Whole c.in-Whole.request) c.as_slice.result.now c.reads.unread c.cut.result c.args.pass.now c.reads.pass c.serve_request.new.pass c.serve_request.result c.as_slice.ensures.value (cc) c.cut.ensures c.reads.invariant.pass c.serve_request.ensures.served

pub returns-in-Whole-clause-unserved : goal.returns-in-Whole-clause-unserved
returns-in-Whole-clause-unserved g c =
    unserved_whole c.args.floor.now.opening (Whole c.in-Whole.request) (g.I.Source.left c.reads.source) c.as_slice.result.now c.reads.unread c.cut.result c.args.pass.now c.reads.pass c.serve_request.new.pass c.serve_request.result c.as_slice.ensures.value (cc) c.cut.ensures c.reads.invariant.pass c.serve_request.ensures.err c.serve_request.ensures.only

pub returns-in-Ok-eq0-clause-own : goal.returns-in-Ok-eq0-clause-own
returns-in-Ok-eq0-clause-own g c = own_still c.args.floor.now c.args.pass.now c.reads.pass c.reads.invariant.pass c.requires.own

pub returns-in-Ok-eq0-clause-same : goal.returns-in-Ok-eq0-clause-same
returns-in-Ok-eq0-clause-same g c = same_still c.args.pass.now c.reads.pass c.reads.invariant.pass

pub returns-in-Ok-eq0-clause-unserved : goal.returns-in-Ok-eq0-clause-unserved
returns-in-Ok-eq0-clause-unserved g c =
    let left = g.I.Source.left in
    let same : length c.read_on.new.self ≡ length c.reads.unread = omega (arith, c.in-Ok-eq0.ensures.count) in
    let inside = inside_cut c.as_slice.result.now c.reads.unread c.cut.result c.in-ReadOn.most c.as_slice.ensures.value (cc) c.cut.ensures in
    ended_unserved c.args.floor.now.opening (left c.read_on.new.source) c.read_on.new.self c.args.pass.now c.reads.pass c.ended.result c.ended.ensures (c.read_on.ensures.end (cc))
    (inside_still (left c.reads.source) (left c.read_on.new.source) c.reads.unread c.read_on.new.self c.read_on.ensures.reads same inside) c.reads.invariant.pass

pub returns-in-Err-clause-own : goal.returns-in-Err-clause-own
returns-in-Err-clause-own g c = own_still c.args.floor.now c.args.pass.now c.reads.pass c.reads.invariant.pass c.requires.own

pub returns-in-Err-clause-same : goal.returns-in-Err-clause-same
returns-in-Err-clause-same g c = same_still c.args.pass.now c.reads.pass c.reads.invariant.pass

pub returns-in-Err-clause-unserved : goal.returns-in-Err-clause-unserved
returns-in-Err-clause-unserved g c =
    let inside = inside_cut c.as_slice.result.now c.reads.unread c.cut.result c.in-ReadOn.most c.as_slice.ensures.value (cc) c.cut.ensures in
    record { inside = subst IsInside (sym c.in-Err.ensures.err) inside; pass = c.reads.invariant.pass }

pub unreachable-requires : goal.unreachable-requires
unreachable-requires g c = omega (arith, c.reads.invariant.some)
