use Rattle.std.proofs.Common.{Some, None, sym, ◌∙◌}
use Rattle.wm_web.proofs.Turns.{next_of, served_ends, served_goes_on, unserved_ends, unwritten_ends}
use Rattle.wm_web.proofs.session.serve_one.Goals as goal

pub returns-in-Err-respond-clause-serves : goal.returns-in-Err-respond-clause-serves
returns-in-Err-respond-clause-serves g c =
    let i = g.I.Source in
    let w = g.O.Sink in
    let o = c.args.floor.now.opening in
    let n = c.args.before in
    let left = i.left c.serve_next.new.source in
    let read = c.serve_next.new.unread in
    let old = c.args.pass.now in
    let new = c.serve_next.new.pass in
    let w0 = w.written c.args.sink.now in
    let w1 = w.written c.respond.new.sink in
    let end = c.in-Err-respond.end in
    next_of o (Some end) n (i.left c.args.source.now) left c.args.unread.now read read old new w0 w1 c.serve_next.ensures.reads c.serve_next.ensures.most
    (unwritten_ends o end left n read old new c.in-Ok.served c.asks_end-last.result w0 w1 c.in-Ok.ensures.served c.asks_end-last.ensures c.in-Err-respond.ensures.err)

pub returns-then-closes_after-clause-serves : goal.returns-then-closes_after-clause-serves
returns-then-closes_after-clause-serves g c =
    let i = g.I.Source in
    let w = g.O.Sink in
    let o = c.args.floor.now.opening in
    let n = c.args.before in
    let left = i.left c.serve_next.new.source in
    let read = c.serve_next.new.unread in
    let old = c.args.pass.now in
    let new = c.serve_next.new.pass in
    let w0 = w.written c.args.sink.now in
    let w1 = w.written c.respond.new.sink in
    let end = c.end_of.result in
    next_of o (Some end) n (i.left c.args.source.now) left c.args.unread.now read c.drop_front.new.self old new w0 w1 c.serve_next.ensures.reads c.serve_next.ensures.most
    (served_ends o end left n read old new c.in-Ok.served c.asks_end-last.result w0 w1 c.in-Ok.ensures.served c.asks_end-last.ensures c.in_default.ensures.ok (sym c.closes_after.ensures ∙ c.if-closes_after.true) c.end_of.ensures)

pub returns-clause-serves : goal.returns-clause-serves
returns-clause-serves g c =
    let i = g.I.Source in
    let w = g.O.Sink in
    let o = c.args.floor.now.opening in
    let n = c.args.before in
    let left = i.left c.serve_next.new.source in
    let read = c.serve_next.new.unread in
    let old = c.args.pass.now in
    let new = c.serve_next.new.pass in
    let w0 = w.written c.args.sink.now in
    let w1 = w.written c.respond.new.sink in
    next_of o None n (i.left c.args.source.now) left c.args.unread.now read c.drop_front.new.self old new w0 w1 c.serve_next.ensures.reads c.serve_next.ensures.most
    (served_goes_on o n read c.drop_front.new.self old new c.in-Ok.served c.asks_end-last.result w0 w1 c.in-Ok.ensures.served c.asks_end-last.ensures c.in_default.ensures.ok (sym c.closes_after.ensures ∙ c.if-closes_after.false) c.drop_front.ensures)

pub returns-in-Err-clause-serves : goal.returns-in-Err-clause-serves
returns-in-Err-clause-serves g c =
    let o = c.args.floor.now.opening in
    let n = c.args.before in
    let l0 = g.I.Source.left c.args.source.now in
    let left = g.I.Source.left c.serve_next.new.source in
    let read = c.serve_next.new.unread in
    let old = c.args.pass.now in
    let new = c.serve_next.new.pass in
    let w = g.O.Sink.written c.args.sink.now in
    let end = c.in-Err.end in
    next_of o (Some end) n l0 left c.args.unread.now read read old new w w c.serve_next.ensures.reads c.serve_next.ensures.most
    (unserved_ends o end left n read old new w c.in-Err.ensures.unserved)
