use Rattle.wm_web.proofs.Connections.{no_session}
use Rattle.wm_web.proofs.session.web_session.Goals as goal

pub returns-in_default-clause-session : goal.returns-in_default-clause-session
returns-in_default-clause-session g c = no_session c.args.floor.now.opening (g.I.Source.left c.args.source.now) c.args.pass.now (g.O.Sink.written c.args.sink.now)

pub returns-in_default-new_piece-clause-session : goal.returns-in_default-new_piece-clause-session
returns-in_default-new_piece-clause-session g c = no_session c.args.floor.now.opening (g.I.Source.left c.args.source.now) c.args.pass.now (g.O.Sink.written c.args.sink.now)
