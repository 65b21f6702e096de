use Rattle.std.proofs.Common.{arith}
use Rattle.wm_serve.proofs.Commands.{commands_same, commands_then, of_session}
use Rattle.wm_serve.proofs.Connected.{DeskServes-one}
use Rattle.wm_serve.proofs.worker.serve_connection.Goals as goal

pub returns-then-not-matches-clause-served : goal.returns-then-not-matches-clause-served
returns-then-not-matches-clause-served g c =
    let session = c.web_session-end.ensures in
    DeskServes-one c.args.floor.now.opening _ _ _ _ _ _ _ _ _ c.web_session-end.result c.args.pass.now c.web_session-end.new.pass c.pending-waiting.new.pass c.requires.hand c.done.ensures.had session.session c.requires.unwritten (λ e. let r = session.read_fault e in let n = c.requires.reads in omega arith) (λ e. let r = session.write_fault e in let n = c.requires.writes in omega arith) c.pending-waiting.ensures.looked

pub returns-else-not-matches-clause-served : goal.returns-else-not-matches-clause-served
returns-else-not-matches-clause-served g c =
    let session = c.web_session-end.ensures in
    DeskServes-one c.args.floor.now.opening _ _ _ _ _ _ _ _ _ c.web_session-end.result c.args.pass.now c.web_session-end.new.pass c.pending-waiting.new.pass c.requires.hand c.done.ensures.had session.session c.requires.unwritten (λ e. let r = session.read_fault e in let n = c.requires.reads in omega arith) (λ e. let r = session.write_fault e in let n = c.requires.writes in omega arith) c.pending-waiting.ensures.looked

pub returns-then-not-matches-clause-commands : goal.returns-then-not-matches-clause-commands
returns-then-not-matches-clause-commands g c =
    commands_then c.args.pass.now c.web_session-end.new.pass c.pending-waiting.new.pass (of_session c.args.floor.now.opening _ _ _ _ _ _ _ c.web_session-end.ensures.session.session) (commands_same c.web_session-end.new.pass c.pending-waiting.new.pass c.pending-waiting.ensures.looked.mine)

pub returns-else-not-matches-clause-commands : goal.returns-else-not-matches-clause-commands
returns-else-not-matches-clause-commands g c =
    commands_then c.args.pass.now c.web_session-end.new.pass c.pending-waiting.new.pass (of_session c.args.floor.now.opening _ _ _ _ _ _ _ c.web_session-end.ensures.session.session) (commands_same c.web_session-end.new.pass c.pending-waiting.new.pass c.pending-waiting.ensures.looked.mine)
