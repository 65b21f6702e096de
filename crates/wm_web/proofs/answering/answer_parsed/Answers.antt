use Rattle.wm_web.proofs.Requests.{taken_call}
use Rattle.wm_web.proofs.answering.answer_parsed.Goals as goal

pub returns-in-Call-clause-err : goal.returns-in-Call-clause-err
returns-in-Call-clause-err g c =
    taken_call c.args.floor.now.opening c.args.user.now c.args.parsed c.in-Call.command c.args.pass.now c.call_command.new.pass c.call_command.result c.in-Call.is c.call_command.ensures.err
