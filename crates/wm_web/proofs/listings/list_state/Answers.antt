use Rattle.wm_base.proofs.Lists.{on_err}
use Rattle.wm_web.proofs.Calls.{read_taken}
use Rattle.wm_web.proofs.listings.list_state.Goals as goal

pub returns-in_err-answer-in-Ok-clause-err : goal.returns-in_err-answer-in-Ok-clause-err
returns-in_err-answer-in-Ok-clause-err g c =
    on_err _ (read_taken c.args.floor.now.opening c.args.ask.now c.args.pass.now c.read.new.pass c.in-Ok.ensures.looked)
