use Rattle.wm_base.proofs.Lists.{on_err}
use Rattle.wm_law.specs.declared.command.Ask.TheVariants.{Log}
use Rattle.wm_web.proofs.Calls.{read_taken}
use Rattle.wm_web.proofs.listings.list_log.Goals as goal

pub returns-in_err-bytes-in-Ok-clause-err : goal.returns-in_err-bytes-in-Ok-clause-err
returns-in_err-bytes-in-Ok-clause-err g c =
    on_err _ (read_taken c.args.floor.now.opening Log c.args.pass.now c.log.new.pass c.in-Ok.ensures.looked)
