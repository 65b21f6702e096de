use Rattle.wm_clwords.proofs.CommandLaw.{some_verdict, one_command, one_fault, no_fault}
use Rattle.wm_clwords.proofs.command.one_verdict.Goals as goal

pub returns : goal.returns
returns c = record { some = some_verdict; command = λ b n o m k. one_command b n o m k; fault = one_fault; apart = no_fault }
