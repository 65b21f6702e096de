use Rattle.wm_law.proofs.GivenOut.{settling_gives_out}
use Rattle.wm_law.proofs.RequestCalls.{calls_keep_requests, answered_requests_wait}
use Rattle.wm_law.proofs.RequestSteps.{opening_has_none_waiting, requests_are_kept, step_keeps_none_waiting, step_keeps_requests, requests_are_queue}
use Rattle.wm_law.proofs.prestart_laws.requests_are_kept.Goals as goal

pub returns-clause-opening : goal.returns-clause-opening
returns-clause-opening c = opening_has_none_waiting

pub returns-clause-waiting : goal.returns-clause-waiting
returns-clause-waiting c = step_keeps_none_waiting

pub returns-clause-call : goal.returns-clause-call
returns-clause-call c = calls_keep_requests

pub returns-clause-settling : goal.returns-clause-settling
returns-clause-settling c = settling_gives_out

pub returns-clause-step : goal.returns-clause-step
returns-clause-step c = step_keeps_requests

pub returns-clause-always : goal.returns-clause-always
returns-clause-always c = requests_are_kept

pub returns-clause-queue : goal.returns-clause-queue
returns-clause-queue c = requests_are_queue

pub returns-clause-answer : goal.returns-clause-answer
returns-clause-answer c = answered_requests_wait
