use Rattle.wm_law.proofs.Orders.{opening_has_orders, step_keeps_orders, starting_jobs_have_orders, hand_gives_an_order}
use Rattle.wm_law.proofs.laws.starting_jobs_have_orders.Goals as goal

pub returns-clause-opening : goal.returns-clause-opening
returns-clause-opening c = opening_has_orders

pub returns-clause-step : goal.returns-clause-step
returns-clause-step c = step_keeps_orders

pub returns-clause-always : goal.returns-clause-always
returns-clause-always c = starting_jobs_have_orders

pub returns-clause-hand : goal.returns-clause-hand
returns-clause-hand c = hand_gives_an_order
