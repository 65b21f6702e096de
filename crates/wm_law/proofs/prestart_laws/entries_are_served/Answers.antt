use Rattle.wm_law.proofs.Served.{entries_are_served, settling_serves, step_serves, supply_serves, supply_serves_entry, opening_is_served}
use Rattle.wm_law.proofs.prestart_laws.entries_are_served.Goals as goal

pub returns-clause-entry : goal.returns-clause-entry
returns-clause-entry c = supply_serves_entry

pub returns-clause-supply : goal.returns-clause-supply
returns-clause-supply c = supply_serves

pub returns-clause-settling : goal.returns-clause-settling
returns-clause-settling c = settling_serves

pub returns-clause-step : goal.returns-clause-step
returns-clause-step c = step_serves

pub returns-clause-always : goal.returns-clause-always
returns-clause-always c = entries_are_served

pub returns-clause-opening : goal.returns-clause-opening
returns-clause-opening c = opening_is_served
