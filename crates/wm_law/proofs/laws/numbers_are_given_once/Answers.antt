use Rattle.wm_law.proofs.Numbers.{opening_is_numbered, step_keeps_numbers, numbers_are_given_once}
use Rattle.wm_law.proofs.laws.numbers_are_given_once.Goals as goal

pub returns-clause-opening : goal.returns-clause-opening
returns-clause-opening c = opening_is_numbered

pub returns-clause-step : goal.returns-clause-step
returns-clause-step c = step_keeps_numbers

pub returns-clause-always : goal.returns-clause-always
returns-clause-always c = numbers_are_given_once
