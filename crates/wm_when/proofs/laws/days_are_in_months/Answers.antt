use Rattle.wm_when.proofs.MonthLaws.{day_is_in_its_month}
use Rattle.wm_when.proofs.laws.days_are_in_months.Goals as goal

pub returns-clause-month : goal.returns-clause-month
returns-clause-month c = day_is_in_its_month
