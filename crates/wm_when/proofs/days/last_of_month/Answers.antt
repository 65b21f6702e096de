use Rattle.std.proofs.Common.{arith, ◌≡◌}
use Rattle.jiff_core.specs.Date.{epoch_day}
use Rattle.jiff_core.proofs.SignedLemmas.{signed_arith}
use Rattle.wm_when.specs.Due.{month_end, month_of}
use Rattle.wm_when.proofs.Months.{last_of_month_is, last_of_month-after}
use Rattle.wm_when.proofs.days.last_of_month.Goals as goal

pub returns-clause-value : goal.returns-clause-value
returns-clause-value c =
    let day : epoch_day c.date_of.result ≡ c.args.day = omega (arith, signed_arith) in
    let is : epoch_day c.last_of_month.result ≡ month_end (month_of c.args.day) = last_of_month_is c.date_of.result c.last_of_month.result c.args.day day (omega (arith, signed_arith)) c.last_of_month.ensures in
    omega (arith, signed_arith)

pub returns-clause-range : goal.returns-clause-range
returns-clause-range c =
    let after = last_of_month-after c.date_of.result c.last_of_month.result c.last_of_month.ensures in
    omega (arith, signed_arith)
