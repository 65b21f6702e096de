use Rattle.std.proofs.Common.{arith, ◌≡◌, ◌/◌, ◌%◌, ◌-◌, ◌*◌, ◌+◌, w8, w16, to_z, pos}
use Rattle.jiff_core.specs.Date.{epoch_day, IsYmd}
use Rattle.jiff_core.proofs.SignedLemmas.{signed_arith, signed_casts}
use Rattle.jiff_core.proofs.CalendarLemmas.{days_in_month_bounds}
use Rattle.wm_when.specs.Due.{day_of_date}
use Rattle.wm_when.proofs.Months.{is_day_of-true, day_of_parts, month_start-later, length-jiff}
use Rattle.wm_when.proofs.days.day_of_date.Goals as goal

is_day : (c : goal.After-day_of) → epoch_day c.unwrap.result ≡ day_of_date c.args.date
is_day c =
    let of = is_day_of-true (c.args.date / 10000) (c.args.date / 100 % 100) (c.args.date % 100) c.requires in
    let long = days_in_month_bounds (pos (c.args.date / 10000)) (c.args.date / 100 % 100) in
    let same = length-jiff (c.args.date / 10000) (c.args.date / 100 % 100) in
    let year : to_z w16 (c.args.date / 10000) ≡ pos (c.args.date / 10000) = omega (arith, signed_casts) in
    let month : to_z w8 (c.args.date / 100 % 100) ≡ pos (c.args.date / 100 % 100) = omega (arith, signed_casts) in
    let day : to_z w8 (c.args.date % 100) ≡ pos (c.args.date % 100) = omega (arith, signed_casts) in
    let made = rw c.unwrap.ensures at c.new.ensures.value in
    let is : IsYmd (pos (c.args.date / 10000)) (pos (c.args.date / 100 % 100)) (pos (c.args.date % 100)) c.unwrap.result = rw (year, month, day) at made in
    day_of_parts (c.args.date / 10000) (c.args.date / 100 % 100) (c.args.date % 100) c.unwrap.result of is

pub returns-clause-value : goal.returns-clause-value
returns-clause-value c = let is = is_day c in omega (arith, signed_arith)

pub returns-clause-range : goal.returns-clause-range
returns-clause-range c =
    let of = is_day_of-true (c.args.date / 10000) (c.args.date / 100 % 100) (c.args.date % 100) c.requires in
    let is = is_day c in
    let later = month_start-later (12 * (c.args.date / 10000 - 1970) + c.args.date / 100 % 100) (omega arith) in
    omega (arith, signed_arith)
