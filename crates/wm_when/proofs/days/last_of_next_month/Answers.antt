use Rattle.std.proofs.Common.{arith, ◌≡◌, ◌∙◌, ◌+◌, ap, ℕ, pos, ◌+ℤ◌, ◌<ℤ◌, refl}
use Rattle.std.proofs.lemmas.Int.{by_lt_z}
use Rattle.std.proofs.lemmas.Bool.{false≢true}
use Rattle.jiff_core.specs.Date.{epoch_day}
use Rattle.jiff_core.proofs.SignedLemmas.{signed_arith}
use Rattle.wm_when.specs.Due.{month_end, month_of}
use Rattle.wm_when.proofs.Months.{last_of_month_is, last_of_month-after, next_month_is, january_is}
use Rattle.wm_when.proofs.days.last_of_next_month.Goals as goal

pub returns-in-Ok-clause-value : goal.returns-in-Ok-clause-value
returns-in-Ok-clause-value c =
    let next : epoch_day c.in-Ok.first ≡ c.args.last +ℤ pos 1 = omega (arith, signed_arith, c.in-Ok.ensures.value) in
    let before : c.args.last <ℤ pos 2932896 = omega (arith, signed_arith, c.in-Ok.ensures.succeeds.0 refl) in
    let month : month_of (c.args.last +ℤ pos 1) ≡ month_of c.args.last + 1 = next_month_is c.args.last (month_of c.args.last) c.requires.last before in
    let is : epoch_day c.last_of_month.result ≡ month_end (month_of (c.args.last +ℤ pos 1)) = last_of_month_is c.in-Ok.first c.last_of_month.result (c.args.last +ℤ pos 1) next (omega (arith, signed_arith)) c.last_of_month.ensures in
    let there : epoch_day c.last_of_month.result ≡ month_end (month_of c.args.last + 1) = is ∙ ap (λ (n : ℕ). month_end n) month in
    omega (arith, signed_arith)

pub returns-in-Ok-clause-range : goal.returns-in-Ok-clause-range
returns-in-Ok-clause-range c =
    let next : epoch_day c.in-Ok.first ≡ c.args.last +ℤ pos 1 = omega (arith, signed_arith, c.in-Ok.ensures.value) in
    let after = last_of_month-after c.in-Ok.first c.last_of_month.result c.last_of_month.ensures in
    omega (arith, signed_arith)

pub returns-in-Err-clause-value : goal.returns-in-Err-clause-value
returns-in-Err-clause-value c =
    let day : epoch_day c.date_of.result ≡ c.args.last = omega (arith, signed_arith) in
    let end : c.args.last ≡ pos 2932896 = by_lt_z c.args.last (pos 2932896)
    (λ lt. absurd (false≢true (c.in-Err.ensures.succeeds.1 (omega (arith, signed_arith)))))
    (λ le. omega (arith, signed_arith)) in
    let is = january_is c.args.last end in
    omega (arith, signed_arith)
