use Rattle.std.proofs.Common.{arith, ◌≡◌, ◌∙◌, ap, sym, Ok, unsigned_abs, ℤ}
use Rattle.jiff_core.proofs.SignedLemmas.{signed_casts}
use Rattle.wm_when.specs.Due.{answer_on, moment_at}
use Rattle.wm_when.proofs.Answering.{answer_on-below, answer_on-above, answer_on-past, answer_on-due}
use Rattle.wm_when.proofs.moment.due_on.Goals as goal
use Rattle.wm_when.proofs.moment.due_on.Goals.{then-moment-lt0-via-then-moment-lt0, then-moment-lt0-via-else-moment-lt0+then-moment}

pub returns-then-moment-lt0 : goal.returns-then-moment-lt0
returns-then-moment-lt0 c =
    let e : c.moment_at-moment.result ≡ moment_at c.args.day c.args.second c.args.offset_min = omega (arith, signed_casts) in
    let is = ap (λ (x : ℤ). answer_on c.args.day x c.args.now) (sym e) in
    elim c.then-moment-lt0.branch [
      | then-moment-lt0-via-then-moment-lt0 w ↦ sym (is ∙ answer_on-below c.args.day c.moment_at-moment.result c.args.now (omega (arith, signed_casts)))
      | then-moment-lt0-via-else-moment-lt0+then-moment w ↦ sym (is ∙ answer_on-above c.args.day c.moment_at-moment.result c.args.now (omega (arith, signed_casts)))
    ]

pub returns-then-moment-get : goal.returns-then-moment-get
returns-then-moment-get c =
    let e : c.moment_at-moment.result ≡ moment_at c.args.day c.args.second c.args.offset_min = omega (arith, signed_casts) in
    let is = ap (λ (x : ℤ). answer_on c.args.day x c.args.now) (sym e) in
    sym (is ∙ answer_on-past c.args.day c.moment_at-moment.result c.args.now (omega (arith, signed_casts)) (omega (arith, signed_casts)) (omega (arith, signed_casts)) (omega (arith, signed_casts)))

pub returns : goal.returns
returns c =
    let e : c.moment_at-moment.result ≡ moment_at c.args.day c.args.second c.args.offset_min = omega (arith, signed_casts) in
    let is = ap (λ (x : ℤ). answer_on c.args.day x c.args.now) (sym e) in
    let made : unsigned_abs c.moment_at-moment.result ≡ c.new.result = omega (arith, signed_casts) in
    sym (is ∙ answer_on-due c.args.day c.moment_at-moment.result c.args.now (omega (arith, signed_casts)) (omega (arith, signed_casts)) (omega (arith, signed_casts)) (omega (arith, signed_casts)) ∙ ap Ok made)
