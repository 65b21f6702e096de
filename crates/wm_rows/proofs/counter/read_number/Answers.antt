use Rattle.std.proofs.Common.{ℕ, Option, Some, None, Result, Ok, Err, sym, ◌∙◌, ap}
use Rattle.std.proofs.lemmas.Fmt.{parse-decimal}
use Rattle.wm_rows.proofs.counter.read_number.Goals as goal

abbrev number_of : {E : Type 0} → Result ℕ E → Option ℕ
number_of (Ok n) = Some n
number_of (Err e) = None

pub returns-in-Ok-clause-exactly : goal.returns-in-Ok-clause-exactly
returns-in-Ok-clause-exactly c = λ n small same.
    ap number_of (sym c.in-Ok.is ∙ parse-decimal 64 n c.as_str.result.now c.parse.result small small (c.as_str.ensures ∙ same) c.parse.ensures.value.0)

pub returns-in-Err-clause-exactly : goal.returns-in-Err-clause-exactly
returns-in-Err-clause-exactly c = λ n small same.
    ap number_of (sym c.in-Err.is ∙ parse-decimal 64 n c.as_str.result.now c.parse.result small small (c.as_str.ensures ∙ same) c.parse.ensures.value.0)
