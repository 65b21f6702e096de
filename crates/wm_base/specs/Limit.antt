-- What a limit admits, and how it is printed.
use Rattle.std.specs.Prelude.{ℕ, Bool, true, List, nat_lt, codes}
use Rattle.std.specs.Fmt.{decimal}
use Rattle.wm_base.specs.declared.limit.Limit.{Limit}
use Rattle.wm_base.specs.declared.limit.Limit.TheVariants.{NoMax, Most}

-- whether a count is below the limit
abbrev pub is_below : ℕ → Limit → Bool
is_below count NoMax = true
is_below count (Most most) = nat_lt count most

abbrev pub limit_text : Limit → List ℕ
limit_text NoMax = codes "*NOMAX"
limit_text (Most most) = decimal most
