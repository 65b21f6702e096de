-- What is known of a number's printing.
use Rattle.std.proofs.Common.{◌≡◌, ℕ, ◌+◌, ◌-◌, ◌<◌, ◌^◌, [], false, true, arith, append_assoc}
use Rattle.std.specs.Fmt.{decimal, padded_integral, format_spec, char_count}
use Rattle.std.proofs.lemmas.Bool.Decides.{nat_tests}
use Rattle.std.proofs.lemmas.Grind.{common_steps}
use Rattle.wm_base.specs.Number.{is_digit, zero_padded}

-- a format such as `{:06}` writes zeros before the number
pub padded_integral-zeros : (width n : ℕ) → padded_integral (format_spec 32 0 4 width (2 ^ 64 - 1)) false [] (decimal n) ≡ zero_padded width n
unfolding padded_integral char_count zero_padded
padded_integral-zeros width n = grind (arith, common_steps)

pub ruleset padded = (padded_integral-zeros, append_assoc)

pub digit_of : (d : ℕ) → d < 10 → is_digit (48 + d) ≡ true
digit_of d h = grind (arith, nat_tests)
