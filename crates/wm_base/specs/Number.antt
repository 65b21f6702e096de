-- How numbers are written.
use Rattle.std.specs.Prelude.{ℕ, Bool, ◌-◌, ◌&&◌, List, ◌++◌, length, nat_le, replicate}
use Rattle.std.specs.Fmt.{decimal}

-- the decimal digits of a number, with zeros before them up to a width
unfoldable pub zero_padded : ℕ → ℕ → List ℕ
zero_padded width n = replicate (width - length (decimal n)) 48 ++ decimal n

-- 0 to 9
abbrev pub is_digit : ℕ → Bool
is_digit byte = nat_le 48 byte && nat_le byte 57
