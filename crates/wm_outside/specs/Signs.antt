-- What the bytes of a log of changes say.
use Rattle.std.specs.Prelude.{ℕ, ◌-◌, ◌<◌, ◌≤◌, ◌==◌, nat_lt, IsTrue, if◌then◌else◌}
use Rattle.wm_base.specs.Text.{is_printable}
use Rattle.wm_outside.specs.declared.memory.sign.Sign.{Sign}
use Rattle.wm_outside.specs.declared.memory.sign.Sign.TheVariants.{Text, Digit, KeyEnds, Put, Deleted, CallEnds}
use Rattle.wm_outside.specs.declared.memory.sign.TextSign.{TextSign}
use Rattle.wm_outside.specs.declared.memory.sign.TextSign.TheVariants.{Own, Kept, Passed}
use Rattle.wm_outside.specs.declared.memory.sign.TheConstants.{MOST}

-- the bytes 32 to 126 are those of texts
abbrev pub sign_of : ℕ → Sign
sign_of byte =
    if nat_lt byte 16 then Digit byte else
    if byte == 16 then KeyEnds else
    if byte == 17 then Put else
    if byte == 18 then Deleted else
    if nat_lt byte 32 then CallEnds else
    if nat_lt byte 127 then Text (Own byte) else
    if nat_lt byte 192 then Text (Kept (byte - 127)) else
    Text (Passed (byte - 191))

-- there is a byte that says this of a text
abbrev pub IsTextSign : TextSign → Type 0
IsTextSign (Own byte) = IsTrue (is_printable byte)
IsTextSign (Kept count) = count ≤ MOST
IsTextSign (Passed count) = (0 < count) × (count ≤ MOST)

-- there is a byte that says this
abbrev pub IsSign : Sign → Type 0
IsSign (Text sign) = IsTextSign sign
IsSign (Digit digit) = digit < 16
IsSign KeyEnds = Unit {0}
IsSign Put = Unit {0}
IsSign Deleted = Unit {0}
IsSign CallEnds = Unit {0}
