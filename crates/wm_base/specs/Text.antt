-- Which bytes are a text.
use Rattle.std.specs.Prelude.{ℕ, Bool, List, nat_le, ◌&&◌, IsTrue}
use Rattle.std.specs.List.{list_all}

-- a blank, or a visible byte of ASCII
abbrev pub is_printable : ℕ → Bool
is_printable byte = nat_le 32 byte && nat_le byte 126

abbrev pub IsText : List ℕ → Type 0
IsText bytes = IsTrue (list_all is_printable bytes)
