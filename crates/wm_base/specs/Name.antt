-- Which bytes are a name.
use Rattle.std.specs.Prelude.{ℕ, Bool, List, Option, Some, None, length, nat_le, ◌==◌, ◌&&◌, ◌||◌, IsTrue, slice_index, if◌then◌else◌}
use Rattle.std.specs.List.{list_all}

-- A to Z, $, # or @
abbrev pub begins_name : ℕ → Bool
begins_name byte = (nat_le 65 byte && nat_le byte 90) || byte == 36 || byte == 35 || byte == 64

-- one of these, a digit or _
abbrev pub continues_name : ℕ → Bool
continues_name byte = begins_name byte || (nat_le 48 byte && nat_le byte 57) || byte == 95

-- one to ten bytes that continue a name, the first of which begins one
abbrev pub is_name : List ℕ → Bool
is_name bytes = nat_le 1 (length bytes) && nat_le (length bytes) 10 && list_all continues_name bytes && begins_name (slice_index bytes 0)

abbrev pub IsName : List ℕ → Type 0
IsName bytes = IsTrue (is_name bytes)

-- the name that bytes are, where they are one
abbrev pub name_of : List ℕ → Option (List ℕ)
name_of bytes = if is_name bytes then Some bytes else None
