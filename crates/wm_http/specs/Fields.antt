-- What the fields of a head say of the body and of the connection.
use Rattle.std.specs.Prelude.{ℕ, Bool, true, false, ◌&&◌, List, fold, map, codes, Option, Some, None, if◌then◌else◌}
use Rattle.std.specs.Str.{str_eq_ignore_ascii_case}
use Rattle.httparse.specs.Grammar.{RequestHead}
use Rattle.httparse.specs.Spans.{name_and_value}
use Rattle.wm_command.specs.Words.{number_of}
use Rattle.wm_http.specs.declared.request.Fields.{Fields}
use Rattle.wm_http.specs.declared.request.Length.{Length}
use Rattle.wm_http.specs.declared.request.Length.TheVariants.{Absent, Given, Bad}

-- the same letters, in any case
abbrev pub is_word : List ℕ → List ℕ → Bool
is_word bytes word = str_eq_ignore_ascii_case bytes word

-- one Content-Length
abbrev pub stated : Option ℕ → Length
stated None = Bad
stated (Some n) = Given n

-- one more Content-Length
abbrev pub with_length : Length → List ℕ → Length
with_length Absent value = stated (number_of 1 9 0 999999999 value)
with_length (Given n) value = Bad
with_length Bad value = Bad

-- no field yet
abbrev pub no_fields : Fields
no_fields = record { length = Absent; coding = false; closes = false }

-- one more field, a name and a value
abbrev pub with_field : Fields → List ℕ × List ℕ → Fields
with_field fields field =
    if is_word field.0 (codes "content-length") then record fields { length = with_length fields.length field.1 }
    else (if is_word field.0 (codes "transfer-encoding") then record fields { coding = true }
    else (if is_word field.0 (codes "connection") && is_word field.1 (codes "close") then record fields { closes = true }
    else fields))

-- what fields say together
abbrev pub fields_in : List (List ℕ × List ℕ) → Fields
fields_in pairs = fold with_field no_fields pairs

-- what those of a head say
abbrev pub fields_of : RequestHead → Fields
fields_of head = fields_in (map name_and_value head.fields)
