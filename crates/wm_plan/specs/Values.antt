-- What the values of options say: paths, names, numbers, where a server listens, and offsets.
use Rattle.std.specs.Prelude.{ℕ, ℤ, pos, neg_ℤ, ◌+◌, ◌-◌, ◌*◌, ◌/◌, ◌%◌, ◌^◌, ◌==◌, Bool, not, ◌&&◌, nat_lt, List, [], ◌∷◌, length, take, drop, take_while, fold, Option, Some, None, option_map, if◌then◌else◌, codes}
use Rattle.std.specs.Str.{bytes_eq}
use Rattle.wm_base.specs.declared.qname.QName.{QName}
use Rattle.wm_base.specs.Name.{name_of}
use Rattle.wm_base.specs.Number.{is_digit}
use Rattle.wm_when.specs.Schedule.{within}
use Rattle.wm_plan.specs.declared.plan.Addr.{Addr}
use Rattle.wm_plan.specs.declared.plan.Addr.TheVariants.{Ip, Localhost}
use Rattle.wm_plan.specs.declared.plan.ListenAt.{ListenAt}

-- Paths

abbrev pub path_of : List ℕ → Option (List ℕ)
path_of [] = None
path_of (byte ∷ bytes) = Some (byte ∷ bytes)

-- Names

abbrev pub is_no_slash : ℕ → Bool
is_no_slash byte = not (byte == 47)

-- how many bytes stand before the first slash
abbrev pub slash_at : List ℕ → ℕ
slash_at text = length (take_while is_no_slash text)

abbrev pub qualified : Option (List ℕ) → Option (List ℕ) → Option QName
qualified None name = None
qualified (Some lib) None = None
qualified (Some lib) (Some name) = Some (record { lib = lib; name = name })

-- `LIB/NAME`
abbrev pub qname_of : List ℕ → Option QName
qname_of text =
    if nat_lt (slash_at text) (length text)
    then qualified (name_of (take (slash_at text) text)) (name_of (drop (slash_at text + 1) text))
    else None

-- Numbers

-- one more digit behind a number, where the number that they write is below 2 to the 64
abbrev pub push_digit : Option ℕ → ℕ → Option ℕ
push_digit None byte = None
push_digit (Some n) byte = if is_digit byte && nat_lt (n * 10 + (byte - 48)) (2 ^ 64) then Some (n * 10 + (byte - 48)) else None

-- the number that digits write
unfoldable pub digits : List ℕ → Option ℕ
digits text = fold push_digit (Some 0) text

-- a number of 1 to 20 digits
abbrev pub number_of : List ℕ → Option ℕ
number_of text = if within 1 20 (length text) then digits text else None

abbrev pub kept_within : ℕ → ℕ → Option ℕ → Option ℕ
kept_within low high None = None
kept_within low high (Some n) = if within low high n then Some n else None

-- the same, from low to high
abbrev pub ranged_of : ℕ → ℕ → List ℕ → Option ℕ
ranged_of low high text = kept_within low high (number_of text)

-- Where a server listens

-- `127.0.0.1`, or `localhost`
abbrev pub addr_of : List ℕ → Option Addr
addr_of text = if bytes_eq text (codes "127.0.0.1") then Some Ip else if bytes_eq text (codes "localhost") then Some Localhost else None

abbrev pub is_no_colon : ℕ → Bool
is_no_colon byte = not (byte == 58)

-- how many bytes stand before the first colon
abbrev pub colon_at : List ℕ → ℕ
colon_at text = length (take_while is_no_colon text)

abbrev pub listening : Option Addr → Option ℕ → Option ListenAt
listening None port = None
listening (Some addr) None = None
listening (Some addr) (Some port) = Some (record { addr = addr; port = port })

-- `ADDR:PORT`
abbrev pub listen_of : List ℕ → Option ListenAt
listen_of text =
    if nat_lt (colon_at text) (length text)
    then listening (addr_of (take (colon_at text) text)) (ranged_of 0 65535 (drop (colon_at text + 1) text))
    else None

-- Offsets

-- hours below 24 and minutes below 60 in two digits each, in minutes
abbrev pub minutes_in : Option ℕ → Option ℕ
minutes_in None = None
minutes_in (Some n) = if nat_lt (n / 100) 24 && nat_lt (n % 100) 60 then Some (n / 100 * 60 + n % 100) else None

abbrev pub minutes_of : List ℕ → Option ℕ
minutes_of text = if length text == 4 then minutes_in (digits text) else None

-- minutes ahead of UTC, and minutes behind it
abbrev pub east : Option ℕ → Option ℤ
east minutes = option_map pos minutes

abbrev pub west : Option ℕ → Option ℤ
west minutes = option_map (λ n. neg_ℤ (pos n)) minutes

-- `E0000` to `E2359`, ahead of UTC, or `W0000` to `W2359`, behind it
abbrev pub offset_of : List ℕ → Option ℤ
offset_of [] = None
offset_of (sign ∷ text) =
    if sign == 69 then east (minutes_of text)
    else if sign == 87 then west (minutes_of text)
    else None
