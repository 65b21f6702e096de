-- The parts of a path, and what they name.
use Rattle.std.specs.Prelude.{ℕ, zero, suc, ◌+◌, ◌==◌, Bool, not, nat_lt, List, length, drop, map, take_while, Option, Some, None}
use Rattle.std.specs.Char.{to_ascii_uppercase}
use Rattle.wm_base.specs.Name.{name_of}
use Rattle.wm_base.specs.declared.job.JobName.{JobName}
use Rattle.wm_base.specs.declared.qname.QName.{QName}
use Rattle.wm_command.specs.Words.{number_of}

abbrev pub is_no_query : ℕ → Bool
is_no_query byte = not (byte == 63)

-- the path of a target: what stands before the first ?
abbrev pub path_of : List ℕ → List ℕ
path_of target = take_while is_no_query target

abbrev pub is_ascii : ℕ → Bool
is_ascii byte = nat_lt byte 128

abbrev pub is_no_slash : ℕ → Bool
is_no_slash byte = not (byte == 47)

abbrev pub before_slash : List ℕ → List ℕ
before_slash path = take_while is_no_slash path

abbrev pub behind_slash : List ℕ → List ℕ
behind_slash path = drop (length (before_slash path) + 1) path

-- the part behind so many slashes
abbrev pub part : ℕ → List ℕ → List ℕ
part zero path = before_slash path
part (suc n) path = part n (behind_slash path)

-- the name of a part, in which a to z are read as A to Z
abbrev pub name_in : List ℕ → Option (List ℕ)
name_in part = name_of (map to_ascii_uppercase part)

abbrev pub qname_in : Option (List ℕ) → Option (List ℕ) → Option QName
qname_in None name = None
qname_in (Some lib) None = None
qname_in (Some lib) (Some name) = Some (record { lib = lib; name = name })

-- the number of a job, of 1 to 6 digits
abbrev pub number_in : List ℕ → Option ℕ
number_in part = number_of 1 6 1 999999 part

abbrev pub job_in : Option ℕ → Option (List ℕ) → Option (List ℕ) → Option JobName
job_in None user name = None
job_in (Some number) None name = None
job_in (Some number) (Some user) None = None
job_in (Some number) (Some user) (Some name) = Some (record { number = number; user = user; name = name })
