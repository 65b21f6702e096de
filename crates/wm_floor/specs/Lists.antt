-- Lists that grow.
use Rattle.std.specs.Prelude.{◌≡◌, List, ◌++◌, length, drop, Contains}

-- what a list that has grown has behind the old one
abbrev pub since : {A : Type 0} → List A → List A → List A
since old new = drop (length old) new

-- the old list is the front of the new one
abbrev pub Extends : {A : Type 0} → List A → List A → Type 0
Extends old new = new ≡ old ++ since old new

-- each of the first list is in the second
abbrev pub IsAmong : {A : Type 0} → List A → List A → Type 0
IsAmong {A} some all = (x : A) → Contains some x → Contains all x
