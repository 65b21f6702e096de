-- The logical lines of the input.
use Rattle.std.specs.Prelude.{ℕ, Bool, true, false, not, List, [], ◌∷◌, ◌++◌, length, take, map, Option, Some, None, nat_lt, ◌==◌, ◌-◌, ◌||◌, ◌&&◌, if◌then◌else◌}
use Rattle.wm_clwords.specs.declared.line.Sign.{Sign}
use Rattle.wm_clwords.specs.declared.line.Sign.TheVariants.{No, Plus, Minus}

-- a blank or a tab
abbrev pub is_blank : ℕ → Bool
is_blank byte = byte == 32 || byte == 9

abbrev pub is_no_line_feed : ℕ → Bool
is_no_line_feed byte = not (byte == 10)

abbrev pub is_empty : List ℕ → Bool
is_empty [] = true
is_empty (byte ∷ bytes) = false

-- without the blanks and tabs at the start
abbrev pub start_trimmed : List ℕ → List ℕ
start_trimmed [] = []
start_trimmed (byte ∷ bytes) = if is_blank byte then start_trimmed bytes else byte ∷ bytes

-- without the blanks and tabs at the end
abbrev pub end_trimmed : List ℕ → List ℕ
end_trimmed [] = []
end_trimmed (byte ∷ bytes) = if is_blank byte && is_empty (end_trimmed bytes) then [] else byte ∷ end_trimmed bytes

-- without one CR at the end
abbrev pub without_cr : List ℕ → List ℕ
without_cr [] = []
without_cr (byte ∷ []) = if byte == 13 then [] else byte ∷ []
without_cr (byte ∷ next ∷ bytes) = byte ∷ without_cr (next ∷ bytes)

-- the physical lines, where `line` stands before the bytes: each ends at an LF, and the rest is one if it isn't empty
abbrev pub physical : List ℕ → List ℕ → List (List ℕ)
physical [] [] = []
physical (first ∷ line) [] = (first ∷ line) ∷ []
physical line (byte ∷ bytes) = if byte == 10 then without_cr line ∷ physical [] bytes else physical (line ++ byte ∷ []) bytes

abbrev pub sign_byte : ℕ → Sign
sign_byte byte = if byte == 43 then Plus else (if byte == 45 then Minus else No)

-- the sign that a text ends with
abbrev pub sign_of : List ℕ → Sign
sign_of [] = No
sign_of (byte ∷ []) = sign_byte byte
sign_of (byte ∷ next ∷ bytes) = sign_of (next ∷ bytes)

-- what was joined so far, if a sign was, and whether it was a `+`
abbrev pub Before : Type 0
Before = Option (List ℕ × Bool)

abbrev pub front_of : Before → List ℕ
front_of None = []
front_of (Some joined) = joined.0

abbrev pub drops_of : Before → Bool
drops_of None = false
drops_of (Some joined) = joined.1

-- a line after a `+` is joined without the blanks and tabs at its start
abbrev pub kept_of : Bool → List ℕ → List ℕ
kept_of drops line = if drops then start_trimmed line else line

-- the blanks and tabs at a line's end are dropped
abbrev pub text_of : Before → List ℕ → List ℕ
text_of before line = end_trimmed (kept_of (drops_of before) line)

-- the sign itself is dropped
abbrev pub without_last : List ℕ → List ℕ
without_last text = take (length text - 1) text

-- a choice by the sign
abbrev pub by_sign : {X : Type 0} → Sign → X → X → X → X
by_sign No whole plus minus = whole
by_sign Plus whole plus minus = plus
by_sign Minus whole plus minus = minus

-- the logical lines of physical lines: a line that ends with a sign goes on with the next, or ends with the input
abbrev pub logical : Before → List (List ℕ) → List (List ℕ)
logical None [] = []
logical (Some joined) [] = joined.0 ∷ []
logical before (line ∷ lines) =
    let front = front_of before in
    let text = text_of before line in
    by_sign (sign_of text)
    ((front ++ text) ∷ logical None lines)
    (logical (Some (front ++ without_last text, true)) lines)
    (logical (Some (front ++ without_last text, false)) lines)

-- a logical line, or None where it has more than 8,192 bytes
abbrev pub within_limit : List ℕ → Option (List ℕ)
within_limit line = if nat_lt 8192 (length line) then None else Some line

-- the logical lines of the whole input
abbrev pub logical_lines : List ℕ → List (Option (List ℕ))
logical_lines bytes = map within_limit (logical None (physical [] bytes))
