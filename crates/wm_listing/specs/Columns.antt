-- The columns of a line.
use Rattle.std.specs.Prelude.{ℕ, ◌-◌, List, [], ◌∷◌, ◌++◌, length, replicate}

abbrev pub blanks : ℕ → List ℕ
blanks n = replicate n 32

-- a text with blanks behind it up to a width
abbrev pub padded : ℕ → List ℕ → List ℕ
padded width text = text ++ blanks (width - length text)

-- a text with blanks before it up to a width
abbrev pub aligned : ℕ → List ℕ → List ℕ
aligned width text = blanks (width - length text) ++ text

-- the end of a line
abbrev pub newline : List ℕ
newline = 10 ∷ []
