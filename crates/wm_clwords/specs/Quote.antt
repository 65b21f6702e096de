-- How a text is written between apostrophes.
use Rattle.std.specs.Prelude.{ℕ, List, [], ◌∷◌, ◌++◌, ◌==◌, if◌then◌else◌}
use Rattle.std.specs.List.{flat_map}

-- an apostrophe stands for itself twice
abbrev pub doubled_byte : ℕ → List ℕ
doubled_byte byte = if byte == 39 then 39 ∷ 39 ∷ [] else byte ∷ []

-- the text with each apostrophe doubled
abbrev pub doubled : List ℕ → List ℕ
doubled text = flat_map doubled_byte text

-- the text in apostrophes
abbrev pub quoted : List ℕ → List ℕ
quoted text = 39 ∷ doubled text ++ 39 ∷ []
