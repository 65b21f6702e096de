-- Words as options with their values: `--x=v`, or `--x` and the word v behind it, which doesn't begin with a hyphen.
use Rattle.std.specs.Prelude.{ℕ, ◌==◌, Bool, true, false, not, ◌&&◌, List, [], ◌∷◌, ◌++◌, drop, find, Option, Some, None, option_map, if◌then◌else◌}
use Rattle.std.specs.List.{after_first, before_first, list_any}
use Rattle.std.specs.Str.{bytes_eq}

-- the sign between the name of an option and its value
abbrev pub is_sign : ℕ → Bool
is_sign byte = byte == 61

-- the word begins with two hyphens
abbrev pub is_option : List ℕ → Bool
is_option [] = false
is_option (first ∷ []) = false
is_option (first ∷ second ∷ bytes) = first == 45 && second == 45

-- the word has the sign
abbrev pub has_value : List ℕ → Bool
has_value word = list_any is_sign word

-- the word is an option with its value
abbrev pub is_whole : List ℕ → Bool
is_whole word = is_option word && has_value word

-- its name: what stands between the hyphens and the first sign
abbrev pub name_in : List ℕ → List ℕ
name_in word = before_first is_sign (drop 2 word)

-- its value: what stands behind the first sign
abbrev pub value_in : List ℕ → List ℕ
value_in word = after_first is_sign (drop 2 word)

-- a word that may be the value of the option before it
abbrev pub is_value : List ℕ → Bool
is_value [] = true
is_value (byte ∷ bytes) = not (byte == 45)

-- an option and its value, in one word
abbrev pub with_value : List ℕ → List ℕ → List ℕ
with_value option value = option ++ 61 ∷ value

-- one more in front, where the others are options
abbrev pub with_first : List ℕ → Option (List (List ℕ)) → Option (List (List ℕ))
with_first option others = option_map (λ options. option ∷ options) others

-- the options of words, each in one word, behind an option that still wants its value, where there is one
abbrev pub joined_behind : Option (List ℕ) → List (List ℕ) → Option (List (List ℕ))
joined_behind None [] = Some []
joined_behind None (word ∷ words) =
    if is_whole word then with_first word (joined_behind None words)
    else if is_option word then joined_behind (Some word) words
    else None
joined_behind (Some option) [] = None
joined_behind (Some option) (word ∷ words) =
    if is_value word then with_first (with_value option word) (joined_behind None words) else None

-- the options of words, each in one word, where the words are options with their values
abbrev pub joined : List (List ℕ) → Option (List (List ℕ))
joined words = joined_behind None words

-- one of these is the name
abbrev pub is_named : List ℕ → List (List ℕ) → Bool
is_named name names = list_any (λ other. bytes_eq other name) names

-- one of the options has the name
abbrev pub is_given : List ℕ → List (List ℕ) → Bool
is_given name options = list_any (λ option. bytes_eq (name_in option) name) options

-- each option has one of these names, and no name stands twice, or among the options before them
abbrev pub are_given : List (List ℕ) → List (List ℕ) → List (List ℕ) → Bool
are_given names before [] = true
are_given names before (option ∷ options) =
    (is_named (name_in option) names && not (is_given (name_in option) before)) && are_given names (before ++ option ∷ []) options

-- the value of the option with this name
abbrev pub value_of : List ℕ → List (List ℕ) → Option (List ℕ)
value_of name options = option_map value_in (find (λ option. bytes_eq (name_in option) name) options)
