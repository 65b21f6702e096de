-- What the code keeps between two words.
use Rattle.std.specs.Prelude.{◌≡◌, ℕ, true, List, ◌++◌, Option, IfSome, option_map}
use Rattle.wm_plan.specs.Options.{is_option, joined_behind}

-- the options so far, and those of the words to come
abbrev pub joined_from : List (List ℕ) → Option (List ℕ) → List (List ℕ) → Option (List (List ℕ))
joined_from options asked words = option_map (λ others. options ++ others) (joined_behind asked words)

-- what wants a value is an option
abbrev pub AsksOption : Option (List ℕ) → Type 0
AsksOption asked = IfSome asked (λ option. is_option option ≡ true)
