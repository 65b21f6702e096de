-- One word more of a command line.
use Rattle.std.proofs.Common.{◌≡◌, ◌∙◌, ℕ, Bool, true, false, cond, List, [], ◌∷◌, ◌++◌, Option, Some, None, refl, ap, sym, ◌≤◌, arith, drop, length, suc, zero}
use Rattle.std.specs.Option.{option_map}
use Rattle.std.proofs.lemmas.List.{append_assoc}
use Rattle.wm_plan.specs.Joining.{joined_from}
use Rattle.wm_plan.specs.Options.{is_option, is_value, is_whole, joined_behind, with_first, with_value}

abbrev Text : Type 0
Text = List ℕ

pushed : (done : List Text) (option : Text) (rest : Option (List Text)) → option_map (λ o. (done ++ option ∷ []) ++ o) rest ≡ option_map (λ o. done ++ o) (with_first option rest)
pushed done option None = refl
pushed done option (Some o) = ap Some (append_assoc done (option ∷ []) o)

-- it is the value that an option wants
pub took_value : (done now : List Text) (asked : Option Text) (option word : Text) (words : List Text) → asked ≡ Some option → is_value word ≡ true → now ≡ done ++ with_value option word ∷ []
    → joined_from now None words ≡ joined_from done asked (word ∷ words)
took_value done now asked option word words is value same =
    ap (λ d. joined_from d None words) same ∙ pushed done (with_value option word) (joined_behind None words)
    ∙ sym (ap (λ a. joined_from done a (word ∷ words)) is ∙ ap (λ b. option_map (λ o. done ++ o) (cond b (with_first (with_value option word) (joined_behind None words)) None)) value)

-- it is an option with its value
pub took_whole : (done now : List Text) (asked : Option Text) (word : Text) (words : List Text) → asked ≡ None → is_whole word ≡ true → now ≡ done ++ word ∷ []
    → joined_from now asked words ≡ joined_from done asked (word ∷ words)
took_whole done now asked word words is whole same =
    ap (λ a. joined_from now a words) is ∙ ap (λ d. joined_from d None words) same ∙ pushed done word (joined_behind None words)
    ∙ sym (ap (λ a. joined_from done a (word ∷ words)) is
    ∙ ap (λ b. option_map (λ o. done ++ o) (cond b (with_first word (joined_behind None words)) (cond (is_option word) (joined_behind (Some word) words) None))) whole)

unwhole : (done : List Text) (asked : Option Text) (word : Text) (words : List Text) (b : Bool) → asked ≡ None → is_whole word ≡ false → is_option word ≡ b
    → joined_from done asked (word ∷ words) ≡ option_map (λ o. done ++ o) (cond b (joined_behind (Some word) words) None)
unwhole done asked word words b is whole option =
    ap (λ a. joined_from done a (word ∷ words)) is
    ∙ ap (λ w. option_map (λ o. done ++ o) (cond w (with_first word (joined_behind None words)) (cond (is_option word) (joined_behind (Some word) words) None))) whole
    ∙ ap (λ o'. option_map (λ o. done ++ o) (cond o' (joined_behind (Some word) words) None)) option

-- it is an option that wants its value
pub took_option : (done : List Text) (asked : Option Text) (word : Text) (words : List Text) → asked ≡ None → is_whole word ≡ false → is_option word ≡ true
    → joined_from done (Some word) words ≡ joined_from done asked (word ∷ words)
took_option done asked word words is whole option = sym (unwhole done asked word words true is whole option)

-- it is none of these
pub refused_word : (done : List Text) (asked : Option Text) (word : Text) (words : List Text) → asked ≡ None → is_whole word ≡ false → is_option word ≡ false
    → joined_from done asked (word ∷ words) ≡ None
refused_word done asked word words is whole option = unwhole done asked word words false is whole option

pub refused_value : (done : List Text) (asked : Option Text) (option word : Text) (words : List Text) → asked ≡ Some option → is_value word ≡ false
    → joined_from done asked (word ∷ words) ≡ None
refused_value done asked option word words is value =
    ap (λ a. joined_from done a (word ∷ words)) is ∙ ap (λ b. option_map (λ o. done ++ o) (cond b (with_first (with_value option word) (joined_behind None words)) None)) value

-- nothing was joined yet
pub from_none : (rest : Option (List Text)) → option_map (λ o. [] ++ o) rest ≡ rest
from_none None = refl
from_none (Some o) = refl

-- no word is left behind the last
pub past_end : {X : Type 0} (xs : List X) (n : ℕ) → length xs ≤ n → drop n xs ≡ []
past_end [] zero h = refl
past_end [] (suc n) h = refl
past_end (x ∷ xs) zero h = absurd (omega arith)
past_end (x ∷ xs) (suc n) h = past_end xs n (omega arith)
