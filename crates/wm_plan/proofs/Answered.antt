-- What `clap` answers on options with their values.
use Rattle.std.proofs.Common.{◌≡◌, ◌⊎◌, ◌∙◌, Bool, true, false, List, [], ◌∷◌, map, Option, Some, None, refl, ap, sym, inl, inr}
use Rattle.std.specs.List.{find, list_all}
use Rattle.std.specs.Option.{option_map}
use Rattle.std.specs.Prelude.{option_and_then, slice_get}
use Rattle.std.specs.Str.{bytes_eq}
use Rattle.clap.specs.Walk.{Row, Text, first_of, finished, nothing_held, rows_after, settled}
use Rattle.clap.specs.Walk.{is_empty}
use Rattle.clap.specs.Simple.{App, matches_of, names_of}
use Rattle.clap.specs.Kinds.{IsAmong, Kinds, or_else}
use Rattle.clap.specs.declared.error.kind.ErrorKind.{ErrorKind}
use Rattle.clap.specs.declared.error.kind.ErrorKind.TheVariants.{OutOfMemory}
use Rattle.clap.specs.Faults.{built_fault, check_fault, defaults_fault, fault_of, level_fault, settle_fault, walk_fault}
use Rattle.clap.proofs.FaultLemmas.{leaf_fault, past}
use Rattle.clap.proofs.WalkLemmas.{find-map}
use Rattle.wm_plan.specs.Options.{are_given, is_whole, name_in, value_in, value_of}
use Rattle.wm_plan.specs.Told.{command_app}
use Rattle.wm_plan.proofs.Flat.{built_is, flat, flat_app, full, no_check_fault, no_default, no_default_fault}
use Rattle.wm_plan.proofs.Walks.{between, faults_stay, given_fault, given_walk, nothing, row}

-- the level has no fault where the options are given
level_is : (names options : List Text) → list_all is_whole options ≡ true → (b : Bool) → are_given names [] options ≡ b
    → is_empty (level_fault (flat (map full names)) [] nothing_held options false []) ≡ b
level_is names options whole false is = faults_stay _ _ (given_fault names [] options whole ∙ is)
level_is names options whole true is =
    let c = map full names in
    ap is_empty (
    past (walk_fault (flat c) [] (between []) options) _ (nothing _ (given_fault names [] options whole ∙ is))
    ∙ ap (λ w. or_else (settle_fault c false w.held) (or_else (defaults_fault (settled c w.held).rows c) (check_fault (flat c) (finished c w.held) false)))
    (given_walk names [] options whole is)
    ∙ past (defaults_fault (map row options) c) _ (no_default_fault (map row options) names)
    ∙ no_check_fault _ names)

-- no kind of fault comes exactly where the options are given
pub fault_is : (names options : List Text) → list_all is_whole options ≡ true → is_empty (fault_of (command_app names) options) ≡ are_given names [] options
fault_is names options whole = ap (λ (a : App). is_empty (built_fault a nothing_held options)) (built_is names)
    ∙ ap is_empty (leaf_fault (flat_app (map full names)) nothing_held options refl)
    ∙ level_is names options whole (are_given names [] options) refl

-- the rows are those of the options
pub rows_are : (names options : List Text) → list_all is_whole options ≡ true → are_given names [] options ≡ true
    → matches_of (command_app names) options ≡ map row options
rows_are names options whole given = ap (λ (a : App). rows_after a.top.rules (names_of a) options) (built_is names)
    ∙ ap (λ w. finished (map full names) w.held) (given_walk names [] options whole given)
    ∙ no_default (map row options) names

-- the first value of a name is that of its option
pub first_is : (name : Text) (options : List Text) → first_of name (map row options) ≡ value_of name options
first_is name options = ap (option_and_then (λ (r : Row). slice_get r.values 0)) (sym (find-map (λ (r : Row). bytes_eq r.id name) row options))
    ∙ go (find (λ option. bytes_eq (name_in option) name) options)
  where
    go : (o : Option Text) → option_and_then (λ (r : Row). slice_get r.values 0) (option_map row o) ≡ option_map value_in o
    go None = refl
    go (Some option) = refl

some_kinds : (k : ErrorKind) (kinds : Kinds) (b : Bool) → is_empty (k ∷ kinds) ≡ b → b ≡ false
some_kinds k kinds true is =
    let none = nothing (k ∷ kinds) is in
    absurd (cc)
some_kinds k kinds false is = refl

-- a kind that isn't want of memory says that they aren't given
pub not_given : (k : ErrorKind) (kinds : Kinds) → (k ≡ OutOfMemory) ⊎ IsAmong k kinds → (k ≡ OutOfMemory → ⊥) → is_empty kinds ≡ false
not_given k kinds (inl memory) other = absurd (other memory)
not_given k [] (inr among) other = absurd among
not_given k (first ∷ kinds) (inr among) other = some_kinds first kinds (is_empty (first ∷ kinds)) refl
