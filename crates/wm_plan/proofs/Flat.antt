-- The command that `clap` is told, as it builds it: each option takes one value, and there is nothing else.
use Rattle.std.proofs.Common.{◌≡◌, ◌∙◌, ℕ, Bool, true, false, not, cond, codes, ◌&&◌, ◌||◌, List, [], ◌∷◌, ◌++◌, map, Option, Some, None, refl, ap, sym}
use Rattle.std.specs.List.{count_by, find, fold, list_all, list_any}
use Rattle.std.specs.Prelude.{is_some}
use Rattle.std.specs.Str.{bytes_eq}
use Rattle.std.proofs.lemmas.Bool.{and_from}
use Rattle.std.proofs.lemmas.List.{append-nil, append_assoc, map-append}
use Rattle.std.proofs.lemmas.Slice.Eq.{bytes_eq-Decides}
use Rattle.clap.specs.Walk.{Row, Rule, Text, arg_by_long, has_row, is_early_multiple, with_default}
use Rattle.clap.specs.Simple.{App, Shape, built, filled, filled_from, is_ready, is_ready_leaf, is_simple, new_shape, with_rule}
use Rattle.clap.specs.Takes.{is_given as has_given}
use Rattle.clap.specs.Kinds.{check_kinds, or_else}
use Rattle.clap.specs.Faults.{check_fault, default_fault, defaults_fault, is_free_app, is_simple_and_free}
use Rattle.wm_plan.specs.Options.{is_named}
use Rattle.wm_plan.specs.Told.{command_app, option_rule}

-- an option once it is built
abbrev pub full : Text → Rule
full name = filled (option_rule name)

-- a command with these rules once it is built
abbrev pub flat : List Rule → Shape
flat rules = record (new_shape (codes "wrkmgr")) {
  rules = rules;
  no_binary_name = true;
  disable_help_flag = true;
  disable_help_subcommand = true;
  is_built = true;
}

abbrev pub flat_app : List Rule → App
flat_app rules = record { top = flat rules; subs = [] }

filled_all : (names : List Text) (i : ℕ) → filled_from i (map option_rule names) ≡ map full names
filled_all [] i = refl
filled_all (name ∷ names) i = ap (λ rules. full name ∷ rules) (filled_all names i)

pub built_is : (names : List Text) → built (command_app names) ≡ flat_app (map full names)
built_is names = ap flat_app (filled_all names 1)

-- what holds of each rule

all_rules : (p : Rule → Bool) (f : Text → Rule) → ((name : Text) → p (f name) ≡ true) → (names : List Text) → list_all p (map f names) ≡ true
all_rules p f each [] = refl
all_rules p f each (name ∷ names) = and_from (p (f name)) (list_all p (map f names)) (each name) (all_rules p f each names)

no_rules : (p : Rule → Bool) (f : Text → Rule) → ((name : Text) → p (f name) ≡ false) → (names : List Text) → list_any p (map f names) ≡ false
no_rules p f each [] = refl
no_rules p f each (name ∷ names) = ap (λ b. b || list_any p (map f names)) (each name) ∙ no_rules p f each names

none_found : (p : Rule → Bool) → ((name : Text) → p (full name) ≡ false) → (names : List Text) → find p (map full names) ≡ None
none_found p each [] = refl
none_found p each (name ∷ names) = ap (λ b. cond b (Some (full name)) (find p (map full names))) (each name) ∙ none_found p each names

ready : (names : List Text) → (is_ready (flat (map full names)) && true) ≡ true
ready names = and_from (is_ready (flat (map full names))) true
    (and_from (true && list_all (λ a. a.is_simple) (map full names)) _ (all_rules (λ a. a.is_simple) full (λ name. refl) names)
    (ap not (no_rules (is_early_multiple (count_by (λ a. is_some a.index) (map full names))) full (λ name. refl) names)))
    refl

simple_app : (names : List Text) → is_simple (command_app names) ≡ true
simple_app names = and_from ((true && list_all (λ a. a.is_simple) (map option_rule names)) && true) _
    (and_from (true && list_all (λ a. a.is_simple) (map option_rule names)) true (all_rules (λ a. a.is_simple) option_rule (λ name. refl) names) refl)
    (ap (λ (a : App). is_ready a.top && list_all is_ready_leaf a.subs) (built_is names) ∙ ready names)

free_app : (names : List Text) → is_free_app (built (command_app names)) ≡ true
free_app names = ap is_free_app (built_is names)
    ∙ and_from (list_all (λ a. a.is_free) (map full names)) true (all_rules (λ a. a.is_free) full (λ name. refl) names) refl

-- the command is one of which `clap` tells everything
pub told_app : (names : List Text) → is_simple_and_free (command_app names) ≡ true
told_app names = and_from (is_simple (command_app names)) _ (simple_app names) (free_app names)

pub told_simple : (names : List Text) → is_simple (command_app names) ≡ true
told_simple names = simple_app names

-- the option of a name
named_first : (b : Bool) (other name : Text) (found : Option Rule) (more : Bool) → bytes_eq other name ≡ b → found ≡ cond more (Some (full name)) None
    → cond (b || false) (Some (full other)) found ≡ cond (b || more) (Some (full name)) None
named_first true other name found more same rest = ap (λ t. Some (full t)) ((bytes_eq-Decides other name).0 same)
named_first false other name found more same rest = rest

pub named_arg : (names : List Text) (name : Text) → arg_by_long (map full names) name ≡ cond (is_named name names) (Some (full name)) None
named_arg [] name = refl
named_arg (other ∷ names) name = named_first (bytes_eq other name) other name _ (is_named name names) refl (named_arg names name)

-- after the walk: no option has a default or is required

kept : (b : Bool) (rows : List Row) → cond b rows rows ≡ rows
kept true rows = refl
kept false rows = refl

pub no_default : (rows : List Row) (names : List Text) → fold with_default rows (map full names) ≡ rows
no_default rows [] = refl
no_default rows (name ∷ names) = ap (λ r. fold with_default r (map full names)) (kept (has_row name rows) rows) ∙ no_default rows names

none_due : (rows : List Row) (name : Text) → default_fault rows (full name) ≡ []
none_due rows name = go (has_row name rows)
  where
    go : (b : Bool) → cond (b || true) [] (default_fault [] (full name)) ≡ []
    go true = refl
    go false = refl

pub no_default_fault : (rows : List Row) (names : List Text) → defaults_fault rows (map full names) ≡ []
unfolding defaults_fault
no_default_fault rows [] = refl
no_default_fault rows (name ∷ names) = ap (λ k. or_else k (defaults_fault (with_default rows (full name)) (map full names))) (none_due rows name)
    ∙ ap (λ r. defaults_fault r (map full names)) (kept (has_row name rows) rows) ∙ no_default_fault rows names

pub no_check_fault : (rows : List Row) (names : List Text) → check_fault (flat (map full names)) rows false ≡ []
no_check_fault rows names = ap (λ b. check_kinds false false (true && b)) (no_rules (λ a. a.required && not (has_given a.id rows)) full (λ name. refl) names)

-- one option after another

abbrev pub told : App → Text → App
told a name = with_rule a (option_rule name)

abbrev with_rules : List Rule → App
with_rules rules = record {
  top = record (new_shape (codes "wrkmgr")) { rules = rules; no_binary_name = true; disable_help_flag = true };
  subs = [];
}

pub told_all : (before names : List Text) → fold told (command_app before) names ≡ command_app (before ++ names)
told_all before [] = ap command_app (sym (append-nil before))
told_all before (name ∷ names) = ap (λ rules. fold told (with_rules rules) names) (sym (map-append option_rule before (name ∷ [])))
    ∙ told_all (before ++ name ∷ []) names ∙ ap command_app (append_assoc before (name ∷ []) names)
