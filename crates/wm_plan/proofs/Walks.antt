-- The walk of `clap` over options with their values: each is a row more, or a fault.
use Rattle.std.proofs.Common.{◌≡◌, ◌∙◌, Bool, true, false, not, cond, ◌&&◌, ◌||◌, List, [], ◌∷◌, ◌++◌, map, Some, None, refl, ap, sym}
use Rattle.std.specs.List.{fold, list_all}
use Rattle.std.specs.Str.{bytes_eq}
use Rattle.std.proofs.lemmas.Bool.{and_parts, false≢true}
use Rattle.std.proofs.lemmas.List.{append-nil, append_assoc, map-append}
use Rattle.clap.specs.Lexer.{long_of}
use Rattle.clap.specs.Walk.{more_values, Held, Row, Text, Walk, after_flag, after_step, at_row, has_row, idle, is_empty, long_met, long_or_other, reading_by, trailing, used, walk_from, walked}
use Rattle.clap.specs.Kinds.{Kinds, or_else}
use Rattle.clap.specs.Faults.{flag_word_fault, long_fault, step_fault, turn_fault, walk_fault}
use Rattle.clap.proofs.SimpleLemmas.{is_nil}
use Rattle.clap.specs.declared.error.kind.ErrorKind.TheVariants as kind
use Rattle.clap.specs.declared.parser.matches.ValueSource.TheVariants.{CommandLine}
use Rattle.wm_plan.specs.Options.{are_given, is_given, is_named, is_whole, name_in, value_in}
use Rattle.wm_plan.proofs.Flat.{flat, full, named_arg}
use Rattle.wm_plan.proofs.Shapes.{IsLong, whole_is_long}

-- the row of an option
abbrev pub row : Text → Row
row option = record {
  id = name_in option;
  values = value_in option ∷ [];
  count = None;
  source = Some CommandLine;
  reading = reading_by (full []);
}

-- the walk between two options
abbrev pub here : List Row → Held
here rows = record { rows = rows; pending = None; skip = 0 }

abbrev pub between : List Row → Walk
between rows = walk_from (here rows)

pub given_row : (name : Text) (options : List Text) → has_row name (map row options) ≡ is_given name options
given_row name [] = refl
given_row name (option ∷ options) = ap (λ b. bytes_eq (name_in option) name || b) (given_row name options)

-- a row of a new name stands behind the others
at_none : (b : Bool) (name : Text) (change : Row → List Row) (missing : List Row) (r : Row) (rs : List Row) → bytes_eq r.id name ≡ b
    → (b || has_row name rs) ≡ false → at_row name change missing rs ≡ rs ++ missing → cond b (change r ++ rs) (r ∷ at_row name change missing rs) ≡ r ∷ rs ++ missing
at_none true name change missing r rs same none rest = absurd (false≢true (sym none))
at_none false name change missing r rs same none rest = ap (λ l. r ∷ l) rest

not_first : (b c : Bool) → (b || c) ≡ false → c ≡ false
not_first true c none = absurd (false≢true (sym none))
not_first false c none = none

at_new : (name : Text) (change : Row → List Row) (missing : List Row) (rows : List Row) → has_row name rows ≡ false → at_row name change missing rows ≡ rows ++ missing
at_new name change missing [] none = refl
at_new name change missing (r ∷ rs) none = at_none (bytes_eq r.id name) name change missing r rs refl none
    (at_new name change missing rs (not_first (bytes_eq r.id name) _ none))

used_new : (option : Text) (rows : List Row) → has_row (name_in option) rows ≡ false
    → used (full (name_in option)) (value_in option ∷ []) rows ≡ rows ++ row option ∷ []
used_new option rows none =
    let without = at_new (name_in option) (λ _. []) [] rows none ∙ append-nil rows in
    let change = more_values CommandLine (value_in option ∷ []) in
    ap (at_row (name_in option) change (row option ∷ [])) without ∙ at_new (name_in option) change (row option ∷ []) rows none

-- one option more

met_by : (names : List Text) (rows : List Row) (option : Text) → IsLong option
    → walked (map full names) [] (between rows) option
    ≡ (let m = long_met (map full names) (cond (is_named (name_in option) names) (Some (full (name_in option))) None) (Some (value_in option)) (here rows) in
    let met = after_flag (map full names) idle option m.0 m.1 in after_step (map full names) option (between rows) met.0 met.1)
unfolding walked
met_by names rows option long =
    let c = map full names in
    ap (λ b. let met = cond b (here rows, trailing 1) (long_or_other c idle option (long_of option) (here rows)) in after_step c option (between rows) met.0 met.1) long.no_end
    ∙ ap (λ l. let met = long_or_other c idle option l (here rows) in after_step c option (between rows) met.0 met.1) long.long
    ∙ ap (λ r. let m = long_met c r (Some (value_in option)) (here rows) in let met = after_flag c idle option m.0 m.1 in after_step c option (between rows) met.0 met.1) (named_arg names (name_in option))

pub one_more : (names done : List Text) (option : Text) → IsLong option → is_named (name_in option) names ≡ true → is_given (name_in option) done ≡ false
    → walked (map full names) [] (between (map row done)) option ≡ between (map row (done ++ option ∷ []))
one_more names done option long named new =
    let c = map full names in
    let rows = map row done in
    met_by names rows option long
    ∙ ap (λ b. let m = long_met c (cond b (Some (full (name_in option))) None) (Some (value_in option)) (here rows) in
    let met = after_flag c idle option m.0 m.1 in after_step c option (between rows) met.0 met.1) named
    ∙ ap between (used_new option rows (given_row (name_in option) done ∙ new) ∙ sym (map-append row done (option ∷ [])))

-- its fault

faults_by : (names : List Text) (rows : List Row) (option : Text) → IsLong option
    → turn_fault (flat (map full names)) [] (between rows) option
    ≡ (let r = cond (is_named (name_in option) names) (Some (full (name_in option))) None in
    let m = long_met (map full names) r (Some (value_in option)) (here rows) in
    let met = after_flag (map full names) idle option m.0 m.1 in
    or_else (long_fault (map full names) false r (Some (value_in option)) (here rows)) (step_fault (flat (map full names)) 1 met.0 met.1))
faults_by names rows option long =
    let c = map full names in
    ap (λ b. let met = cond b (here rows, trailing 1) (long_or_other c idle option (long_of option) (here rows)) in
    or_else (cond b [] (flag_word_fault c false (long_of option) option (here rows))) (step_fault (flat c) 1 met.0 met.1)) long.no_end
    ∙ ap (λ l. let met = long_or_other c idle option l (here rows) in
    or_else (flag_word_fault c false l option (here rows)) (step_fault (flat c) 1 met.0 met.1)) long.long
    ∙ ap (λ r. let m = long_met c r (Some (value_in option)) (here rows) in let met = after_flag c idle option m.0 m.1 in
    or_else (long_fault c false r (Some (value_in option)) (here rows)) (step_fault (flat c) 1 met.0 met.1)) (named_arg names (name_in option))

faulty_as : (names : List Text) (rows : List Row) (option : Text) (named given : Bool) → has_row (name_in option) rows ≡ given
    → is_empty (let r = cond named (Some (full (name_in option))) None in
    let m = long_met (map full names) r (Some (value_in option)) (here rows) in
    let met = after_flag (map full names) idle option m.0 m.1 in
    or_else (long_fault (map full names) false r (Some (value_in option)) (here rows)) (step_fault (flat (map full names)) 1 met.0 met.1)) ≡ (named && not given)
faulty_as names rows option false given is = refl
faulty_as names rows option true true is = ap (λ g. is_empty (or_else (or_else (cond (g && true) (kind.ArgumentConflict ∷ []) []) []) [])) is
faulty_as names rows option true false is = ap (λ g. is_empty (or_else (or_else (cond (g && true) (kind.ArgumentConflict ∷ []) []) []) [])) is

-- an option has no fault where it is one of the names, and stands for the first time
pub option_fault : (names done : List Text) (option : Text) → IsLong option
    → is_empty (turn_fault (flat (map full names)) [] (between (map row done)) option) ≡ (is_named (name_in option) names && not (is_given (name_in option) done))
option_fault names done option long = ap is_empty (faults_by names (map row done) option long)
    ∙ faulty_as names (map row done) option (is_named (name_in option) names) (is_given (name_in option) done) (given_row (name_in option) done)

-- all options

pub nothing : {X : Type 0} (xs : List X) → is_empty xs ≡ true → xs ≡ []
nothing xs none = is_nil xs none

pub faults_stay : (a b : Kinds) → is_empty a ≡ false → is_empty (or_else a b) ≡ false
faults_stay [] b some = absurd (false≢true (sym some))
faults_stay (k ∷ ks) b some = some

not_true : (b : Bool) → not b ≡ true → b ≡ false
not_true true h = absurd (false≢true h)
not_true false h = refl

-- the walk behind options that are given
pub given_walk : (names done options : List Text) → list_all is_whole options ≡ true → are_given names done options ≡ true
    → fold (walked (map full names) []) (between (map row done)) options ≡ between (map row (done ++ options))
given_walk names done [] whole given = ap (λ l. between (map row l)) (sym (append-nil done))
given_walk names done (option ∷ options) whole given =
    let long = whole_is_long option (and_parts (is_whole option) (list_all is_whole options) whole).0 in
    let rest = (and_parts (is_whole option) (list_all is_whole options) whole).1 in
    let first = and_parts (is_named (name_in option) names && not (is_given (name_in option) done)) _ given in
    let own = and_parts (is_named (name_in option) names) (not (is_given (name_in option) done)) first.0 in
    ap (λ w. fold (walked (map full names) []) w options) (one_more names done option long own.0 (not_true _ own.1))
    ∙ given_walk names (done ++ option ∷ []) options rest first.1
    ∙ ap (λ l. between (map row l)) (append_assoc done (option ∷ []) options)

walk_first : (names : List Text) (rows : List Row) (option : Text) (options : List Text)
    → walk_fault (flat (map full names)) [] (between rows) (option ∷ options)
    ≡ or_else (turn_fault (flat (map full names)) [] (between rows) option) (walk_fault (flat (map full names)) [] (walked (map full names) [] (between rows) option) options)
unfolding walk_fault
walk_first names rows option options = refl

no_words : (names : List Text) (rows : List Row) → walk_fault (flat (map full names)) [] (between rows) [] ≡ []
unfolding walk_fault
no_words names rows = refl

-- the first option of them, and then the others
first_fault : (names done : List Text) (option : Text) (options : List Text) → IsLong option
    → is_empty (walk_fault (flat (map full names)) [] (between (map row (done ++ option ∷ []))) options) ≡ are_given names (done ++ option ∷ []) options
    → (b : Bool) → (is_named (name_in option) names && not (is_given (name_in option) done)) ≡ b
    → is_empty (or_else (turn_fault (flat (map full names)) [] (between (map row done)) option)
    (walk_fault (flat (map full names)) [] (walked (map full names) [] (between (map row done)) option) options))
    ≡ ((is_named (name_in option) names && not (is_given (name_in option) done)) && are_given names (done ++ option ∷ []) options)
first_fault names done option options long rest true is =
    let own = and_parts (is_named (name_in option) names) (not (is_given (name_in option) done)) is in
    ap (λ k. is_empty (or_else k (walk_fault (flat (map full names)) [] (walked (map full names) [] (between (map row done)) option) options)))
    (nothing _ (option_fault names done option long ∙ is))
    ∙ ap (λ w. is_empty (walk_fault (flat (map full names)) [] w options)) (one_more names done option long own.0 (not_true _ own.1))
    ∙ rest
    ∙ sym (ap (λ b. b && are_given names (done ++ option ∷ []) options) is)
first_fault names done option options long rest false is =
    faults_stay _ _ (option_fault names done option long ∙ is)
    ∙ sym (ap (λ b. b && are_given names (done ++ option ∷ []) options) is)

-- the walk has no fault where they are given
pub given_fault : (names done options : List Text) → list_all is_whole options ≡ true
    → is_empty (walk_fault (flat (map full names)) [] (between (map row done)) options) ≡ are_given names done options
given_fault names done [] whole = ap is_empty (no_words names (map row done))
given_fault names done (option ∷ options) whole =
    let parts = and_parts (is_whole option) (list_all is_whole options) whole in
    ap is_empty (walk_first names (map row done) option options)
    ∙ first_fault names done option options (whole_is_long option parts.0) (given_fault names (done ++ option ∷ []) options parts.1) _ refl
