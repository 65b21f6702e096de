-- The state of the definition that a reader stands for.
use Rattle.std.specs.Prelude.{◌≡◌, ◌≢◌, ℕ, Bool, List, ◌++◌, Result, Ok, Err, MatchResult, nat_le}
use Rattle.std.specs.List.{list_all}
use Rattle.wm_clwords.specs.declared.reader.Reader.{Reader}
use Rattle.wm_clwords.specs.declared.fault.ClFault.{ClFault}
use Rattle.wm_clwords.specs.declared.fault.ClFault.TheVariants.{NoMemory}
use Rattle.wm_clwords.specs.Grammar.{Mark}
use Rattle.wm_clwords.specs.Reading.{State, Went}
use Rattle.wm_clwords.specs.Levels.{level_marks, level_opens}

abbrev pub state_of : Reader → State
state_of reader = record { mode = reader.mode; start = reader.start; held = reader.held; opens = level_opens reader.levels }

abbrev pub marks_of : Reader → List Mark
marks_of reader = level_marks reader.levels

-- the marks before those of a step
abbrev pub with_marks : List Mark → Went → Went
with_marks marks (Ok went) = Ok (went.0, marks ++ went.1)
with_marks marks (Err fault) = Err fault

-- the reader went where the definition does, or memory ran out
abbrev pub Goes : {T : Type 0} → Reader → Result T ClFault → Reader → Went → Type 0
Goes old result new went =
    MatchResult result (λ _. with_marks (marks_of old) went ≡ Ok (state_of new, marks_of new)) (λ e. e ≢ NoMemory → went ≡ Err e)

-- what began stands before the place
abbrev pub is_behind : ℕ → List ℕ → Bool
is_behind place opens = list_all (λ opening. nat_le opening place) opens
