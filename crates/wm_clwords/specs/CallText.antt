-- The canonical text of a CALL.
use Rattle.std.specs.Prelude.{ℕ, List, [], ◌∷◌, ◌++◌, codes}
use Rattle.std.specs.List.{flat_map}
use Rattle.wm_base.specs.QName.{qname_text}
use Rattle.wm_base.specs.declared.qname.QName.{QName}
use Rattle.wm_clwords.specs.Quote.{quoted}

-- a value after the first, with the blank before it
abbrev pub next_value : List ℕ → List ℕ
next_value parm = 32 ∷ quoted parm

-- the values in apostrophes, with one blank between two
abbrev pub values_text : List (List ℕ) → List ℕ
values_text [] = []
values_text (parm ∷ parms) = quoted parm ++ flat_map next_value parms

-- what follows the program: nothing where there are no values
abbrev pub parms_text : List (List ℕ) → List ℕ
parms_text [] = []
parms_text (parm ∷ parms) = codes " PARM(" ++ values_text (parm ∷ parms) ++ codes ")"

-- `CALL PGM(LIB/NAME)` and the values
abbrev pub call_text : QName → List (List ℕ) → List ℕ
call_text pgm parms = codes "CALL PGM(" ++ qname_text pgm ++ codes ")" ++ parms_text parms
