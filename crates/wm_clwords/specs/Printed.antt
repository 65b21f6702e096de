-- The text that is printed of a CALL is that CALL.
use Rattle.std.specs.Prelude.{ℕ, ◌≤◌, List, [], ◌∷◌, length}
use Rattle.wm_base.specs.Name.{IsName}
use Rattle.wm_base.specs.Text.{IsText}
use Rattle.wm_base.specs.declared.qname.QName.{QName}
use Rattle.wm_clwords.specs.Call.{SpellsCall}
use Rattle.wm_clwords.specs.CallText.{call_text}

abbrev pub AreTexts : List (List ℕ) → Type 0
AreTexts [] = Unit {0}
AreTexts (text ∷ texts) = IsText text × AreTexts texts

-- the canonical text of a CALL with at most 40 values spells that CALL, where it has at most 8,192 bytes
abbrev pub PrintedCallIsSpelled : Type 0
PrintedCallIsSpelled = (pgm : QName) (parms : List (List ℕ)) → IsName pgm.lib → IsName pgm.name → AreTexts parms → length parms ≤ 40 → length (call_text pgm parms) ≤ 8192
    → SpellsCall (call_text pgm parms) pgm parms
