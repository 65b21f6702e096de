-- What the items of a CALL are.
use Rattle.std.specs.Prelude.{◌≡◌, ◌⊎◌, ℕ, ◌≤◌, List, [], ◌∷◌, ◌++◌, length, map, nat_eq, codes, if◌then◌else◌}
use Rattle.std.specs.Cmp.Lexicographic.{pointwise}
use Rattle.wm_base.specs.Name.{IsName}
use Rattle.wm_base.specs.QName.{qname_text}
use Rattle.wm_base.specs.declared.qname.QName.{QName}
use Rattle.wm_clwords.specs.declared.tree.Item.{Item}
use Rattle.wm_clwords.specs.Faults.{IsCommand}
use Rattle.wm_clwords.specs.Grammar.{Token, Blank, Comment, Word, Quoted, Key, Open, Close, Mark}
use Rattle.wm_clwords.specs.Items.{item_marks, list_marks}

-- the tokens of marks, without their places
abbrev pub token_of : Mark → Token
token_of mark = mark.token

abbrev pub tokens_of : List Mark → List Token
tokens_of marks = map token_of marks

abbrev pub item_tokens : Item → List Token
item_tokens item = tokens_of (item_marks item)

abbrev pub list_tokens : List Item → List Token
list_tokens items = tokens_of (list_marks items)

-- a word or a text in apostrophes has these characters
abbrev pub IsValue : Token → List ℕ → Type 0
IsValue (Word bytes) text = bytes ≡ text
IsValue (Quoted bytes) text = bytes ≡ text
IsValue (Key bytes) text = ⊥
IsValue (Blank byte) text = ⊥
IsValue (Comment bytes) text = ⊥
IsValue Open text = ⊥
IsValue Close text = ⊥

-- one after another
abbrev pub AreValues : List Token → List (List ℕ) → Type 0
AreValues [] [] = Unit {0}
AreValues [] (text ∷ texts) = ⊥
AreValues (token ∷ tokens) [] = ⊥
AreValues (token ∷ tokens) (text ∷ texts) = IsValue token text × AreValues tokens texts

-- a name alone, whose library is the one given, or a name behind its library
abbrev pub IsPlain : List ℕ → List ℕ → QName → Type 0
IsPlain library text q = IsName q.name × (((text ≡ q.name) × (q.lib ≡ library)) ⊎ (IsName q.lib × (text ≡ qname_text q)))

-- a word may have *LIBL for the library, which is QGPL then
abbrev pub IsReference : List ℕ → Token → QName → Type 0
IsReference library (Word text) q = IsPlain library text q ⊎ (IsName q.name × (text ≡ codes "*LIBL/" ++ q.name) × (q.lib ≡ codes "QGPL"))
IsReference library (Quoted text) q = IsPlain library text q
IsReference library (Key bytes) q = ⊥
IsReference library (Blank byte) q = ⊥
IsReference library (Comment bytes) q = ⊥
IsReference library Open q = ⊥
IsReference library Close q = ⊥

-- the reference of an object: a name alone is in QGPL
abbrev pub IsObject : Token → QName → Type 0
IsObject token q = IsReference (codes "QGPL") token q

-- QCMD alone is in QSYS
abbrev pub program_library : List ℕ → List ℕ
program_library name = if pointwise nat_eq name (codes "QCMD") then codes "QSYS" else codes "QGPL"

-- the reference of a program
abbrev pub IsProgram : Token → QName → Type 0
IsProgram token q = IsReference (program_library q.name) token q

-- one token, of which this holds
abbrev pub IsOne : (Token → Type 0) → List Token → Type 0
IsOne P tokens = (token : Token) × (tokens ≡ token ∷ []) × P token

-- a key with a list, of whose tokens this holds
abbrev pub IsKeyed : List ℕ → (List Token → Type 0) → List Token → Type 0
IsKeyed key P tokens = (values : List Token) × (tokens ≡ Key key ∷ values ++ Close ∷ []) × P values

-- the program without its key
abbrev pub IsPositional : List Token → QName → Type 0
IsPositional tokens pgm = IsOne (λ token. IsProgram token pgm) tokens

-- `PGM(q)`
abbrev pub IsPgm : List Token → QName → Type 0
IsPgm tokens pgm = IsKeyed (codes "PGM") (λ values. IsPositional values pgm) tokens

-- `PARM(t ..)`
abbrev pub IsParm : List Token → List (List ℕ) → Type 0
IsParm tokens parms = IsKeyed (codes "PARM") (λ values. AreValues values parms × (1 ≤ length parms) × (length parms ≤ 40)) tokens

-- `PARM(t ..)` or nothing
abbrev pub IsParms : List Token → List (List ℕ) → Type 0
IsParms tokens parms = ((tokens ≡ []) × (parms ≡ [])) ⊎ IsParm tokens parms

-- the tokens behind the word CALL: the program, with its key or without, and the values; or the values, and the program with its key
pub record IsCall (tokens : List Token) (pgm : QName) (parms : List (List ℕ)) : Type 0 where
  pub front : List Token
  pub back : List Token
  pub whole : tokens ≡ front ++ back
  pub parts : ((IsPositional front pgm ⊎ IsPgm front pgm) × IsParms back parms) ⊎ (IsParm front parms × IsPgm back pgm)

-- the bytes are a CALL command
pub record SpellsCall (bytes : List ℕ) (pgm : QName) (parms : List (List ℕ)) : Type 0 where
  pub marks : List Mark
  pub command : IsCommand bytes (codes "CALL") marks
  pub call : IsCall (tokens_of marks) pgm parms
