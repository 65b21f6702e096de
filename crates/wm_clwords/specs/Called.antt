-- The CALL that tokens and bytes are, by functions. `Call` says the same by relations, and the two are proved to agree.
use Rattle.std.specs.Prelude.{◌≡◌, ℕ, ◌≤◌, Bool, true, false, ◌&&◌, Option, Some, None, Result, Ok, Err, List, [], ◌∷◌, length, nat_eq, nat_le, codes, if◌then◌else◌}
use Rattle.std.specs.Cmp.Lexicographic.{pointwise}
use Rattle.std.specs.Option.{option_map, option_or}
use Rattle.wm_base.specs.Name.{IsName}
use Rattle.wm_base.specs.declared.qname.QName.{QName}
use Rattle.wm_clwords.specs.declared.called.CallText.{CallText}
use Rattle.wm_clwords.specs.declared.fault.ClFault.{ClFault}
use Rattle.wm_clwords.specs.declared.tree.Item.{Item}
use Rattle.wm_clwords.specs.Call.{SpellsCall, list_tokens, tokens_of}
use Rattle.wm_clwords.specs.CallReading.{program_by, reference_at}
use Rattle.wm_clwords.specs.CallText.{call_text}
use Rattle.wm_clwords.specs.Grammar.{Token, Blank, Comment, Word, Quoted, Key, Open, Close}
use Rattle.wm_clwords.specs.Printed.{AreTexts}
use Rattle.wm_clwords.specs.Verdict.{Command, verdict}

-- the characters of a value
abbrev pub value_text : Token → Option (List ℕ)
value_text (Word text) = Some text
value_text (Quoted text) = Some text
value_text (Key key) = None
value_text (Blank byte) = None
value_text (Comment text) = None
value_text Open = None
value_text Close = None

-- a list ends
abbrev pub is_close : Token → Bool
is_close Close = true
is_close (Word text) = false
is_close (Quoted text) = false
is_close (Key key) = false
is_close (Blank byte) = false
is_close (Comment text) = false
is_close Open = false

-- a list with this key begins
abbrev pub has_key : List ℕ → Token → Bool
has_key key (Key word) = pointwise nat_eq word key
has_key key (Word text) = false
has_key key (Quoted text) = false
has_key key (Blank byte) = false
has_key key (Comment text) = false
has_key key Open = false
has_key key Close = false

-- one token more in a list
abbrev pub with_token : Token → Option (List Token × List Token) → Option (List Token × List Token)
with_token token None = None
with_token token (Some cut) = Some (token ∷ cut.0, cut.1)

-- the tokens of a list up to the `)` that ends it, and the tokens behind it
abbrev pub to_close : List Token → Option (List Token × List Token)
to_close [] = None
to_close (token ∷ tokens) = if is_close token then Some ([], tokens) else with_token token (to_close tokens)

-- the tokens in the list that has this key, and the tokens behind the list
abbrev pub keyed_first : List ℕ → List Token → Option (List Token × List Token)
keyed_first key [] = None
keyed_first key (token ∷ tokens) = if has_key key token then to_close tokens else None

-- what is said, and the tokens behind it
abbrev pub before : {A : Type 0} → List Token → Option A → Option (A × List Token)
before tokens None = None
before tokens (Some said) = Some (said, tokens)

-- what the tokens in a list say, and the tokens behind the list
abbrev pub list_says : {A : Type 0} → (List Token → Option A) → Option (List Token × List Token) → Option (A × List Token)
list_says says None = None
list_says says (Some cut) = before cut.1 (says cut.0)

-- what is said, where no token is behind it
abbrev pub at_end : {A : Type 0} → Option (A × List Token) → Option A
at_end None = None
at_end (Some (said, [])) = Some said
at_end (Some (said, token ∷ tokens)) = None

-- the program that one token names
abbrev pub one_program : List Token → Option QName
one_program [] = None
one_program (token ∷ []) = program_by (reference_at token)
one_program (token ∷ next ∷ tokens) = None

-- one text more
abbrev pub with_text : Option (List ℕ) → Option (List (List ℕ)) → Option (List (List ℕ))
with_text None texts = None
with_text (Some text) None = None
with_text (Some text) (Some texts) = Some (text ∷ texts)

-- the characters of values, one after another
abbrev pub all_texts : List Token → Option (List (List ℕ))
all_texts [] = Some []
all_texts (token ∷ tokens) = with_text (value_text token) (all_texts tokens)

-- 1 to 40 texts
abbrev pub if_few : Option (List (List ℕ)) → Option (List (List ℕ))
if_few None = None
if_few (Some texts) = if nat_le 1 (length texts) && nat_le (length texts) 40 then Some texts else None

-- the characters of 1 to 40 values
abbrev pub parm_texts : List Token → Option (List (List ℕ))
parm_texts tokens = if_few (all_texts tokens)

-- the program of `PGM(q)`, and the tokens behind it
abbrev pub pgm_first : List Token → Option (QName × List Token)
pgm_first tokens = list_says one_program (keyed_first (codes "PGM") tokens)

-- the values of `PARM(t ..)`, and the tokens behind it
abbrev pub parm_first : List Token → Option (List (List ℕ) × List Token)
parm_first tokens = list_says parm_texts (keyed_first (codes "PARM") tokens)

-- the program without its key, and the tokens behind it
abbrev pub positional_first : List Token → Option (QName × List Token)
positional_first [] = None
positional_first (token ∷ tokens) = before tokens (program_by (reference_at token))

-- the program, with its key or without, and the tokens behind it
abbrev pub program_first : List Token → Option (QName × List Token)
program_first tokens = option_or (pgm_first tokens) (positional_first tokens)

-- the values of `PARM(t ..)` alone, or none where there is nothing
abbrev pub parms_last : List Token → Option (List (List ℕ))
parms_last [] = Some []
parms_last (token ∷ tokens) = at_end (parm_first (token ∷ tokens))

-- a program and its values
abbrev pub called_by : Option QName → Option (List (List ℕ)) → Option CallText
called_by None texts = None
called_by (Some pgm) None = None
called_by (Some pgm) (Some texts) = Some (record { pgm = pgm; parms = texts })

-- behind the program come its values, or nothing
abbrev pub program_then : Option (QName × List Token) → Option CallText
program_then None = None
program_then (Some first) = called_by (Some first.0) (parms_last first.1)

-- behind the values comes the program with its key
abbrev pub values_then : Option (List (List ℕ) × List Token) → Option CallText
values_then None = None
values_then (Some first) = called_by (at_end (pgm_first first.1)) (Some first.0)

-- the CALL that tokens are, those behind the word CALL
unfoldable pub call_of_tokens : List Token → Option CallText
call_of_tokens tokens = option_or (program_then (program_first tokens)) (values_then (parm_first tokens))

-- the CALL that items are, those behind the word CALL
abbrev pub call_of : List Item → Option CallText
call_of items = call_of_tokens (list_tokens items)

-- the CALL that a command is
abbrev pub call_of_command : Command → Option CallText
call_of_command command = if pointwise nat_eq command.0 (codes "CALL") then call_of_tokens (tokens_of command.1) else None

-- the CALL of what bytes are read as
abbrev pub call_of_verdict : Result Command ClFault → Option CallText
call_of_verdict (Ok command) = call_of_command command
call_of_verdict (Err fault) = None

-- what bytes call: the program and the values of the CALL that they are, and None where they are no CALL
unfoldable pub called : List ℕ → Option CallText
called bytes = call_of_verdict (verdict bytes)

-- the program that bytes call
unfoldable pub called_pgm : List ℕ → Option QName
called_pgm bytes = option_map (λ call. call.pgm) (called bytes)

abbrev pub parms_of : Option CallText → List (List ℕ)
parms_of None = []
parms_of (Some call) = call.parms

-- the values that they call it with, none where they are no CALL
unfoldable pub called_parms : List ℕ → List (List ℕ)
called_parms bytes = parms_of (called bytes)

-- what bytes call is a CALL that they spell
abbrev pub CalledIsSpelled : Type 0
CalledIsSpelled = (bytes : List ℕ) (call : CallText) → called bytes ≡ Some call → SpellsCall bytes call.pgm call.parms

-- each CALL that bytes spell is what they call
abbrev pub SpelledIsCalled : Type 0
SpelledIsCalled = (bytes : List ℕ) (pgm : QName) (parms : List (List ℕ)) → SpellsCall bytes pgm parms → called bytes ≡ Some (record { pgm = pgm; parms = parms })

-- the canonical text of a CALL with at most 40 values calls its program with these values, where it has at most 8,192 bytes
abbrev pub PrintedCallIsCalled : Type 0
PrintedCallIsCalled = (pgm : QName) (parms : List (List ℕ)) → IsName pgm.lib → IsName pgm.name → AreTexts parms → length parms ≤ 40 → length (call_text pgm parms) ≤ 8192
    → called (call_text pgm parms) ≡ Some (record { pgm = pgm; parms = parms })

-- the program has names, and the values are at most 40 texts
pub record IsGoodCall (call : CallText) : Type 0 where
  pub lib : IsName call.pgm.lib
  pub name : IsName call.pgm.name
  pub texts : AreTexts call.parms
  pub few : length call.parms ≤ 40

-- what bytes call is good
abbrev pub CalledIsGood : Type 0
CalledIsGood = (bytes : List ℕ) (call : CallText) → called bytes ≡ Some call → IsGoodCall call
