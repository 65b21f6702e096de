-- Where bytes stop to spell a command.
use Rattle.std.specs.Prelude.{◌≡◌, ◌≢◌, ◌⊎◌, ℕ, List, [], ◌∷◌, ◌++◌, length, take, ◌+◌, ◌<◌, ◌≤◌, IsTrue, slice_index}
use Rattle.std.specs.List.{list_all, flat_map}
use Rattle.wm_base.specs.Text.{IsText}
use Rattle.wm_base.specs.Name.{IsName}
use Rattle.wm_clwords.specs.Quote.{doubled}
use Rattle.wm_clwords.specs.Grammar.{Token, Blank, Comment, Word, Quoted, Key, Open, Close, spelling, is_word, is_comment_byte, is_unended, is_token, Next, Anything, ByQuoted, next_of, may_come, Mark, Spells}
use Rattle.wm_clwords.specs.declared.fault.ClFault.{ClFault}
use Rattle.wm_clwords.specs.declared.fault.ClFault.TheVariants.{Empty, BadName, OpenQuote, OpenParen, StrayParen, OpenComment, TooLong, BadByte, TooDeep, NoMemory}

-- the places of the open lists behind a token, the innermost first
abbrev pub OpensAt : ℕ → List ℕ → Token → List ℕ → Type 0
OpensAt place before (Blank byte) after = after ≡ before
OpensAt place before (Comment text) after = after ≡ before
OpensAt place before (Word bytes) after = after ≡ before
OpensAt place before (Quoted text) after = after ≡ before
OpensAt place before (Key bytes) after = (length before < 16) × (after ≡ (place + length bytes) ∷ before)
OpensAt place before Open after = (length before < 16) × (after ≡ place ∷ before)
OpensAt place before Close after = (opening : ℕ) × (before ≡ opening ∷ after)

-- tokens that may stand at a place lead to what may come next, and to the lists that are open then
abbrev pub Leads : ℕ → Next → List ℕ → List Token → Next → List ℕ → Type 0
Leads place next opens [] next_after after = (next_after ≡ next) × (after ≡ opens)
Leads place next opens (token ∷ tokens) next_after after =
    IsTrue (is_token token) × IsTrue (may_come next token)
    × ((between : List ℕ) × OpensAt place opens token between × Leads (place + length (spelling token)) (next_of token) between tokens next_after after)

-- the bytes are whole tokens up to a place, and then the rest
pub record Behind (bytes : List ℕ) (next : Next) (opens : List ℕ) (place : ℕ) (rest : List ℕ) : Type 0 where
  pub tokens : List Token
  pub written : bytes ≡ flat_map spelling tokens ++ rest
  pub ends : place ≡ length (flat_map spelling tokens)
  pub leads : Leads 0 Anything [] tokens next opens

-- some spelled text begins so
pub record Begins (bytes : List ℕ) : Type 0 where
  pub rest : List ℕ
  pub marks : List Mark
  pub spells : Spells 16 (bytes ++ rest) marks

-- the bytes before a place begin some spelled text, and the bytes up to and with it don't
pub record StopsAt (bytes : List ℕ) (place : ℕ) : Type 0 where
  pub within : place < length bytes
  pub before : Begins (take place bytes)
  pub here : Begins (take (place + 1) bytes) → ⊥

-- no `*` comes first
abbrev pub IsNoStar : List ℕ → Type 0
IsNoStar [] = Unit {0}
IsNoStar (byte ∷ bytes) = byte ≢ 42

-- a `/` just behind a quoted text begins no comment
pub record IsLoneSlash (bytes : List ℕ) (place : ℕ) : Type 0 where
  pub opens : List ℕ
  pub more : List ℕ
  pub behind : Behind bytes ByQuoted opens place (47 ∷ more)
  pub alone : IsNoStar more

-- a parenthesis at a place, behind a word or by itself, would open a seventeenth list
pub record IsTooDeep (bytes : List ℕ) (place : ℕ) : Type 0 where
  pub opens : List ℕ
  pub start : ℕ
  pub word : List ℕ
  pub more : List ℕ
  pub behind : Behind bytes Anything opens start (word ++ 40 ∷ more)
  pub key : (word ≡ []) ⊎ IsTrue (is_word word)
  pub at : place ≡ start + length word
  pub full : 16 ≤ length opens

-- the bytes end in a quoted text that began at a place
pub record EndsInQuoted (bytes : List ℕ) (place : ℕ) : Type 0 where
  pub opens : List ℕ
  pub text : List ℕ
  pub printable : IsText text
  pub behind : Behind bytes Anything opens place (39 ∷ doubled text)

-- the bytes end in a comment that began at a place
pub record EndsInComment (bytes : List ℕ) (place : ℕ) : Type 0 where
  pub next : Next
  pub opens : List ℕ
  pub text : List ℕ
  pub comes : IsTrue (may_come next (Comment text))
  pub good : IsTrue (list_all is_comment_byte text)
  pub unended : IsTrue (is_unended text)
  pub behind : Behind bytes next opens place (47 ∷ 42 ∷ text)

-- the bytes end where the innermost open list began at a place
pub record EndsInList (bytes : List ℕ) (place : ℕ) : Type 0 where
  pub next : Next
  pub outer : List ℕ
  pub ends : ℕ
  pub behind : Behind bytes next (place ∷ outer) ends []

-- no `/` just behind a quoted text is alone
abbrev pub IsPaired : List ℕ → Type 0
IsPaired bytes = (place : ℕ) → IsLoneSlash bytes place → ⊥

-- the bytes stop at a parenthesis that closes nothing
pub record IsStrayParen (bytes : List ℕ) (place : ℕ) : Type 0 where
  pub stops : StopsAt bytes place
  pub paren : slice_index bytes place ≡ 41
  pub paired : IsPaired bytes

-- the bytes stop at another byte
pub record IsBadByte (bytes : List ℕ) (place : ℕ) : Type 0 where
  pub stops : StopsAt bytes place
  pub other : slice_index bytes place ≢ 41
  pub shallow : IsTooDeep bytes place → ⊥
  pub paired : IsPaired bytes

-- a first item that is no name
abbrev pub IsNoName : Token → Type 0
IsNoName (Word bytes) = IsName bytes → ⊥
IsNoName (Blank byte) = Unit {0}
IsNoName (Comment text) = Unit {0}
IsNoName (Quoted text) = Unit {0}
IsNoName (Key bytes) = Unit {0}
IsNoName Open = Unit {0}
IsNoName Close = Unit {0}

pub record BeginsWithNoName (bytes : List ℕ) : Type 0 where
  pub first : Mark
  pub marks : List Mark
  pub spells : Spells 16 bytes (first ∷ marks)
  pub nameless : IsNoName first.token

-- the fault that bytes have
abbrev pub StandsIn : ClFault → List ℕ → Type 0
StandsIn (BadByte place) bytes = IsLoneSlash bytes place ⊎ IsBadByte bytes place
StandsIn (StrayParen place) bytes = IsStrayParen bytes place
StandsIn (TooDeep place) bytes = StopsAt bytes place × IsTooDeep bytes place
StandsIn (OpenQuote place) bytes = EndsInQuoted bytes place
StandsIn (OpenComment place) bytes = EndsInComment bytes place
StandsIn (OpenParen place) bytes = EndsInList bytes place
StandsIn Empty bytes = Spells 16 bytes []
StandsIn BadName bytes = BeginsWithNoName bytes
StandsIn TooLong bytes = ⊥
StandsIn NoMemory bytes = ⊥

-- too long a text has that fault alone
abbrev pub Stands : ClFault → List ℕ → Type 0
Stands fault bytes = ((8192 < length bytes) × (fault ≡ TooLong)) ⊎ ((length bytes ≤ 8192) × StandsIn fault bytes)

-- the bytes are a command: a word that is a name, and the items behind it
pub record IsCommand (bytes name : List ℕ) (marks : List Mark) : Type 0 where
  pub short : length bytes ≤ 8192
  pub first : Mark
  pub spells : Spells 16 bytes (first ∷ marks)
  pub word : first.token ≡ Word name
  pub named : IsName name
