-- What bytes spell: a command's text is a list of tokens, written one after another.
use Rattle.std.specs.Prelude.{◌≡◌, ℕ, Bool, true, false, not, List, [], ◌∷◌, ◌++◌, length, map, nat_le, ◌==◌, ◌+◌, ◌-◌, ◌<◌, ◌||◌, ◌&&◌, if◌then◌else◌, IsTrue}
use Rattle.std.specs.List.{list_all, flat_map}
use Rattle.wm_base.specs.Text.{is_printable}
use Rattle.wm_clwords.specs.Lines.{is_blank, is_empty}
use Rattle.wm_clwords.specs.Quote.{quoted}

pub data Token : Type 0 where
  -- a blank or a tab
  Blank : ℕ → Token
  -- the text of a comment
  Comment : List ℕ → Token
  -- the bytes of a word
  Word : List ℕ → Token
  -- the text of a quoted text, without its apostrophes
  Quoted : List ℕ → Token
  -- the bytes of a word with a list just behind it, which begins here
  Key : List ℕ → Token
  -- a list begins, or ends
  Open : Token
  Close : Token

-- the bytes of a token
abbrev pub spelling : Token → List ℕ
spelling (Blank byte) = byte ∷ []
spelling (Comment text) = 47 ∷ 42 ∷ text ++ 42 ∷ 47 ∷ []
spelling (Word bytes) = bytes
spelling (Quoted text) = quoted text
spelling (Key bytes) = bytes ++ 40 ∷ []
spelling Open = 40 ∷ []
spelling Close = 41 ∷ []

-- a byte of a word is visible, no parenthesis and no apostrophe
abbrev pub is_word_byte : ℕ → Bool
is_word_byte byte = nat_le 33 byte && nat_le byte 126 && not (byte == 39 || byte == 40 || byte == 41)

-- `/*` begins a comment, and no word
abbrev pub begins_comment : List ℕ → Bool
begins_comment [] = false
begins_comment (byte ∷ []) = false
begins_comment (byte ∷ next ∷ bytes) = byte == 47 && next == 42

abbrev pub is_word : List ℕ → Bool
is_word bytes = not (is_empty bytes) && list_all is_word_byte bytes && not (begins_comment bytes)

-- a comment may have tabs
abbrev pub is_comment_byte : ℕ → Bool
is_comment_byte byte = byte == 9 || is_printable byte

-- there is no `*/`
abbrev pub is_unended : List ℕ → Bool
is_unended [] = true
is_unended (byte ∷ []) = true
is_unended (byte ∷ next ∷ bytes) = not (byte == 42 && next == 47) && is_unended (next ∷ bytes)

-- the bytes that a token may have
abbrev pub is_token : Token → Bool
is_token (Blank byte) = is_blank byte
is_token (Comment text) = list_all is_comment_byte text && is_unended text
is_token (Word bytes) = is_word bytes
is_token (Quoted text) = list_all is_printable text
is_token (Key bytes) = is_word bytes
is_token Open = true
is_token Close = true

-- what a token asks of the next one
pub data Next : Type 0 where
  -- an item or a gap may begin
  Anything : Next
  -- a blank or `)` has to come, or the end
  ByWord : Next
  -- a gap or `)` has to come, or the end
  ByQuoted : Next

abbrev pub next_of : Token → Next
next_of (Blank byte) = Anything
next_of (Comment text) = Anything
next_of (Word bytes) = ByWord
next_of (Quoted text) = ByQuoted
next_of (Key bytes) = Anything
next_of Open = Anything
next_of Close = Anything

abbrev pub may_come : Next → Token → Bool
may_come Anything token = true
may_come ByWord (Blank byte) = true
may_come ByWord Close = true
may_come ByWord (Comment text) = false
may_come ByWord (Word bytes) = false
may_come ByWord (Quoted text) = false
may_come ByWord (Key bytes) = false
may_come ByWord Open = false
may_come ByQuoted (Blank byte) = true
may_come ByQuoted (Comment text) = true
may_come ByQuoted Close = true
may_come ByQuoted (Word bytes) = false
may_come ByQuoted (Quoted text) = false
may_come ByQuoted (Key bytes) = false
may_come ByQuoted Open = false

-- how many lists are open behind a token, of at most `most`
abbrev pub Opens : ℕ → ℕ → Token → ℕ → Type 0
Opens most before (Blank byte) after = after ≡ before
Opens most before (Comment text) after = after ≡ before
Opens most before (Word bytes) after = after ≡ before
Opens most before (Quoted text) after = after ≡ before
Opens most before (Key bytes) after = (before < most) × (after ≡ before + 1)
Opens most before Open after = (before < most) × (after ≡ before + 1)
Opens most before Close after = before ≡ after + 1

-- the tokens may stand here, where so many lists are open, and each list is closed at their end
abbrev pub MayStand : ℕ → Next → ℕ → List Token → Type 0
MayStand most next opens [] = opens ≡ 0
MayStand most next opens (token ∷ tokens) =
    IsTrue (is_token token) × IsTrue (may_come next token) × ((after : ℕ) × Opens most opens token after × MayStand most (next_of token) after tokens)

-- a to z are read as A to Z
abbrev pub upper_byte : ℕ → ℕ
upper_byte byte = if nat_le 97 byte && nat_le byte 122 then byte - 32 else byte

abbrev pub upper : List ℕ → List ℕ
upper bytes = map upper_byte bytes

-- a token of an item, with the place of its first byte and that behind its last
pub record Mark : Type 0 where
  pub from : ℕ
  pub to : ℕ
  pub token : Token

-- what a token at a place says of the items: gaps say nothing
abbrev pub mark_at : ℕ → Token → List Mark
mark_at place (Blank byte) = []
mark_at place (Comment text) = []
mark_at place (Word bytes) = record { from = place; to = place + length bytes; token = Word (upper bytes) } ∷ []
mark_at place (Quoted text) = record { from = place; to = place + length (quoted text); token = Quoted text } ∷ []
mark_at place (Key bytes) = record { from = place; to = place + length bytes + 1; token = Key (upper bytes) } ∷ []
mark_at place Open = record { from = place; to = place + 1; token = Open } ∷ []
mark_at place Close = record { from = place; to = place + 1; token = Close } ∷ []

abbrev pub marks_from : ℕ → List Token → List Mark
marks_from place [] = []
marks_from place (token ∷ tokens) = mark_at place token ++ marks_from (place + length (spelling token)) tokens

-- the bytes spell these items, with at most `most` lists open at once
pub record Spells (most : ℕ) (bytes : List ℕ) (marks : List Mark) : Type 0 where
  pub tokens : List Token
  pub written : bytes ≡ flat_map spelling tokens
  pub stand : MayStand most Anything 0 tokens
  pub items : marks ≡ marks_from 0 tokens
