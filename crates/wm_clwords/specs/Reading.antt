-- A reader of commands, byte by byte: a second definition, which `Grammar` is proved to agree with.
use Rattle.std.specs.Prelude.{ℕ, List, [], ◌∷◌, ◌++◌, length, Result, Ok, Err, nat_lt, ◌==◌, ◌+◌, if◌then◌else◌}
use Rattle.wm_base.specs.Text.{is_printable}
use Rattle.wm_clwords.specs.Lines.{is_blank}
use Rattle.wm_clwords.specs.Grammar.{Token, Word, Quoted, Key, Open, Close, Mark, is_word_byte, is_comment_byte, upper_byte}
use Rattle.wm_clwords.specs.declared.mode.Mode.{Mode}
use Rattle.wm_clwords.specs.declared.mode.Mode.TheVariants.{Free, Slash, InWord, InQuoted, AtApostrophe, AfterSlash, InComment, AtStar}
use Rattle.wm_clwords.specs.declared.fault.ClFault.{ClFault}
use Rattle.wm_clwords.specs.declared.fault.ClFault.TheVariants.{OpenQuote, OpenParen, StrayParen, OpenComment, BadByte, TooDeep}

pub record State : Type 0 where
  pub mode : Mode
  -- where the word, the text, the comment or the slash began
  pub start : ℕ
  -- the word's or the text's bytes so far
  pub held : List ℕ
  -- the places of the open lists, the innermost first
  pub opens : List ℕ

abbrev pub mark : ℕ → ℕ → Token → Mark
mark from to token = record { from = from; to = to; token = token }

-- the state after a byte, and the marks that end there
abbrev pub Went : Type 0
Went = Result (State × List Mark) ClFault

abbrev pub goes : Mode → ℕ → List ℕ → List ℕ → List Mark → Went
goes mode start held opens marks = Ok (record { mode = mode; start = start; held = held; opens = opens }, marks)

-- a list begins
abbrev pub opened : ℕ → List ℕ → Mark → Went
opened place opens key = if nat_lt (length opens) 16 then goes Free 0 [] (place ∷ opens) (key ∷ []) else Err (TooDeep place)

-- a list ends
abbrev pub closed : ℕ → List ℕ → List Mark → Went
closed place [] marks = Err (StrayParen place)
closed place (open_at ∷ opens) marks = goes Free 0 [] opens (marks ++ mark place (place + 1) Close ∷ [])

abbrev pub at_free : List ℕ → ℕ → ℕ → Went
at_free opens place byte =
    if is_blank byte then goes Free 0 [] opens []
    else (if byte == 39 then goes InQuoted place [] opens []
    else (if byte == 40 then opened place opens (mark place (place + 1) Open)
    else (if byte == 41 then closed place opens []
    else (if byte == 47 then goes Slash place (47 ∷ []) opens []
    else (if is_word_byte byte then goes InWord place (upper_byte byte ∷ []) opens []
    else Err (BadByte place))))))

abbrev pub at_word : ℕ → List ℕ → List ℕ → ℕ → ℕ → Went
at_word start held opens place byte =
    if is_blank byte then goes Free 0 [] opens (mark start place (Word held) ∷ [])
    else (if byte == 40 then opened place opens (mark start (start + length held + 1) (Key held))
    else (if byte == 41 then closed place opens (mark start place (Word held) ∷ [])
    else (if is_word_byte byte then goes InWord start (held ++ upper_byte byte ∷ []) opens []
    else Err (BadByte place))))

abbrev pub at_slash : ℕ → List ℕ → List ℕ → ℕ → ℕ → Went
at_slash start held opens place byte = if byte == 42 then goes InComment start [] opens [] else at_word start held opens place byte

abbrev pub in_quoted : ℕ → List ℕ → List ℕ → ℕ → ℕ → Went
in_quoted start held opens place byte =
    if byte == 39 then goes AtApostrophe start held opens []
    else (if is_printable byte then goes InQuoted start (held ++ byte ∷ []) opens []
    else Err (BadByte place))

abbrev pub at_apostrophe : ℕ → List ℕ → List ℕ → ℕ → ℕ → Went
at_apostrophe start held opens place byte =
    if byte == 39 then goes InQuoted start (held ++ 39 ∷ []) opens []
    else (if is_blank byte then goes Free 0 [] opens (mark start place (Quoted held) ∷ [])
    else (if byte == 41 then closed place opens (mark start place (Quoted held) ∷ [])
    else (if byte == 47 then goes AfterSlash place [] opens (mark start place (Quoted held) ∷ [])
    else Err (BadByte place))))

abbrev pub after_slash : ℕ → List ℕ → ℕ → Went
after_slash start opens byte = if byte == 42 then goes InComment start [] opens [] else Err (BadByte start)

abbrev pub in_comment : ℕ → List ℕ → ℕ → ℕ → Went
in_comment start opens place byte =
    if byte == 42 then goes AtStar start [] opens []
    else (if is_comment_byte byte then goes InComment start [] opens []
    else Err (BadByte place))

abbrev pub at_star : ℕ → List ℕ → ℕ → ℕ → Went
at_star start opens place byte = if byte == 47 then goes Free 0 [] opens [] else in_comment start opens place byte

-- one function for each mode
abbrev pub step_by : Mode → ℕ → List ℕ → List ℕ → ℕ → ℕ → Went
step_by Free start held opens place byte = at_free opens place byte
step_by Slash start held opens place byte = at_slash start held opens place byte
step_by InWord start held opens place byte = at_word start held opens place byte
step_by InQuoted start held opens place byte = in_quoted start held opens place byte
step_by AtApostrophe start held opens place byte = at_apostrophe start held opens place byte
step_by AfterSlash start held opens place byte = after_slash start opens byte
step_by InComment start held opens place byte = in_comment start opens place byte
step_by AtStar start held opens place byte = at_star start opens place byte

abbrev pub step : State → ℕ → ℕ → Went
step state place byte = step_by state.mode state.start state.held state.opens place byte

-- the innermost list that is open at the end is a fault
abbrev pub all_closed : List ℕ → List Mark → Result (List Mark) ClFault
all_closed [] marks = Ok marks
all_closed (open_at ∷ opens) marks = Err (OpenParen open_at)

-- the bytes end here
abbrev pub finish_by : Mode → ℕ → List ℕ → List ℕ → ℕ → Result (List Mark) ClFault
finish_by Free start held opens place = all_closed opens []
finish_by Slash start held opens place = all_closed opens (mark start place (Word held) ∷ [])
finish_by InWord start held opens place = all_closed opens (mark start place (Word held) ∷ [])
finish_by InQuoted start held opens place = Err (OpenQuote start)
finish_by AtApostrophe start held opens place = all_closed opens (mark start place (Quoted held) ∷ [])
finish_by AfterSlash start held opens place = Err (BadByte start)
finish_by InComment start held opens place = Err (OpenComment start)
finish_by AtStar start held opens place = Err (OpenComment start)

abbrev pub finish : State → ℕ → Result (List Mark) ClFault
finish state place = finish_by state.mode state.start state.held state.opens place

-- marks, and those of what follows
abbrev pub with_front : List Mark → Result (List Mark) ClFault → Result (List Mark) ClFault
with_front marks (Ok more) = Ok (marks ++ more)
with_front marks (Err fault) = Err fault

abbrev pub with_rest : Went → (State → Result (List Mark) ClFault) → Result (List Mark) ClFault
with_rest (Ok went) next = with_front went.1 (next went.0)
with_rest (Err fault) next = Err fault

-- the marks of the bytes from a place on, or the first fault
abbrev pub run : State → ℕ → List ℕ → Result (List Mark) ClFault
run state place [] = finish state place
run state place (byte ∷ bytes) = with_rest (step state place byte) (λ next. run next (place + 1) bytes)

-- nothing was read
abbrev pub begun : State
begun = record { mode = Free; start = 0; held = []; opens = [] }
