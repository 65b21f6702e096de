-- What a session calls and answers, line by line. A piece of the history is what the session has seen since, and is spoken of with the history before it.
use Rattle.std.specs.Io.KnownBytes.{IsAtEnd}
use Rattle.std.specs.Prelude.{◌≡◌, ℕ, Bool, true, false, ◌||◌, List, [], ◌∷◌, ◌++◌, Option, Some, None, codes}
use Rattle.wm_law.specs.declared.call.Call.{Call as MachineCall}
use Rattle.wm_law.specs.declared.call.Call.TheVariants.{Change}
use Rattle.wm_law.specs.declared.command.Command.{Command}
use Rattle.wm_law.specs.declared.command.Command.TheVariants.{Strsbs, Pwrdwnsys}
use Rattle.wm_law.specs.declared.command.EndOption.TheVariants.{Immed}
use Rattle.wm_law.specs.declared.call.Entry.{Entry}
use Rattle.wm_law.specs.declared.command.Ask.{Ask}
use Rattle.wm_law.specs.History.{entries_of}
use Rattle.wm_law.specs.Pending.{busy}
use Rattle.wm_floor.specs.History.{History, reached}
use Rattle.wm_base.specs.declared.qname.QName.{QName}
use Rattle.wm_clwords.specs.declared.fault.ClFault.TheVariants.{TooLong}
use Rattle.wm_traits.specs.Told.{Grows}
use Rattle.wm_run.specs.Calls.{session_pass}
use Rattle.wm_run.specs.Parsed.{Parses}
use Rattle.wm_listing.specs.Said.{said_text}
use Rattle.wm_run.specs.Down.{is_down}
use Rattle.wm_run.specs.Grown.{grown}
use Rattle.wm_run.specs.Answer.{fault_answer, is_fault, with_end, is_refused}
use Rattle.wm_run.specs.Reads.{read_text, is_read_refused}
use Rattle.wm_listing.specs.declared.line_fault.LineFault.TheVariants.{Cl}
use Rattle.wm_run.specs.declared.parsed.Parsed.{Parsed}
use Rattle.wm_run.specs.declared.settings.Settings.{Settings}
use Rattle.wm_run.specs.declared.parsed.Parsed.TheVariants.{Fault, Read, Call}

-- the first call: the controlling subsystem is started
abbrev pub start_call : QName → MachineCall
start_call ctl = Change (codes "QSYS") (Strsbs (record { sbsd = ctl }))

-- the last call: the power goes down
abbrev pub end_call : MachineCall
end_call = Change (codes "QSYS") (Pwrdwnsys (record { option = Immed; delay = Some 3600 }))

-- the session's one entry is that of a user's command, and this is said of it
pub record Calls (user : List ℕ) (c : Command) (es : List Entry) (bytes : List ℕ) (faulty : Bool) : Type 0 where
  pub entry : Entry
  pub only : entries_of session_pass es ≡ entry ∷ []
  pub call : entry.call ≡ Change user c
  pub says : bytes ≡ with_end (said_text c entry.reply)
  pub refused : faulty ≡ is_refused entry.reply

-- the session made no call
abbrev pub IsUncalled : List Entry → Type 0
IsUncalled es = entries_of session_pass es ≡ []

-- no call, and this was said
pub record Says (due : List ℕ) (wrong : Bool) (es : List Entry) (bytes : List ℕ) (faulty : Bool) : Type 0 where
  pub none : IsUncalled es
  pub says : bytes ≡ due
  pub fault : faulty ≡ wrong

-- no call, and the listing of the state that the history has reached with these entries
abbrev pub Reads : Ask → History → List Entry → List ℕ → Bool → Type 0
Reads ask h es bytes faulty = Says (read_text ask (grown h es)) (is_read_refused ask (grown h es)) es bytes faulty

-- what answers a user's parsed line behind a history: a fault has its line, a reading command its listing, a call what is said of its entry
abbrev pub AnswersParsed : List ℕ → Parsed → History → List Entry → List ℕ → Bool → Type 0
AnswersParsed user (Fault fault) h es bytes faulty = Says (fault_answer fault) (is_fault fault) es bytes faulty
AnswersParsed user (Read ask) h es bytes faulty = Reads ask h es bytes faulty
AnswersParsed user (Call c) h es bytes faulty = Calls user c es bytes faulty

-- the entries and the bytes of a text, and whether it got a fault or a refusal
pub record AnswersText (user : List ℕ) (text : List ℕ) (h : History) (es : List Entry) (bytes : List ℕ) (faulty : Bool) : Type 0 where
  pub parsed : Parsed
  pub parses : Parses user text parsed
  pub answers : AnswersParsed user parsed h es bytes faulty

-- the same of a logical line, which may be too long
abbrev pub AnswersLine : List ℕ → Option (List ℕ) → History → List Entry → List ℕ → Bool → Type 0
AnswersLine user None h es bytes faulty = AnswersParsed user (Fault (Cl TooLong)) h es bytes faulty
AnswersLine user (Some text) h es bytes faulty = AnswersText user text h es bytes faulty

-- once the power is down no line is answered, else the rest
abbrev pub GoesOn : Bool → (List Entry → List ℕ → Bool → Type 0) → List Entry → List ℕ → Bool → Type 0
GoesOn true Rest es bytes faulty = Says [] false es bytes faulty
GoesOn false Rest es bytes faulty = Rest es bytes faulty

-- the first line, and then the rest, whose history is the one that the first has left
pub record AnswersFirst (user : List ℕ) (line : Option (List ℕ)) (Rest : History → List Entry → List ℕ → Bool → Type 0) (h : History) (es : List Entry) (bytes : List ℕ) (faulty : Bool) : Type 0 where
  pub own : List Entry
  pub others : List Entry
  pub said : List ℕ
  pub more : List ℕ
  pub wrong : Bool
  pub later : Bool
  pub entries : es ≡ own ++ others
  pub text : bytes ≡ said ++ more
  pub fault : faulty ≡ (wrong || later)
  pub first : AnswersLine user line h own said wrong
  pub rest : GoesOn (is_down own) (Rest (grown h own)) others more later

-- the entries and the bytes of a user's lines, one after another, up to the first whose PWRDWNSYS is accepted, and whether one of
-- them got a fault or a refusal
abbrev pub Answers : List ℕ → List (Option (List ℕ)) → History → List Entry → List ℕ → Bool → Type 0
Answers user [] h es bytes faulty = Says [] false es bytes faulty
Answers user (line ∷ lines) h es bytes faulty = AnswersFirst user line (Answers user lines) h es bytes faulty

-- what a relation says was answered: these are the entries, and what is due was written
pub record AnsweredBy (Due : List Entry → List ℕ → Bool → Type 0) (es : List Entry) (before now : Option (List ℕ)) (faulty : Bool) : Type 0 where
  pub bytes : List ℕ
  pub answers : Due es bytes faulty
  pub written : Grows before now bytes

-- the session's one entry is that of a call
pub record OneCall (c : MachineCall) (es : List Entry) : Type 0 where
  pub entry : Entry
  pub only : entries_of session_pass es ≡ entry ∷ []
  pub call : entry.call ≡ c

-- the end of the input: it was waited until no job was active but prestart jobs, and then the session's one call was made
pub record EndsInput (h : History) (es : List Entry) : Type 0 where
  pub before : List Entry
  pub entry : Entry
  pub behind : List Entry
  pub parts : es ≡ before ++ entry ∷ behind
  pub waited : IsUncalled before
  pub quiet : busy (reached (grown h before)) ≡ 0
  pub caller : entry.caller ≡ session_pass
  pub call : entry.call ≡ end_call
  pub last : IsUncalled behind

-- where a line put the power down no call follows, else the end of the input
abbrev pub Closes : Bool → History → List Entry → Type 0
Closes true h es = IsUncalled es
Closes false h es = EndsInput h es

-- a session: the first call, the entries of the lines with what was written for them, and the end of the input, where no
-- line's PWRDWNSYS was accepted: then nothing is left of it
pub record IsSession (settings : Settings) (lines : List (Option (List ℕ))) (left : Option (List ℕ)) (h : History) (es : List Entry) (before now : Option (List ℕ)) (faulty : Bool) : Type 0 where
  pub first : List Entry
  pub middle : List Entry
  pub last : List Entry
  pub parts : es ≡ first ++ middle ++ last
  pub start : OneCall (start_call settings.ctl) first
  pub answered : AnsweredBy (Answers settings.user lines (grown h first)) middle before now faulty
  pub end : Closes (is_down middle) (grown h (first ++ middle)) last
  pub read : is_down middle ≡ false → IsAtEnd left
