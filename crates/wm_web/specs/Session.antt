-- The requests of a connection's bytes, one after another, with their answers.
use Rattle.std.specs.Prelude.{◌≡◌, ℕ, ◌+◌, ◌==◌, Bool, false, ◌||◌, List, [], ◌∷◌, ◌++◌}
use Rattle.wm_http.specs.Answers.{closes_after, response_bytes}
use Rattle.wm_http.specs.Cutting.{IsCut}
use Rattle.wm_http.specs.declared.answer.Answer.{Answer}
use Rattle.wm_http.specs.declared.request.Cut.{Cut}
use Rattle.wm_floor.specs.Floor.{Seen}
use Rattle.wm_floor.specs.declared.opened.Opened.{Opened}
use Rattle.wm_web.specs.Answered.{AnswersCut, is_down}
use Rattle.wm_web.specs.Cuts.{asks_close, behind_cut}

-- one request: what was cut from the unread bytes, its answer, and what the pass knows then
pub record Exchange (K : Type 0) : Type 0 where
  pub cut : Cut
  pub answer : Answer
  pub pass : Seen K

-- whether a connection is asked to close: by the request, by the limit of 10,000 answers, or since the power went down
abbrev pub asks_end : Bool → ℕ → Bool → Bool
asks_end asked before down = asked || before == 9999 || down

module _ {K : Type 0} where
  -- whether the connection is asked to close behind so many answers
  abbrev pub is_last : ℕ → Seen K → Exchange K → Bool
  is_last before old e = asks_end (asks_close e.cut) before (is_down old e.pass)

  -- the bytes of the answer
  abbrev pub response_of : ℕ → Seen K → Exchange K → List ℕ
  response_of before old e = response_bytes e.answer (is_last before old e)

  -- whether the connection closes behind it
  abbrev pub ends_with : ℕ → Seen K → Exchange K → Bool
  ends_with before old e = closes_after e.answer (is_last before old e)

  -- the request is cut from these bytes, and the answer is its
  pub record IsExchange (o : Opened K) (bytes : List ℕ) (old : Seen K) (e : Exchange K) : Type 0 where
    pub cut : IsCut bytes e.cut
    pub answers : AnswersCut o e.cut old e.pass e.answer

  -- no request
  pub record ServesNone (bytes rest : List ℕ) (old new : Seen K) (due : List ℕ) : Type 0 where
    pub rest_is : rest ≡ bytes
    pub pass : new ≡ old
    pub none : due ≡ []

  -- one request, behind which the connection stays open, and then the rest
  pub record ServesFirst (o : Opened K) (before : ℕ) (e : Exchange K) (Rest : List ℕ → List ℕ → Seen K → Seen K → List ℕ → Type 0) (bytes rest : List ℕ) (old new : Seen K) (due : List ℕ) : Type 0 where
    pub more : List ℕ
    pub exchange : IsExchange o bytes old e
    pub open_ : ends_with before old e ≡ false
    pub text : due ≡ response_of before old e ++ more
    pub later : Rest (behind_cut e.cut bytes) rest e.pass new more

  -- requests one after another, from so many before on: from these bytes to what is left of them, from what a pass knew to what it knows then, with the bytes of their answers
  abbrev pub Serves : Opened K → ℕ → List (Exchange K) → List ℕ → List ℕ → Seen K → Seen K → List ℕ → Type 0
  Serves o before [] bytes rest old new due = ServesNone bytes rest old new due
  Serves o before (e ∷ es) bytes rest old new due = ServesFirst o before e (Serves o (before + 1) es) bytes rest old new due
