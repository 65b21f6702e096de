-- What the body of a command's request comes to: the lines of a session, of which one alone may be no empty one.
use Rattle.std.specs.Prelude.{◌≡◌, ℕ, Bool, true, List, [], ◌∷◌, ◌++◌, Option, Some, None, fold, if◌then◌else◌, ⊤}
use Rattle.wm_clwords.specs.Lines.{logical_lines}
use Rattle.wm_clwords.specs.declared.fault.ClFault.TheVariants.{TooLong}
use Rattle.wm_listing.specs.declared.line_fault.LineFault.TheVariants.{Cl}
use Rattle.wm_run.specs.Answer.{is_fault}
use Rattle.wm_run.specs.Parsed.{IsFitParsed, Parses}
use Rattle.wm_run.specs.declared.parsed.Parsed.{Parsed}
use Rattle.wm_run.specs.declared.parsed.Parsed.TheVariants.{Fault, Read, Call}
use Rattle.wm_web.specs.declared.body.Body.{Body}
use Rattle.wm_web.specs.declared.body.Body.TheVariants.{Nothing, One, Several}

-- what a user's logical line comes to; one that is too long is a fault
abbrev pub LineParses : List ℕ → Option (List ℕ) → Parsed → Type 0
LineParses user None parsed = parsed ≡ Fault (Cl TooLong)
LineParses user (Some text) parsed = Parses user text parsed

-- what lines come to, one by one
abbrev pub LinesParse : List ℕ → List (Option (List ℕ)) → List Parsed → Type 0
LinesParse user [] [] = ⊤
LinesParse user [] (p ∷ ps) = ⊥
LinesParse user (line ∷ lines) [] = ⊥
LinesParse user (line ∷ lines) (p ∷ ps) = LineParses user line p × LinesParse user lines ps

-- whether a line isn't empty
abbrev pub is_said : Parsed → Bool
is_said (Fault fault) = is_fault fault
is_said (Read ask) = true
is_said (Call c) = true

-- a body with one line more that isn't empty
abbrev pub with_said : Body → Parsed → Body
with_said Nothing p = One p
with_said (One q) p = Several
with_said Several p = Several

-- a body with one line more
abbrev pub with_line : Body → Parsed → Body
with_line body p = if is_said p then with_said body p else body

-- of the lines that were to come some came, and the body has them
pub record AddsLines (user : List ℕ) (before now : List (Option (List ℕ))) (old new : Body) : Type 0 where
  pub lines : List (Option (List ℕ))
  pub parsed : List Parsed
  pub split : before ≡ lines ++ now
  pub parses : LinesParse user lines parsed
  pub made : new ≡ fold with_line old parsed

-- what the bytes of a user's body come to
pub record IsBody (user bytes : List ℕ) (body : Body) : Type 0 where
  pub parsed : List Parsed
  pub parses : LinesParse user (logical_lines bytes) parsed
  pub made : body ≡ fold with_line Nothing parsed

-- its command keeps its forms and ranges
abbrev pub IsFitBody : Body → Type 0
IsFitBody Nothing = ⊤
IsFitBody (One p) = IsFitParsed p
IsFitBody Several = ⊤
