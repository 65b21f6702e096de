-- What came of the bytes of an input.
use Rattle.std.specs.Prelude.{◌≡◌, ◌↔◌, ℕ, ◌<◌, ◌≤◌, ◌==◌, Bool, List, [], ◌∷◌, ◌++◌, length, Option, Result, IfOk, OnErr, IsErrOf}
use Rattle.wm_clwords.specs.Lines.{logical_lines}
use Rattle.wm_law.specs.declared.call.Entry.{Entry}
use Rattle.wm_law.specs.declared.state.State.{State}
use Rattle.wm_floor.specs.History.{History}
use Rattle.wm_run.specs.Grown.{at_opening, grown}
use Rattle.wm_run.specs.Session.{Answers, AnsweredBy, IsSession, OneCall, start_call}
use Rattle.wm_run.specs.Stopped.{IsStopped, StopsIn}
use Rattle.wm_run.specs.Taking.{TakesInput}
use Rattle.wm_run.specs.declared.answered.Answered.{Answered}
use Rattle.wm_run.specs.declared.halt.Halt.{Halt}
use Rattle.wm_run.specs.declared.settings.Settings.{Settings}
use Rattle.wm_run.specs.declared.halt.Halt.TheVariants.{ReadFault, InputFull}

-- these lines have ended in the bytes: all lines but the last, where a letter more stands behind the bytes
pub record HaveEnded (lines : List (Option (List ℕ))) (bytes : List ℕ) : Type 0 where
  pub last : Option (List ℕ)
  pub whole : logical_lines (bytes ++ 88 ∷ []) ≡ lines ++ last ∷ []

-- the lines that have ended were answered, and no other
pub record AnswersEnded (user bytes : List ℕ) (h : History) (es : List Entry) (before now : Option (List ℕ)) : Type 0 where
  pub lines : List (Option (List ℕ))
  pub ended : HaveEnded lines bytes
  pub faulty : Bool
  pub answered : AnsweredBy (Answers user lines h) es before now faulty

-- what came of the bytes that were taken: their lines were answered, or the first of them
pub record LinesCame (user bytes : List ℕ) (result : Result Answered Halt) (h : History) (es : List Entry) (before now : Option (List ℕ)) : Type 0 where
  pub answered : IfOk result (λ r. AnsweredBy (Answers user (logical_lines bytes) h) es before now r.faulty)
  pub stopped : OnErr result (StopsIn user (logical_lines bytes) h es before now)
  -- where the input couldn't be read, those were answered that had ended
  pub cut_off : IsErrOf result ReadFault → AnswersEnded user bytes h es before now
  pub full : IsErrOf result InputFull ↔ (1000000000 < length bytes)

-- a session that was begun, and answered the lines that had ended
pub record StopsBehind (settings : Settings) (bytes : List ℕ) (h : History) (es : List Entry) (before now : Option (List ℕ)) : Type 0 where
  pub first : List Entry
  pub middle : List Entry
  pub parts : es ≡ first ++ middle
  pub start : OneCall (start_call settings.ctl) first
  pub answers : AnswersEnded settings.user bytes (grown h first) middle before now

-- the same of a whole session, which left so much of the input
pub record SessionCame (settings : Settings) (bytes : List ℕ) (left : Option (List ℕ)) (result : Result Bool Halt) (h : History) (es : List Entry) (before now : Option (List ℕ)) : Type 0 where
  pub session : IfOk result (λ faulty. IsSession settings (logical_lines bytes) left h es before now faulty)
  pub stopped : OnErr result (IsStopped settings (logical_lines bytes) left h es before now)
  pub cut_off : IsErrOf result ReadFault → StopsBehind settings bytes h es before now
  pub full : IsErrOf result InputFull ↔ (1000000000 < length bytes)

-- the same of a run, by its status
pub record RunCame (settings : Settings) (bytes : List ℕ) (left : Option (List ℕ)) (status : ℕ) (h : History) (es : List Entry) (before now : Option (List ℕ)) : Type 0 where
  pub session : status ≤ 1 → IsSession settings (logical_lines bytes) left h es before now (status == 1)
  pub stopped : 1 < status → IsStopped settings (logical_lines bytes) left h es before now
  pub cut_off : status ≡ 3 → StopsBehind settings bytes h es before now
  pub full : (status ≡ 11) ↔ (1000000000 < length bytes)

-- what a run took of its input, and what came of it, where this state was opened
abbrev pub RunTakes : Settings → (left_before left_now : Option (List ℕ)) → ℕ → List Entry → (before now : Option (List ℕ)) → State → Type 0
RunTakes settings left_before left_now status log before now opened = TakesInput left_before left_now (λ bytes. RunCame settings bytes left_now status (at_opening opened) log before now)
