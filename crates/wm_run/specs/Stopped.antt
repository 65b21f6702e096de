-- How far a session came that stopped.
use Rattle.std.specs.Prelude.{◌≡◌, ◌⊎◌, ℕ, Bool, List, [], ◌++◌, Option, take}
use Rattle.wm_law.specs.declared.call.Call.{Call}
use Rattle.wm_law.specs.declared.call.Entry.{Entry}
use Rattle.wm_floor.specs.History.{History}
use Rattle.wm_traits.specs.Told.{Grows}
use Rattle.wm_run.specs.Grown.{grown}
use Rattle.wm_run.specs.Session.{Answers, Closes, IsSession, IsUncalled, OneCall, start_call}
use Rattle.wm_run.specs.declared.settings.Settings.{Settings}

-- of what a relation says was due, some bytes were written
pub record WritesSome (Due : List Entry → List ℕ → Bool → Type 0) (es : List Entry) (before now : Option (List ℕ)) : Type 0 where
  pub due : List ℕ
  pub faulty : Bool
  pub answers : Due es due faulty
  pub count : ℕ
  pub written : Grows before now (take count due)

-- the session called and wrote nothing
pub record Unanswered (es : List Entry) (before now : Option (List ℕ)) : Type 0 where
  pub none : IsUncalled es
  pub written : Grows before now []

-- nothing was called or written
pub record Untouched (es : List Entry) (before now : Option (List ℕ)) : Type 0 where
  pub none : es ≡ []
  pub written : Grows before now []

-- an answer was cut short, or didn't begin
abbrev pub IsCutShort : (List Entry → List ℕ → Bool → Type 0) → List Entry → Option (List ℕ) → Option (List ℕ) → Type 0
IsCutShort Due es before now = Unanswered es before now ⊎ WritesSome Due es before now

-- the first of the lines were called and answered, though not all of the answers' bytes were written
pub record StopsIn (user : List ℕ) (lines : List (Option (List ℕ))) (h : History) (es : List Entry) (before now : Option (List ℕ)) : Type 0 where
  pub answered : List (Option (List ℕ))
  pub others : List (Option (List ℕ))
  pub split : lines ≡ answered ++ others
  pub some : WritesSome (Answers user answered h) es before now

-- a call was made, or none was
abbrev pub AtMostOne : Call → List Entry → Type 0
AtMostOne c es = IsUncalled es ⊎ OneCall c es

-- the session made no call, or the input was closed
abbrev pub MayClose : Bool → History → List Entry → Type 0
MayClose down h es = IsUncalled es ⊎ Closes down h es

-- a session that was begun, and stopped in its lines or before the end of the input
pub record StopsInside (settings : Settings) (lines : List (Option (List ℕ))) (h : History) (es : List Entry) (before now : Option (List ℕ)) : Type 0 where
  pub first : List Entry
  pub middle : List Entry
  pub last : List Entry
  pub parts : es ≡ first ++ middle ++ last
  pub start : OneCall (start_call settings.ctl) first
  pub stops : StopsIn settings.user lines (grown h first) middle before now
  pub uncalled : IsUncalled last

-- a session that was ended
pub record IsEnded (settings : Settings) (lines : List (Option (List ℕ))) (left : Option (List ℕ)) (h : History) (es : List Entry) (before now : Option (List ℕ)) : Type 0 where
  pub faulty : Bool
  pub session : IsSession settings lines left h es before now faulty

-- a session that stopped: before it was begun, in its lines, or once it was ended
abbrev pub IsStopped : Settings → List (Option (List ℕ)) → Option (List ℕ) → History → List Entry → Option (List ℕ) → Option (List ℕ) → Type 0
IsStopped settings lines left h es before now = Untouched es before now ⊎ (StopsInside settings lines h es before now ⊎ IsEnded settings lines left h es before now)
