-- What stands after bytes of the input were taken.
use Rattle.std.specs.Prelude.{◌≡◌, ◌↔◌, ℕ, ◌+◌, ◌<◌, Bool, false, List, [], ◌++◌, length, Option, Result, IsErrOf}
use Rattle.wm_clwords.specs.Part.{Part, lines_from}
use Rattle.wm_law.specs.declared.call.Entry.{Entry}
use Rattle.wm_floor.specs.History.{History}
use Rattle.wm_traits.specs.Told.{Takes}
use Rattle.wm_run.specs.Session.{Answers, AnsweredBy}
use Rattle.wm_run.specs.declared.halt.Halt.{Halt}
use Rattle.wm_run.specs.declared.halt.Halt.TheVariants.{ReadFault, InputFull}

-- of a piece a rest is left, and the lines that ended were answered: however the input goes on, its lines are these and those that the rest gives
pub record TakesPiece (user : List ℕ) (before : Part) (piece : List ℕ) (after : Part) (rest : List ℕ) (h : History) (es : List Entry) (written_before written_now : Option (List ℕ)) (faulty : Bool) : Type 0 where
  pub lines : List (Option (List ℕ))
  pub split : (more : List ℕ) → lines_from before (piece ++ more) ≡ lines ++ lines_from after (rest ++ more)
  pub answered : AnsweredBy (Answers user lines h) es written_before written_now faulty

-- a piece was taken whole, or up to the line that put the power down
pub record TakesUpTo (user : List ℕ) (down : Bool) (before : Part) (piece : List ℕ) (after : Part) (h : History) (es : List Entry) (written_before written_now : Option (List ℕ)) (faulty : Bool) : Type 0 where
  pub rest : List ℕ
  pub whole : down ≡ false → rest ≡ []
  pub taken : TakesPiece user before piece after rest h es written_before written_now faulty

-- some bytes were taken off the input, and so was done with them
pub record TakesInput (left_before left_now : Option (List ℕ)) (Done : List ℕ → Type 0) : Type 0 where
  pub bytes : List ℕ
  pub taken : Takes left_before bytes left_now
  pub done : Done bytes

-- a read that stopped the run behind so many bytes: a failing one gave none, and one told as too long gave too many
pub record StopsReading {T : Type 0} (bytes : List ℕ) (total : ℕ) (result : Result T Halt) : Type 0 where
  pub none : IsErrOf result ReadFault → bytes ≡ []
  pub full : IsErrOf result InputFull ↔ (1000000000 < total + length bytes)
