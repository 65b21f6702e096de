-- What stays true while the input is read and taken.
use Rattle.std.proofs.Common.{◌≡◌, ℕ, ◌≤◌, Bool, false, List, [], length, Option}
use Rattle.wm_clwords.specs.Part.{Part, fresh}
use Rattle.wm_law.specs.declared.call.Entry.{Entry}
use Rattle.wm_floor.specs.History.{History}
use Rattle.wm_run.specs.Taking.{TakesPiece}

-- what stays true while the lines of a piece are taken, none of which has put the power down
pub record PieceLoop (written_before written_now looked_before looked_now : ℕ) (at : ℕ) (piece : List ℕ) (down : Bool) (Ready Serves Taken Reported : Type 0) : Type 0 where
  pub within : at ≤ length piece
  pub ready : Ready
  pub serves : Serves
  pub up : down ≡ false
  pub taken : Taken
  pub written : written_before ≤ written_now
  pub looked : looked_before ≤ looked_now
  pub reported : Reported

-- so many bytes of the input have been taken, and the lines that have ended in them were answered
pub record SoFar (user : List ℕ) (b : Part) (h : History) (es : List Entry) (u v : Option (List ℕ)) (f : Bool) (sum : ℕ) (bytes : List ℕ) : Type 0 where
  pub lines : TakesPiece user fresh bytes b [] h es u v f
  pub count : length bytes ≡ sum

-- what stays true while the input is read, of which no line has put the power down
pub record InputLoop (read_before read_now written_before written_now looked_before looked_now : ℕ) (sum : ℕ) (buf : List ℕ) (down : Bool) (Ready Serves Taken Reported : Type 0) : Type 0 where
  pub ready : Ready
  pub serves : Serves
  pub up : down ≡ false
  pub taken : Taken
  pub read : read_before ≤ read_now
  pub written : written_before ≤ written_now
  pub looked : looked_before ≤ looked_now
  pub reported : Reported
  pub total : sum ≤ 1000000000
  pub piece : length buf ≡ 65536
