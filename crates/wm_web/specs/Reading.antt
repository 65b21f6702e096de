-- What is read of a connection.
use Rattle.std.specs.Prelude.{◌≡◌, ℕ, List, [], ◌∷◌, ◌++◌, Option}
use Rattle.wm_traits.specs.Told.{Takes}
use Rattle.wm_web.specs.declared.end.WebEnd.{WebEnd}
use Rattle.wm_web.specs.declared.end.WebEnd.TheVariants.{CutShort, Done}

-- some bytes were taken off the source, and are behind those that were unread
pub record ReadsOn (left_before left_now : Option (List ℕ)) (unread_before unread_now : List ℕ) : Type 0 where
  pub bytes : List ℕ
  pub taken : Takes left_before bytes left_now
  pub unread : unread_now ≡ unread_before ++ bytes

-- how a connection ends with its input
abbrev pub ended : List ℕ → WebEnd
ended [] = Done
ended (byte ∷ bytes) = CutShort
