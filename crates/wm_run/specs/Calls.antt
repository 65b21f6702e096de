-- The session's pass, and a call of it.
use Rattle.std.specs.Prelude.{◌≡◌, ℕ, List, [], ◌∷◌, ◌++◌, Option, IfSome}
use Rattle.wm_law.specs.declared.call.Call.{Call}
use Rattle.wm_law.specs.declared.call.Entry.{Entry}
use Rattle.wm_law.specs.declared.call.Reply.{Reply}
use Rattle.wm_law.specs.History.{entries_of}
use Rattle.wm_turn.specs.Passed.{StartsWith}
use Rattle.wm_floor.specs.Floor.{Seen, entry_of}
use Rattle.wm_floor.specs.declared.opened.Opened.{Opened}

-- the number of the session's pass
abbrev pub session_pass : ℕ
session_pass = 0

module _ {K : Type 0} where
  -- a call of a pass: behind a history that begins with what the pass had seen stands its entry, of the moment that the clock gave, where it is told; it alone is new among the pass's own
  pub record Called (o : Opened K) (c : Call) (coming : Option ℕ) (old new : Seen K) (reply : Reply) : Type 0 where
    pub found : List Entry
    pub now : ℕ
    pub moment : IfSome coming (λ told. now ≡ told)
    pub begins : StartsWith found old.seen
    pub seen : new.seen ≡ found ++ entry_of o found old.number c now ∷ []
    pub mine : new.mine ≡ old.mine ++ entry_of o found old.number c now ∷ []
    pub replied : reply ≡ (entry_of o found old.number c now).reply

-- the session's one entry among these is that of a call, with this reply
pub record MakesCall (c : Call) (reply : Reply) (es : List Entry) : Type 0 where
  pub entry : Entry
  pub only : entries_of session_pass es ≡ entry ∷ []
  pub call : entry.call ≡ c
  pub replied : reply ≡ entry.reply
