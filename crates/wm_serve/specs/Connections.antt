-- The connections that a worker serves, one after another.
use Rattle.std.specs.Prelude.{◌≡◌, ℕ, ◌≤◌, Bool, true, not, List, [], ◌∷◌, Option, Some, IfSome}
use Rattle.std.specs.List.{list_all}
use Rattle.wm_law.specs.History.{is_monitor_call}
use Rattle.wm_law.specs.declared.call.Entry.{Entry}
use Rattle.wm_floor.specs.Floor.{HasLooked, Seen}
use Rattle.wm_floor.specs.declared.opened.Opened.{Opened}
use Rattle.wm_listener.specs.Had.{Had}
use Rattle.wm_floor.specs.Lists.{Extends, since}
use Rattle.wm_traits.specs.Told.{Grows, IsEmpty}
use Rattle.wm_web.specs.Serving.{TakesSession}
use Rattle.wm_web.specs.declared.end.WebEnd.{WebEnd}
use Rattle.wm_web.specs.declared.end.WebEnd.TheVariants.{ReadFault, WriteFault}

-- whether the entry is that of a user's command: monitors make all other calls
abbrev pub is_command : Entry → Bool
is_command e = not (is_monitor_call e.call)

module _ {K : Type 0} where
  -- the pass has its own entries and, behind them, none but those of users' commands
  pub record MakesCommands (old new : Seen K) : Type 0 where
    pub mine : Extends old.mine new.mine
    pub commands : list_all is_command (since old.mine new.mine) ≡ true

  -- one connection that was given back: its requests were served, and it ended so; a read or a write that failed was counted
  pub record ServesOne (o : Opened K) (h : Had) (old new : Seen K) : Type 0 where
    pub end : WebEnd
    pub before : Option (List ℕ)
    pub unwritten : IsEmpty before
    pub session : TakesSession o end (Some h.given) (Some h.left) old new before (Some h.written)
    pub read_fault : end ≡ ReadFault → 1 ≤ h.read_faults
    pub write_fault : end ≡ WriteFault → 1 ≤ h.write_faults

  -- the first connection, behind looks, and then the rest
  pub record ServesFirst (o : Opened K) (h : Had) (Rest : Seen K → Seen K → Type 0) (old new : Seen K) : Type 0 where
    pub start : Seen K
    pub mid : Seen K
    pub looked : HasLooked old start
    pub one : ServesOne o h start mid
    pub rest : Rest mid new

  -- connections one after another, with looks around them
  abbrev pub ServesAll : Opened K → List Had → Seen K → Seen K → Type 0
  ServesAll o [] old new = HasLooked old new
  ServesAll o (h ∷ hs) old new = ServesFirst o h (ServesAll o hs) old new

  -- these connections are new among those that a desk tells
  pub record ServesMore (o : Opened K) (before now : Option (List Had)) (old new : Seen K) : Type 0 where
    pub more : List Had
    pub had : Grows before now more
    pub served : ServesAll o more old new

  -- where the desk tells its connections, those that are new were served
  abbrev pub DeskServes : Opened K → Option (List Had) → Option (List Had) → Seen K → Seen K → Type 0
  DeskServes o before now old new = IfSome now (λ _. ServesMore o before now old new)
