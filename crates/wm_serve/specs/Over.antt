-- What a server calls itself, and how it is over where its status is 0.
use Rattle.std.specs.Prelude.{◌≡◌, ◌⊎◌, ℕ, ◌≤◌, false, true, List, [], ◌∷◌, ◌++◌, All, length, map, take, ⊤, None}
use Rattle.std.specs.List.{AllZip, list_all}
use Rattle.wm_base.specs.declared.qname.QName.{QName}
use Rattle.wm_traits.specs.Cause.{raised}
use Rattle.wm_law.specs.History.{after}
use Rattle.wm_law.specs.Laws.{IsIn}
use Rattle.wm_law.specs.Pending.{busy, pending}
use Rattle.wm_law.specs.Power.{is_on}
use Rattle.wm_law.specs.declared.call.Call.{Call}
use Rattle.wm_law.specs.declared.call.Call.TheVariants.{Change}
use Rattle.wm_law.specs.declared.call.Entry.{Entry}
use Rattle.wm_law.specs.declared.call.Reply.TheVariants.{PowerDown}
use Rattle.wm_law.specs.declared.command.Command.TheVariants.{Pwrdwnsys as PowerCommand}
use Rattle.wm_law.specs.declared.command.Pwrdwnsys.{Pwrdwnsys}
use Rattle.wm_law.specs.declared.state.State.{State}
use Rattle.wm_floor.specs.Floor.{Floored, Seen}
use Rattle.wm_floor.specs.Ledger.{behind, caller_of}
use Rattle.wm_floor.specs.declared.answer.Waiting.{Waiting}
use Rattle.wm_floor.specs.History.{reached}
use Rattle.wm_run.specs.Session.{end_call, start_call}
use Rattle.wm_turn.specs.Passed.{StartsWith, own}
use Rattle.wm_serve.specs.Seats.{Runs, Tellers, is_dry}
use Rattle.wm_serve.specs.declared.seat.Seat.{Seat}
use Rattle.wm_serve.specs.declared.seat.Seat.TheVariants.{Worker, Closer, Monitor}

-- the entries are those of the server's own calls: it starts the controlling subsystem, and behind that it may put the power down
abbrev pub AreServerCalls : QName → List Entry → Type 0
AreServerCalls ctl es = (n : ℕ) × (map (λ e. e.call) es ≡ take n (start_call ctl ∷ end_call ∷ []))

-- an accepted PWRDWNSYS
pub record PutsDown (e : Entry) : Type 0 where
  pub user : List ℕ
  pub command : Pwrdwnsys
  pub call : e.call ≡ Change user (PowerCommand command)
  pub reply : e.reply ≡ PowerDown

-- one of so many workers has an accepted PWRDWNSYS
pub record HasWorkersPowerDown (workers : ℕ) (log : List Entry) : Type 0 where
  pub entry : Entry
  pub among : IsIn entry log
  pub accepted : PutsDown entry
  pub least : 1 ≤ entry.caller
  pub most : entry.caller ≤ workers

-- the server's own PWRDWNSYS finds no active job but prestart jobs
pub record EndsQuietly (opened : State) (log : List Entry) : Type 0 where
  pub before : List Entry
  pub entry : Entry
  pub behind : List Entry
  pub parts : log ≡ before ++ entry ∷ behind
  pub caller : entry.caller ≡ 0
  pub call : entry.call ≡ end_call
  pub quiet : busy (after opened before) ≡ 0

-- the power isn't on behind a part of what was seen, in which the server's own entries are these
pub record WasDown (opened : State) (mine seen : List Entry) : Type 0 where
  pub front : List Entry
  pub begins : StartsWith seen front
  pub own : own caller_of 0 front ≡ mine
  pub down : is_on (after opened front).power ≡ false

-- the first of the server's own calls is alone there
pub record WasDownFirst (opened : State) (ctl : QName) (seen : List Entry) : Type 0 where
  pub first : Entry
  pub call : first.call ≡ start_call ctl
  pub down : WasDown opened (first ∷ []) seen

module _ {K : Type 0} where
  -- a call of the pass was made: it alone is new among the pass's own entries
  pub record MakesOne (c : Call) (old new : Seen K) : Type 0 where
    pub entry : Entry
    pub call : entry.call ≡ c
    pub mine : new.mine ≡ old.mine ++ entry ∷ []

  -- the same or nothing
  abbrev pub MayMake : Call → Seen K → Seen K → Type 0
  MayMake c old new = (new.mine ≡ old.mine) ⊎ MakesOne c old new

  -- a call of the pass was made, whose entry stands at this place, last of what the pass has then seen
  pub record MakesAt (c : Call) (old new : Seen K) (place : ℕ) : Type 0 where
    pub found : List Entry
    pub entry : Entry
    pub call : entry.call ≡ c
    pub caller : entry.caller ≡ old.number
    pub mine : new.mine ≡ old.mine ++ entry ∷ []
    pub begins : StartsWith found old.seen
    pub seen : new.seen ≡ found ++ entry ∷ []
    pub last : place ≡ length new.seen

  -- what waits, as a pass has looked at it
  pub record IsLookOf (f : Floored K) (p : Seen K) (look : Waiting) : Type 0 where
    pub at : look.at ≡ length p.seen
    pub pending : look.pending ≡ pending (reached (behind f.opening p.seen)) 0

module _ {K D P C : Type 0} where
  -- no connection could come any more to the worker, whose desk counts this; nothing of another seat
  abbrev pub DryRose : Tellers D P → Seat K D P C → Seat K D P C → Type 0
  DryRose t (Worker w) (Worker w') = raised (t.dries w.desk) ≤ t.dries w'.desk
  DryRose t (Worker w) (Closer c') = ⊥
  DryRose t (Worker w) (Monitor m') = ⊥
  DryRose t (Closer c) new = ⊤
  DryRose t (Monitor m) new = ⊤

  -- at a moment between two each worker had met that no connection could come any more
  pub record WereDry (t : Tellers D P) (f : Floored K) (old new : List (Seat K D P C)) : Type 0 where
    pub mid : List (Seat K D P C)
    pub ran : AllZip (Runs t f) old mid
    pub dry : list_all is_dry mid ≡ true
    pub rest : AllZip (Runs t f) mid new

  -- the monitor keeps no report, if it is a monitor's
  abbrev pub KeepsNone : Seat K D P C → Type 0
  KeepsNone (Worker w) = ⊤
  KeepsNone (Closer c) = ⊤
  KeepsNone (Monitor m) = m.monitor.kept ≡ None

  -- a server's calls were made over an open floor: its first one, and the last, which found no active job but prestart jobs; no connection could come any more, or the power wasn't on; and each report of a monitor was taken
  pub record Finishes (Dry : Type 0) (opened : State) (ctl : QName) (new : List (Seat K D P C)) (last : Seen K) : Type 0 where
    pub started : 1 ≤ length last.mine
    pub quiet : 2 ≤ length last.mine → EndsQuietly opened last.seen
    pub over : Dry ⊎ WasDownFirst opened ctl last.seen
    pub told : All KeepsNone new

  -- a server is over: the same, where a worker's PWRDWNSYS was accepted unless no connection could come any more to any worker
  pub record IsOver (t : Tellers D P) (workers : ℕ) (opened : State) (log : List Entry) (old new : List (Seat K D P C)) : Type 0 where
    pub started : 1 ≤ length (own caller_of 0 log)
    pub quiet : 2 ≤ length (own caller_of 0 log) → EndsQuietly opened log
    pub over : AllZip (DryRose t) old new ⊎ HasWorkersPowerDown workers log
    pub told : All KeepsNone new
