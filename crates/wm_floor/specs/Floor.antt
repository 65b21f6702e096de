-- A floor and its passes, as a contract sees them, and what each call does to a pass.
use Rattle.std.specs.Prelude.{◌≡◌, ◌⊎◌, ◌<◌, ◌≤◌, ℕ, ℤ, List, [], ◌∷◌, ◌++◌, length, Some, None, Result, Err, IfOk, OnErr}
use Rattle.atomic_table.specs.Seated.{TableId}
use Rattle.wm_law.specs.declared.call.Call.{Call}
use Rattle.wm_law.specs.declared.call.Entry.{Entry}
use Rattle.wm_law.specs.declared.state.State.{State}
use Rattle.wm_law.specs.History.{IsLegal}
use Rattle.wm_turn.specs.Passed.{Passed, StartsWith, own}
use Rattle.wm_law.specs.Pending.{pending}
use Rattle.wm_floor.specs.History.{entry_at, reached}
use Rattle.wm_floor.specs.Keeping.{IsLeft, IsOpened, Telling}
use Rattle.wm_floor.specs.Limit.{limit_of}
use Rattle.wm_floor.specs.declared.call_fault.CallFault.{CallFault}
use Rattle.wm_floor.specs.declared.call_fault.CallFault.TheVariants.{LogFull}
use Rattle.wm_floor.specs.declared.open_fault.OpenFault.{OpenFault}
use Rattle.wm_floor.specs.declared.open_fault.OpenFault.TheVariants.{NoMemory}
use Rattle.wm_floor.specs.declared.answer.Answered.{Answered}
use Rattle.wm_floor.specs.declared.answer.Waiting.{Waiting}
use Rattle.wm_floor.specs.declared.opened.Opened.{Opened}
use Rattle.wm_floor.specs.Ledger.{behind, caller_of}

-- which turnstile its callers go through, and what it was opened with
pub record Floored (K : Type 0) : Type 0 where
  pub turnstile : TableId
  pub opening : Opened K

-- a pass of a floor: its number, what it has seen of the history, its own entries, its mark, and, for pass 0, how many passes were made from it and what those that were joined leave
abbrev pub Seen : Type 0 → Type 0
Seen K = Passed (Opened K) Entry

module _ {K : Type 0} where
  -- the pass is one of this floor and isn't in a turn; what it has seen is legal, and its own entries are those of it with its number
  pub record IsPassOf (f : Floored K) (p : Seen K) : Type 0 where
    pub turnstile : p.turnstile ≡ f.turnstile
    pub opening : p.opening ≡ Some f.opening
    pub free : p.turn ≡ None
    pub legal : IsLegal f.opening.state p.seen
    pub mine : p.mine ≡ own caller_of p.number p.seen

  -- the pass has the number that it had, and no pass was made from it or joined to it
  pub record IsSame (old new : Seen K) : Type 0 where
    pub number : new.number ≡ old.number
    pub made : new.made ≡ old.made
    pub joined : new.joined ≡ old.joined

  -- it has looked on: it has seen at least what it had seen, has no entry more, and its mark hasn't fallen
  pub record HasLooked (old new : Seen K) : Type 0 where
    pub seen : StartsWith new.seen old.seen
    pub mine : new.mine ≡ old.mine
    pub mark : old.mark ≤ new.mark

  -- this waits for the monitor of the pass's number, behind all that the pass has seen
  pub record Waits (f : Floored K) (p : Seen K) (w : Waiting) : Type 0 where
    pub at : w.at ≡ length p.seen
    pub pending : w.pending ≡ pending (reached (behind f.opening p.seen)) p.number

  -- the entry that the machine makes of a call behind what was found
  abbrev pub entry_of : Opened K → List Entry → ℕ → Call → ℕ → Entry
  entry_of o found caller call now = entry_at (behind o found) caller call now

  -- the call is entered: behind what was found stands its entry, at the place that is told and with the reply that is told, and it alone is new among the pass's own
  pub record IsEntered (o : Opened K) (found : List Entry) (call : Call) (now : ℕ) (old new : Seen K) (answered : Answered) : Type 0 where
    pub seen : new.seen ≡ found ++ entry_of o found old.number call now ∷ []
    pub mine : new.mine ≡ old.mine ++ entry_of o found old.number call now ∷ []
    pub place : answered.place ≡ length new.seen
    pub reply : answered.reply ≡ (entry_of o found old.number call now).reply

  -- the call isn't entered: the pass has seen what was found, and has no entry more
  pub record IsRefused (found : List Entry) (old new : Seen K) : Type 0 where
    pub seen : new.seen ≡ found
    pub mine : new.mine ≡ old.mine

  -- a call of a pass: it found a history that begins with what the pass had seen. It is entered there, or an `Err` says why not: the log is full exactly where what was found has as many entries as its limit
  pub record IsCalled (o : Opened K) (call : Call) (now : ℕ) (old new : Seen K) (result : Result Answered CallFault) : Type 0 where
    pub found : List Entry
    pub begins : StartsWith found old.seen
    pub ok : IfOk result (IsEntered o found call now old new)
    pub err : OnErr result (IsRefused found old new)
    pub full : limit_of call o.limit ≤ length found → result ≡ Err (LogFull (limit_of call o.limit))
    pub not_full : length found < limit_of call o.limit → (n : ℕ) → result ≡ Err (LogFull n) → ⊥

-- an opening that failed left the rows, or, for want of memory, those of the opened state
abbrev pub IsLeftOrOpened : ℤ → Telling → Telling → OpenFault → Type 0
IsLeftOrOpened offset old new fault = IsLeft old new ⊎ ((fault ≡ NoMemory) × ((s : State) × IsOpened offset s old new))
