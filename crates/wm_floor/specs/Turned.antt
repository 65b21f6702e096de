-- What a call of a monitor answers: what waited as it looked last, and that there was nothing to do where it made no entry.
use Rattle.std.specs.Prelude.{◌≡◌, ℕ, ◌<◌, ◌≤◌, length, take, drop, List, Option, None, IfSome}
use Rattle.wm_traits.specs.Told.{IsEmpty}
use Rattle.wm_law.specs.declared.pending.Pending.{Pending}
use Rattle.wm_law.specs.Pending.{next_moment, pending}
use Rattle.wm_turn.specs.Passed.{own}
use Rattle.wm_floor.specs.History.{reached}
use Rattle.wm_floor.specs.Monitor.{hands_of}
use Rattle.wm_floor.specs.declared.report.Report.{Report}
use Rattle.wm_floor.specs.Floor.{Floored, Seen}
use Rattle.wm_floor.specs.Ledger.{behind, caller_of}

-- so many entries of the history: no fewer than the pass had seen, and it has seen them since
pub record IsSeenSince {K : Type 0} (old new : Seen K) (at : ℕ) : Type 0 where
  pub least : length old.seen ≤ at
  pub most : at ≤ length new.seen

-- this waited for the monitor behind so many entries, which were seen since, and it made no Hand behind them
pub record WaitedAt {K : Type 0} (f : Floored K) (old new : Seen K) (at : ℕ) (p : Pending) : Type 0 where
  pub seen : IsSeenSince old new at
  pub pending : p ≡ pending (reached (behind f.opening (take at new.seen))) old.number
  pub no_hand : hands_of (own caller_of old.number (drop at new.seen)) ≡ 0

-- behind so many entries, which were seen since, nothing was due by the moment, where it is told
pub record WasNotDue {K : Type 0} (f : Floored K) (old new : Seen K) (coming : Option ℕ) : Type 0 where
  pub at : ℕ
  pub seen : IsSeenSince old new at
  pub due : IfSome (next_moment (reached (behind f.opening (take at new.seen)))) (λ due. IfSome coming (λ now. now < due))

-- beside orders, of which what waited tells, a monitor had nothing to do: it kept no report, nothing was due, and no child had a report
pub record HadNothing {K : Type 0} (f : Floored K) (old new : Seen K) (kept : Option Report) (coming : Option ℕ) (reporting : Option (List ℕ)) : Type 0 where
  pub no_report : kept ≡ None
  pub not_due : WasNotDue f old new coming
  pub no_child : IsEmpty reporting
