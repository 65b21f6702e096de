-- What a run has, and what it does between two moments: the session and the monitor each go on with a pass of their own.
use Rattle.std.specs.Prelude.{◌≡◌, ℕ, ◌<◌, ◌≤◌, ◌==◌, ◌||◌, Bool, List, [], length, take, Option}
use Rattle.wm_base.specs.declared.job.Asked.{Asked}
use Rattle.wm_law.specs.declared.call.Entry.{Entry}
use Rattle.wm_law.specs.Pending.{orders_left}
use Rattle.wm_traits.specs.declared.spawner.Told.{Told}
use Rattle.wm_turn.specs.Passed.{StartsWith, own}
use Rattle.wm_floor.specs.History.{reached}
use Rattle.wm_floor.specs.Floor.{IsPassOf, IsSame, Seen}
use Rattle.wm_floor.specs.Ledger.{behind, caller_of}
use Rattle.wm_floor.specs.Idle.{monitor_pass}
use Rattle.wm_floor.specs.Lists.{Extends}
use Rattle.wm_floor.specs.Monitor.{is_own}
use Rattle.wm_floor.specs.Attends.{Attends}
use Rattle.wm_floor.specs.Scene.{Spawning, scene, spawner_seen}
use Rattle.wm_run.specs.Calls.{session_pass}
use Rattle.wm_run.specs.declared.running.Run.{Run}

-- an entry of the session, or a monitor's call of the monitor
abbrev pub is_of_run : Entry → Bool
is_of_run e = e.caller == session_pass || is_own e

module _ {K : Type 0} where
  -- the monitor has seen at least as many entries as a front of what the session has seen, in which all of the session's own are
  pub record HasWatched (r : Run K) : Type 0 where
    pub front : List Entry
    pub begins : StartsWith r.session.seen front
    pub all : own caller_of session_pass front ≡ r.session.mine
    pub within : length front ≤ length r.watch.seen

  -- both passes are the floor's, with the numbers of the session and of the monitor, which has seen what the session has called
  pub record IsRunning (r : Run K) : Type 0 where
    pub session : IsPassOf r.floor r.session
    pub watch : IsPassOf r.floor r.watch
    pub zero : r.session.number ≡ session_pass
    pub one : r.watch.number ≡ monitor_pass
    pub watched : HasWatched r

  -- nothing was seen or called yet
  pub record IsFresh (r : Run K) : Type 0 where
    pub unseen : r.session.seen ≡ []
    pub uncalled : r.session.mine ≡ []
    pub unwatched : r.watch.seen ≡ []
    pub unmonitored : r.watch.mine ≡ []

  -- a pass goes on: it has seen at least what it had seen, keeps its own entries, and its mark hasn't fallen
  pub record PassGoesOn (old new : Seen K) : Type 0 where
    pub same : IsSame old new
    pub seen : Extends old.seen new.seen
    pub mine : Extends old.mine new.mine
    pub mark : old.mark ≤ new.mark

  -- a run between two moments, with what the spawner told: its floor is the same, the session goes on, and the monitor did its part
  pub record Serves (old new : Run K) (before now : Spawning) : Type 0 where
    pub floor : new.floor ≡ old.floor
    pub session : PassGoesOn old.session new.session
    pub part : Attends old.floor old.watch new.watch (scene old.monitor before) (scene new.monitor now)

  -- the same, where the spawner tells so much
  abbrev pub RunServes : {P : Type 0} → (P → Option (List Asked)) → (P → Option (List Told)) → (P → ℕ) → (P → ℕ) → Run K → P → Run K → P → Type 0
  RunServes asked told misses faults old spawner new spawner' = Serves old new (spawner_seen asked told misses faults spawner) (spawner_seen asked told misses faults spawner')

  -- the monitor left no order as it looked last, behind so many entries at the least
  pub record LeftNoOrder (r : Run K) (least : ℕ) : Type 0 where
    pub at : ℕ
    pub behind_least : least ≤ at
    pub most : at ≤ length r.watch.seen
    pub none : orders_left (reached (behind r.floor.opening (take at r.watch.seen))) monitor_pass ≡ 0

  -- a history of a run: it begins with what both passes have seen, the session made no other call of it, and there are no other callers
  pub record IsHistory (r : Run K) (log : List Entry) : Type 0 where
    pub session : StartsWith log r.session.seen
    pub watch : StartsWith log r.watch.seen
    pub calls : r.session.mine ≡ own caller_of session_pass log
    pub others : (n : ℕ) → monitor_pass < n → own caller_of n log ≡ []

  -- the whole history: the monitor made no other call of it either
  pub record IsWhole (r : Run K) (log : List Entry) : Type 0 where
    pub history : IsHistory r log
    pub monitors : r.watch.mine ≡ own caller_of monitor_pass log
