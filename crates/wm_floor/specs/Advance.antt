-- What a monitor does between two moments, while others call too.
use Rattle.std.specs.Prelude.{◌≡◌, ℕ, ◌+◌, ◌*◌, ◌≤◌, Bool, true, List, [], ◌++◌, length, map, Option, count_by}
use Rattle.std.specs.List.{list_all}
use Rattle.wm_base.specs.declared.job.Asked.{Asked}
use Rattle.wm_traits.specs.declared.spawner.Told.{Told}
use Rattle.wm_traits.specs.Told.{Grows}
use Rattle.wm_law.specs.declared.call.Call.{Call}
use Rattle.wm_law.specs.declared.call.Entry.{Entry}
use Rattle.wm_law.specs.History.{is_monitor_call, orders, reports}
use Rattle.wm_floor.specs.History.{reached}
use Rattle.wm_floor.specs.Asking.{AsksFor}
use Rattle.wm_floor.specs.Lists.{since, Extends, IsAmong}
use Rattle.wm_floor.specs.Monitor.{RisesBy, call_of, hands_of, is_spawner_fault}
use Rattle.wm_floor.specs.Floor.{Floored, IsPassOf, IsSame, Seen}
use Rattle.wm_floor.specs.Ledger.{behind}
use Rattle.wm_floor.specs.declared.monitor.Monitor.{Monitor}
use Rattle.wm_floor.specs.Idle.{NoneIsIdle}
use Rattle.wm_floor.specs.Scene.{Scene, scene, spawner_seen}

-- a call of a monitor
abbrev pub is_monitors : Entry → Bool
is_monitors e = is_monitor_call e.call

-- at most so many Hands, each with at most one entry more, and at most so many others
pub record IsWithin (hands others : ℕ) (es : List Entry) : Type 0 where
  pub hands_most : hands_of es ≤ hands
  pub others_most : length es ≤ 2 * hands_of es + others

-- asks stand for these orders, a kill that is tried again aside, and a kill that failed was so before or was ordered
pub record HasAsked (ordered : List Asked) (old new : Scene) : Type 0 where
  pub asked : AsksFor old.failed old.spawning.asked new.spawning.asked ordered
  pub failed : IsAmong new.failed (old.failed ++ ordered)

-- these reports, and then the kept one, are the one kept before, and then what the spawner told since; each of a failed start among these has raised its count
pub record HasReported (reported : List Call) (old new : Scene) : Type 0 where
  pub more : List Call
  pub whole : reported ++ map call_of new.kept ≡ map call_of old.kept ++ more
  pub told : Grows old.spawning.told new.spawning.told more
  pub misses : RisesBy old.spawning.misses (count_by is_spawner_fault more) new.spawning.misses

module _ {K : Type 0} where
  -- the entries that a pass has made since
  abbrev pub added : Seen K → Seen K → List Entry
  added old new = since old.mine new.mine

  -- the pass goes on: it has seen at least what it had seen, its own entries are those that it had and monitors' calls, none of which is idle, and its mark hasn't fallen
  pub record GoesOn (f : Floored K) (old new : Seen K) : Type 0 where
    pub own : IsPassOf f new
    pub same : IsSame old new
    pub seen : Extends old.seen new.seen
    pub mine : Extends old.mine new.mine
    pub calls : list_all is_monitors (added old new) ≡ true
    pub no_idle : NoneIsIdle old.number [] (reached (behind f.opening old.seen)) (since old.seen new.seen)
    pub mark : old.mark ≤ new.mark

  -- the monitor's part from one moment to another, with so many Hands and others at the most, where this was ordered
  pub record AdvancesFor (f : Floored K) (hands others : ℕ) (ordered : List Asked) (p q : Seen K) (old new : Scene) : Type 0 where
    pub pass : GoesOn f p q
    pub within : IsWithin hands others (added p q)
    pub asked : HasAsked ordered old new
    pub reported : HasReported (reports (added p q) p.number) old new
    pub faults : old.spawning.faults ≤ new.spawning.faults

  -- the same where its new Hands ordered it
  abbrev pub Advances : Floored K → ℕ → ℕ → Seen K → Seen K → Scene → Scene → Type 0
  Advances f hands others p q old new = AdvancesFor f hands others (orders (added p q) p.number) p q old new

  -- the same of a monitor, where the spawner tells so much
  abbrev pub MonitorAdvances : {P : Type 0} → (P → Option (List Asked)) → (P → Option (List Told)) → (P → ℕ) → (P → ℕ) → Floored K → ℕ → ℕ → Seen K → Monitor → P → Seen K → Monitor → P → Type 0
  MonitorAdvances asked told misses faults f hands others p monitor spawner q monitor' spawner' =
      Advances f hands others p q (scene monitor (spawner_seen asked told misses faults spawner)) (scene monitor' (spawner_seen asked told misses faults spawner'))
