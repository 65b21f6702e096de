-- What a monitor does, whatever number of entries it makes.
use Rattle.std.specs.Prelude.{ℕ, Option, List}
use Rattle.wm_base.specs.declared.job.Asked.{Asked}
use Rattle.wm_traits.specs.declared.spawner.Told.{Told}
use Rattle.wm_floor.specs.Floor.{Floored, Seen}
use Rattle.wm_floor.specs.Advance.{Advances}
use Rattle.wm_floor.specs.Scene.{Scene, scene, spawner_seen}
use Rattle.wm_floor.specs.declared.monitor.Monitor.{Monitor}

module _ {K : Type 0} where
  -- the monitor's part, with some number of entries
  pub record Attends (f : Floored K) (p q : Seen K) (old new : Scene) : Type 0 where
    pub hands : ℕ
    pub others : ℕ
    pub part : Advances f hands others p q old new

  -- the same, where the spawner tells so much
  abbrev pub MonitorAttends : {P : Type 0} → (P → Option (List Asked)) → (P → Option (List Told)) → (P → ℕ) → (P → ℕ) → Floored K → Seen K → Monitor → P → Seen K → Monitor → P → Type 0
  MonitorAttends asked told misses faults f p monitor spawner q monitor' spawner' =
      Attends f p q (scene monitor (spawner_seen asked told misses faults spawner)) (scene monitor' (spawner_seen asked told misses faults spawner'))
