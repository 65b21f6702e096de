-- What is seen of a spawner in memory.
use Rattle.std.specs.Prelude.{ℕ, ◌+◌, ◌-◌, ◌^◌, min, false, List, ◌++◌, Option}
use Rattle.wm_base.specs.declared.job.Asked.{Asked}
use Rattle.wm_base.specs.declared.job.StartOrder.{StartOrder}
use Rattle.wm_outside.specs.declared.memory.calls.Calls.{Calls}
use Rattle.wm_outside.specs.declared.memory.children.Child.{Child}
use Rattle.wm_outside.specs.declared.memory.spawner.MemSpawner.{MemSpawner}
use Rattle.wm_traits.specs.declared.spawner.Told.{Told}
use Rattle.wm_traits.specs.Cause.{raised}
use Rattle.wm_traits.specs.Told.{told_if}
use Rattle.wm_outside.specs.Children.{serials, killed_ones, due_ones}

-- the children that are out, the longest out first
abbrev pub spawner_children : MemSpawner → List Child
spawner_children s = s.children

-- how many looks a child is out before it has ended by itself
abbrev pub spawner_lag : MemSpawner → ℕ
spawner_lag s = s.lag

abbrev pub spawner_starts : MemSpawner → Calls
spawner_starts s = s.starts

abbrev pub spawner_kills : MemSpawner → Calls
spawner_kills s = s.kills

-- the calls of `ended` and `wait_ended`
abbrev pub spawner_looks : MemSpawner → Calls
spawner_looks s = s.looks

-- the kills and looks that failed
abbrev pub spawner_faults : MemSpawner → ℕ
spawner_faults s = s.kills.failed + s.looks.failed

abbrev pub spawner_asked : MemSpawner → Option (List Asked)
spawner_asked s = told_if s.tells s.asked.items

abbrev pub spawner_told : MemSpawner → Option (List Told)
spawner_told s = told_if s.tells s.told.items

abbrev pub spawner_out : MemSpawner → Option (List ℕ)
spawner_out s = told_if s.tells (serials s.children)

-- the moments until which reports were waited for
abbrev pub spawner_awaited : MemSpawner → Option (List (Option ℕ))
spawner_awaited s = told_if s.tells s.awaited.items

-- those that the next look can report
abbrev pub spawner_reporting : MemSpawner → Option (List ℕ)
spawner_reporting s = told_if s.tells (killed_ones s.children ++ due_ones (raised s.looks.made) s.children)

-- the child of an order that is started now: it has ended at the look after `lag` more
abbrev pub child_of : MemSpawner → StartOrder → Child
child_of s order = record { serial = order.serial; pre = order.pre; killed = false; due = raised (min (s.looks.made + s.lag) (2 ^ 64 - 1)) }
