-- What lies in a `WaitingJobs`.
use Rattle.std.specs.Prelude.{◌≡◌, ℕ, ◌+◌, ◌^◌, ◌<◌, ◌≤◌, true, length, map}
use Rattle.wm_ordered.specs.Ordered.{Pairs}
use Rattle.wm_ordered.specs.declared.waiter.Waiter.{Waiter}
use Rattle.wm_ordered.specs.declared.keys.Spot.{Spot}
use Rattle.wm_ordered.specs.declared.keys.Rise.{Rise}
use Rattle.wm_ordered.specs.declared.waiting.WaitingJobs.TheInside.{Inside}
use Rattle.wm_ordered.specs.Index.{IsIndex, capacity_of}
use Rattle.wm_ordered.specs.Keys.{row_of, waiters_of, spot_of, rise_of, nothing_of}
use Rattle.wm_ordered.specs.Waiting.{Waiting, serial_of, HavePlaces, HavePriorities, is_up, is_ahead}

-- what lies in it agrees: each index has the rows of its waiters, and each map has room for all and for `spare` more
pub record Agrees (by_serial : Pairs ℕ Waiter) (by_spot : Pairs Spot ℕ) (by_rise : Pairs Rise (Unit {0})) (by_line : Pairs Spot ℕ) (clock spare : ℕ) : Type 0 where
  pub keyed : by_serial.items ≡ map row_of (waiters_of by_serial.items)
  pub places : HavePlaces (waiters_of by_serial.items)
  pub priorities : HavePriorities (waiters_of by_serial.items)
  pub turns : IsIndex spot_of serial_of (is_up clock) (waiters_of by_serial.items) by_spot.items
  pub early : IsIndex rise_of nothing_of (is_ahead clock) (waiters_of by_serial.items) by_rise.items
  pub lines : IsIndex spot_of serial_of (λ w. true) (waiters_of by_serial.items) by_line.items
  pub most : length by_serial.items + spare < 2 ^ 32
  pub room : length by_serial.items + spare ≤ capacity_of by_serial
  pub room_in_turns : length by_serial.items + spare ≤ capacity_of by_spot
  pub room_in_early : length by_serial.items + spare ≤ capacity_of by_rise
  pub room_in_lines : length by_serial.items + spare ≤ capacity_of by_line

-- what a contract sees
abbrev pub waiting_of : Inside → Waiting
waiting_of t = record { items = waiters_of t.all.items; clock = t.clock; spare = t.room }

abbrev pub IsWaitingInside : Inside → Type 0
IsWaitingInside t = Agrees t.all t.turns t.early t.lines t.clock t.room
