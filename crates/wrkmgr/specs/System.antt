-- What is seen of the seats of a server of the system.
use Rattle.std.specs.Prelude.{◌≡◌, List, All, None}
use Rattle.wm_children.specs.Children.{child_faults, child_misses}
use Rattle.wm_children.specs.declared.spawner.SysSpawner.{SysSpawner}
use Rattle.wm_listener.specs.System.{sys_hand}
use Rattle.wm_listener.specs.declared.system.desk.SysDesk.{SysDesk}
use Rattle.wm_serve.specs.Seats.{IsFresh, Tellers, tellers}
use Rattle.wm_serve.specs.declared.seat.Seat.{Seat}

-- what tells of their desks and spawners
abbrev pub sys_tellers : {R : Type 0} → Tellers SysDesk (SysSpawner R)
sys_tellers = tellers sys_hand (λ _. None) (λ d. d.dries) (λ d. d.faults) (λ _. None) (λ _. None) child_misses child_faults

-- nothing has run on any of them
abbrev pub AreFresh : {K R C : Type 0} → List (Seat K SysDesk (SysSpawner R) C) → Type 0
AreFresh seats = All (IsFresh sys_tellers) seats
