-- What is seen of the seats of a server in memory.
use Rattle.std.specs.Prelude.{List, All}
use Rattle.wm_listener.specs.Memory.{desk_dries, desk_faults, desk_had, desk_hand}
use Rattle.wm_listener.specs.declared.memory.desk.MemDesk.{MemDesk}
use Rattle.wm_outside.specs.MemSpawner.{spawner_asked, spawner_faults, spawner_starts, spawner_told}
use Rattle.wm_outside.specs.declared.memory.spawner.MemSpawner.{MemSpawner}
use Rattle.wm_serve.specs.Seats.{IsFresh, Tellers, tellers}
use Rattle.wm_serve.specs.declared.seat.Seat.{Seat}

-- what tells of their desks and spawners
abbrev pub mem_tellers : Tellers MemDesk MemSpawner
mem_tellers = tellers desk_hand desk_had desk_dries desk_faults spawner_asked spawner_told (λ s. (spawner_starts s).failed) spawner_faults

-- nothing has run on any of them
abbrev pub AreFresh : {K C : Type 0} → List (Seat K MemDesk MemSpawner C) → Type 0
AreFresh seats = All (IsFresh mem_tellers) seats
