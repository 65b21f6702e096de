-- The seats of idle prestart jobs, by entry, and how many jobs of an entry are available.
use Rattle.std.specs.Prelude.{◌≡◌, ℕ, ◌≤◌, Bool, List, unwrap_or}
use Rattle.std.specs.List.{Contains}
use Rattle.std.specs.declared.cmp.Ordering.{Ordering}
use Rattle.wm_ordered.specs.Ordered.{value_at}
use Rattle.wm_indexes.specs.declared.prestart_job.PrestartEntry.{PrestartEntry}
use Rattle.wm_indexes.specs.declared.prestart_job.PrestartJob.{PrestartJob}
use Rattle.wm_indexes.specs.declared.seat.Seat.{Seat}
use Rattle.wm_indexes.specs.contracts.seat.SeatOrd.TheImpl as by_cmp
use Rattle.wm_indexes.specs.contracts.seat.SeatPartialEq.TheImpl as by_eq
use Rattle.wm_indexes.specs.Ready.{available, is_idle, same_entry}

-- whether two seats are one, as `==` answers
abbrev pub same_seat : Seat → Seat → Bool
same_seat = (by_eq.ghosts).eq

-- by entry, then number, then serial, as `cmp` answers
abbrev pub seat_cmp : Seat → Seat → Ordering
seat_cmp = (by_cmp.ghosts).cmp

-- the seat of a job
abbrev pub seat_of : ℕ × PrestartJob → Seat
seat_of job = record { entry = job.1.entry; number = job.1.number; serial = job.0 }

-- whether the job is idle
abbrev pub is_idle_job : ℕ × PrestartJob → Bool
is_idle_job job = is_idle job.1.readiness

-- the number of an entry, which is 0 where it has no row
abbrev pub number_at : PrestartEntry → List (PrestartEntry × ℕ) → ℕ
number_at entry rows = unwrap_or (value_at same_entry entry rows) 0

-- each row has a number above 0
abbrev pub HaveSome : List (PrestartEntry × ℕ) → Type 0
HaveSome rows = (r : PrestartEntry × ℕ) → Contains rows r → 1 ≤ r.1

-- the numbers are those of the entries' available jobs
pub record AreNumbers (jobs : List (ℕ × PrestartJob)) (rows : List (PrestartEntry × ℕ)) : Type 0 where
  pub numbers : (entry : PrestartEntry) → number_at entry rows ≡ available entry jobs
  pub some : HaveSome rows
