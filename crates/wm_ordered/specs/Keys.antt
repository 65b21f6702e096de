-- What the jobs that wait are found by.
use Rattle.std.specs.Prelude.{ℕ, List, map}
use Rattle.wm_ordered.specs.declared.waiter.Waiter.{Waiter}
use Rattle.wm_ordered.specs.declared.keys.Spot.{Spot}
use Rattle.wm_ordered.specs.declared.keys.Rise.{Rise}

-- where one stands on its queue
abbrev pub spot_of : Waiter → Spot
spot_of w = record { jobq = w.jobq; pty = w.pty; place = w.place }

-- when one becomes due
abbrev pub rise_of : Waiter → Rise
rise_of w = record { due = w.due; serial = w.serial }

-- what is told of one whose key says all
abbrev pub nothing_of : {E : Type 0} → E → Unit {0}
nothing_of w = tt

-- the row of a waiter by its serial
abbrev pub row_of : Waiter → ℕ × Waiter
row_of w = (w.serial, w)

-- the waiters of rows
abbrev pub waiters_of : {K : Type 0} → List (K × Waiter) → List Waiter
waiters_of rows = map (λ r. r.1) rows
