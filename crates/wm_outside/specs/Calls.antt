-- The calls of a form in memory.
use Rattle.std.specs.Prelude.{◌≡◌, ◌↔◌, ◌≤◌, ℕ, Bool, IsTrue, Contains, Vec, if◌then◌else◌}
use Rattle.std.specs.declared.alloc.Global.{Global}
use Rattle.wm_outside.specs.declared.memory.calls.Calls.{Calls}
use Rattle.wm_traits.specs.Cause.{raised}

-- no call yet, and these will fail
abbrev pub is_new : Vec ℕ Global → Calls
is_new failing = record { made = 0; failed = 0; failing = failing }

-- the same calls, of which none counts as failed any more
abbrev pub opened_again : Calls → Calls
opened_again calls = record calls { failed = 0 }

-- one call more, which failed exactly where the list names its number, and was then counted as a fault
pub record CountsCall (old new : Calls) (failed : Bool) : Type 0 where
  pub made : new.made ≡ raised old.made
  pub exactly : IsTrue failed ↔ Contains old.failing.items new.made
  pub faults : new.failed ≡ (if failed then raised old.failed else old.failed)
  pub later : old.failed ≤ new.failed
  pub failing : new.failing ≡ old.failing
