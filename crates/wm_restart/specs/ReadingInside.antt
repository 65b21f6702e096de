-- What lies in a `Reading`.
use Rattle.std.specs.Prelude.{◌≡◌, ℕ, nat_eq}
use Rattle.wm_desc.specs.Sorted.{has_key}
use Rattle.wm_ordered.specs.Ordered.{key_of}
use Rattle.wm_law.specs.Opening.{empty}
use Rattle.wm_law.specs.declared.state.State.{State}
use Rattle.wm_tables.specs.Restart.{is_used, is_taken}
use Rattle.wm_restart.specs.declared.reading.Reading.TheInside.{Inside}

-- the state that a reading is seen as
abbrev pub state_of : Inside → State
state_of r =
    record (empty r.offset) {
      objects = r.objects;
      jobs = r.jobs.items;
      held = r.held;
      next_number = r.next_number;
      next_serial = r.next_serial;
      next_place = r.next_place;
    }

-- the numbers are those of the jobs, the places those of the jobs that wait
pub record IsReadingInside (r : Inside) : Type 0 where
  pub numbers : (n : ℕ) → has_key key_of nat_eq n r.numbers.items ≡ is_used n r.jobs.items
  pub places : (n : ℕ) → has_key key_of nat_eq n r.places.items ≡ is_taken n r.jobs.items
