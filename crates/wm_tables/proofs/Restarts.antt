-- A run opens with a sound state.
use Rattle.std.proofs.Common.{◌≡◌, ◌≤◌, ℤ, true, false, List, [], ◌∷◌, length, map, sym, ap, subst, arith}
use Rattle.wm_traits.specs.declared.row.Row.{Row}
use Rattle.wm_law.specs.Counts.{is_active}
use Rattle.wm_law.specs.Kept.{IsDistinct}
use Rattle.wm_law.specs.Laws.{IsIn}
use Rattle.wm_law.specs.Opening.{empty}
use Rattle.wm_law.specs.Sound.{IsMoment, IsSound, IsWished}
use Rattle.wm_law.specs.declared.job.Job.{Job}
use Rattle.wm_law.specs.declared.job.Phase.TheVariants.{Starting}
use Rattle.wm_law.specs.declared.job.Wish.{Wish}
use Rattle.wm_law.specs.declared.job.Wish.TheVariants.{NoWish}
use Rattle.wm_law.specs.declared.state.Sbs.{Sbs}
use Rattle.wm_law.specs.declared.state.State.{State}
use Rattle.wm_law.specs.Subsystems.{max_started}
use Rattle.wm_law.specs.Wishes.{has_wish, wish_moment}
use Rattle.wm_law.proofs.Sound.{opening_is_sound}
use Rattle.wm_rows.specs.declared.stored.Counter.{Counter}
use Rattle.wm_rows.specs.declared.stored.Counter.TheVariants as counter
use Rattle.wm_tables.specs.Laws.{RestartIsSound}
use Rattle.wm_tables.specs.Restart.{AreGood, HasCounters, IsRestart}
use Rattle.wm_tables.proofs.Building.{IsBuilt, built}
use Rattle.wm_tables.proofs.Ends.{IsWithin, contained, row_within}
use Rattle.wm_tables.proofs.RowOrder.{ascending}

none_starting : (s : State) (j : Job) → IsBuilt s → IsIn j s.jobs → j.phase ≡ Starting → ⊥
none_starting s j b i e =
    let idle : is_active j.phase ≡ false = b.jobs.idle j i in
    let active : is_active j.phase ≡ true = ap is_active e in
    absurd (cc)

none_started : (s : State) (b : Sbs) → IsBuilt s → IsIn b s.started → ⊥
none_started s b built i = subst (IsIn b) built.started i

none_wished : (j : Job) → j.wish ≡ NoWish → IsWished j
none_wished j e = record {
  waits = λ w. ap has_wish e;
  moment = subst (λ (x : Wish). IsMoment (wish_moment x)) (sym e) tt;
}

-- a state that is built, with next numbers within their ranges, is sound
pub built_is_sound : (s : State) → IsBuilt s → ((c : Counter) → IsWithin c s) → IsSound s
built_is_sound s b within = record {
  numbered = record {
    serials = b.numbered.serials;
    numbers = b.numbered.numbers;
    waiting = b.numbered.waiting;
    places = b.numbered.places;
    next_number = record { least = b.numbered.number_least; most = within counter.Number };
    next_serial = record { least = b.numbered.serial_least; most = within counter.Serial };
    next_place = record { least = b.numbered.place_least; most = within counter.Place };
  };
  jobs = b.jobs.increasing;
  places = λ j i a. (let idle : is_active j.phase ≡ false = b.jobs.idle j i in absurd (cc));
  orders = record { routed = b.routed; starting = λ j i e. absurd (none_starting s j b i e); lodged = λ j i e. absurd (none_starting s j b i e) };
  names = subst (λ (bs : List Sbs). IsDistinct (map (λ x. x.sbsd.name) bs)) (sym b.started) tt;
  descriptions = λ x i. absurd (none_started s x b i);
  quiet = λ off x i. absurd (none_started s x b i);
  objects = b.objects;
  queues = b.queues;
  held = b.held;
  within_started = subst (λ (bs : List Sbs). length bs ≤ max_started) (sym b.started) (omega arith);
  wishes = λ j i. none_wished j (b.jobs.unwished j i);
  moments = λ x i. absurd (none_started s x b i);
}

-- good rows with all counters are some
pub good_restart : (offset : ℤ) (rows : List Row) (s : State) → AreGood offset rows s → HasCounters rows → IsRestart offset rows s
good_restart offset [] s good counters = absurd (let n = counters counter.Schema in let less = n.1.1 in omega arith)
good_restart offset (row ∷ rows) s good counters = (good, counters)

pub good_is_sound : (offset : ℤ) (rows : List Row) (s : State) → AreGood offset rows s → HasCounters rows → IsSound s
good_is_sound offset rows s good counters =
    let up = ascending rows good.order in
    built_is_sound s (built offset rows s up good.read) (λ c. (let there = counters c in row_within c there.0 rows (empty offset) s up good.read (contained rows _ there.1)))

pub restart_is_sound : RestartIsSound
restart_is_sound offset [] s h = subst IsSound (sym h) (opening_is_sound offset)
restart_is_sound offset (row ∷ rows) s h = good_is_sound offset (row ∷ rows) s h.0 h.1
