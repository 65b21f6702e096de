-- The history of a run starts each serial at most once, only where its rows left it, and it stays spent from then on.
use Rattle.std.proofs.Common.{◌≡◌, ℕ, ℤ, ◌≤◌, false, List, [], ◌∷◌, refl, subst, inl, inr, arith}
use Rattle.wm_traits.specs.declared.row.Row.{Row}
use Rattle.wm_law.specs.Counts.{is_active}
use Rattle.wm_law.specs.History.{stepped, IsEntry, IsLegal}
use Rattle.wm_law.specs.Kept.{phase_rank}
use Rattle.wm_law.specs.Sound.{IsSound}
use Rattle.wm_law.specs.declared.call.Entry.{Entry}
use Rattle.wm_law.specs.declared.job.Phase.{Phase}
use Rattle.wm_law.specs.declared.job.Phase.TheVariants.{Waiting, Starting, Handed, Running, Ended}
use Rattle.wm_law.specs.declared.state.State.{State}
use Rattle.wm_law.proofs.Sound.{step_keeps_sound}
use Rattle.wm_law.proofs.Starts.{serials_start_once}
use Rattle.wm_tables.specs.Ranges.{IsInRange}
use Rattle.wm_tables.specs.Restart.{IsRestart}
use Rattle.wm_tables.proofs.RangedRestarts.{restart_is_in_range}
use Rattle.wm_tables.proofs.RangedSteps.{step_keeps_ranges}
use Rattle.wm_tables.proofs.Restarts.{restart_is_sound}
use Rattle.wm_tables.specs.ChainLaws.{RunsStartOnce}
use Rattle.wm_tables.specs.Starts.{IsLeftToStart, IsWaitingIn, SpendsStarts, StaysSpent}
use Rattle.wm_tables.proofs.Held.{IsPast, next_found, none_active, spent, waiting_found}
use Rattle.wm_tables.proofs.Ordered.{IsGiveable, entry_tells, ordered_giveable, ordered_past, past_stays}

pub entry_ranges : (s : State) (e : Entry) → IsEntry s e → IsSound s → IsInRange s → IsInRange (stepped s e).state
entry_ranges s e h sound range = step_keeps_ranges s e.caller e.call e.moment h.moment h.call sound range

stays : (serial : ℕ) (s : State) (log : List Entry) → IsSound s → IsInRange s → IsLegal s log → IsPast s serial → StaysSpent serial s log
stays serial s [] sound range legal h = spent s serial sound range h
stays serial s (e ∷ es) sound range legal h = (
  spent s serial sound range h,
  stays serial (stepped s e).state es (step_keeps_sound s e.caller e.call e.moment sound) (entry_ranges s e legal.0 sound range) legal.1 (past_stays s e serial sound.numbered h),
)

spends : (s : State) (log : List Entry) → IsSound s → IsInRange s → IsLegal s log → SpendsStarts s log
spends s [] sound range legal = tt
spends s (e ∷ es) sound range legal = (
  λ serial o. stays serial s (e ∷ es) sound range legal (ordered_past s serial (entry_tells s e legal.0 serial o)),
  spends (stepped s e).state es (step_keeps_sound s e.caller e.call e.moment sound) (entry_ranges s e legal.0 sound range) legal.1,
)

-- a young job that isn't active waits
pub young_waits : (p : Phase) → phase_rank p ≤ 1 → is_active p ≡ false → p ≡ Waiting
young_waits Waiting young idle = refl
young_waits Starting young idle = absurd (cc)
young_waits (Handed m) young idle = absurd (cc)
young_waits (Running m) young idle = absurd (cc)
young_waits (Ended c) young idle = absurd (omega arith)

-- what is giveable in a state that rows make is left to start by them
left : (offset : ℤ) (rows : List Row) (s : State) (serial : ℕ) → IsRestart offset rows s → IsGiveable s serial → IsLeftToStart rows serial
left offset rows s serial h (inl young) =
    inl (subst (IsWaitingIn rows) young.its (waiting_found offset rows s h young.job young.stands (young_waits young.job.phase young.young (none_active offset rows s h young.job young.stands))))
left offset rows s serial h (inr least) = inr (s.next_serial, next_found offset rows s h, least)

pub runs_start_once : RunsStartOnce
runs_start_once offset rows s log h legal =
    let sound = restart_is_sound offset rows s h in
    record {
      once = serials_start_once s log sound.numbered legal;
      left = λ serial i. left offset rows s serial h (ordered_giveable s log sound.numbered legal serial i);
      spent = spends s log sound (restart_is_in_range offset rows s h) legal;
    }
