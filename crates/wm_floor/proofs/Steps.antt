-- What a step keeps.
use Rattle.std.proofs.Common.{◌≡◌, ◌≤◌, ℕ, List, [], is_some, refl, subst}
use Rattle.wm_traits.specs.declared.row.Row.{Row}
use Rattle.wm_traits.specs.declared.row.RowChange.{RowChange}
use Rattle.wm_law.specs.Fit.{IsCall}
use Rattle.wm_law.specs.Machine.{step}
use Rattle.wm_law.specs.Sound.{IsSound}
use Rattle.wm_law.specs.declared.call.Call.{Call}
use Rattle.wm_law.specs.declared.state.State.{State}
use Rattle.wm_law.proofs.Sound.{step_keeps_sound}
use Rattle.wm_tables.specs.Changes.{AreKept, AreStepChanges}
use Rattle.wm_tables.specs.Difference.{IsDifference}
use Rattle.wm_tables.specs.Ranges.{IsInRange}
use Rattle.wm_tables.specs.Tables.{rows_of, tables}
use Rattle.wm_floor.proofs.Additions.{moved, IsMoved}
use Rattle.wm_tables.proofs.RangedSteps.{step_keeps_ranges}
use Rattle.wm_tables.proofs.RowOrder.{put_in_order}
use Rattle.wm_tables.proofs.OneDifference.{differences_are_one}
use Rattle.wm_tables.proofs.Steps.{kept_of, step_changes_are_difference}
use Rattle.wm_floor.specs.Keeping.{Telling, IsApplied, IsKept}
use Rattle.wm_floor.specs.Stored.{IsInStep}

nothing : (rows : List Row) → IsDifference rows rows []
nothing rows = record { order = tt; makes = refl; puts = λ row i there. i; dels = λ tab key i. absurd i }

-- a step that leaves the tables has no changes
none_same : (s t : State) (changes : List RowChange) → IsDifference (tables s) (tables t) changes → tables s ≡ tables t → changes ≡ []
none_same s t changes differ same =
    differences_are_one (tables s) (tables t) changes [] (put_in_order (rows_of s)) differ (subst (λ (rows : List Row). IsDifference (tables s) rows []) same (nothing (tables s)))

-- a step of a machine in step, whose changes were made
pub record IsStoredStep (s : State) (caller : ℕ) (call : Call) (moment : ℕ) (changes : List RowChange) (old new : Telling) : Type 0 where
  pub was : IsInStep s old.tables
  pub fit : IsCall call
  pub late : moment ≤ 253402214399
  pub are : AreStepChanges s call (step s caller call moment) changes
  pub applied : IsApplied changes old new
  pub both : is_some new.trail ≡ is_some new.tables

module _ (s : State) (caller : ℕ) (call : Call) (moment : ℕ) (changes : List RowChange) (old new : Telling) (h : IsStoredStep s caller call moment changes old new) where
  abbrev t : State
  t = (step s caller call moment).state

  differ : IsDifference (tables s) (tables t) changes
  differ = step_changes_are_difference s caller call moment changes h.was.sound h.was.range h.fit h.late h.are

  moves : IsMoved (tables s) (tables t) old new
  moves = moved changes (tables s) (tables t) old new h.applied h.was.tables differ.makes (none_same s t changes differ) h.both

  pub step_kept : IsKept s t old new
  step_kept = record { rows = moves.rows; trail = moves.trail }

  pub step_in_step : IsInStep t new.tables
  step_in_step = record { sound = step_keeps_sound s caller call moment h.was.sound; range = step_keeps_ranges s caller call moment h.late h.fit h.was.sound h.was.range; tables = moves.rows }

pub step_kept_ranges : (s : State) (caller : ℕ) (call : Call) (moment : ℕ) → IsCall call → moment ≤ 253402214399 → IsSound s → IsInRange s → AreKept (step s caller call moment).state
step_kept_ranges s caller call moment fit late sound range =
    kept_of (step s caller call moment).state (step_keeps_sound s caller call moment sound) (step_keeps_ranges s caller call moment late fit sound range)
