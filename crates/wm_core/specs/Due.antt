-- In which steps something can come due.
use Rattle.std.specs.Prelude.{ℕ, Bool, ◌||◌}
use Rattle.wm_law.specs.declared.call.Call.{Call}
use Rattle.wm_law.specs.declared.state.State.{State}
use Rattle.wm_law.specs.CallKinds.{is_ending_call}
use Rattle.wm_law.specs.Pending.{next_ending, next_wish, soonest}
use Rattle.wm_law.specs.Sound.{HasNoneDue, IsSound}
use Rattle.wm_law.specs.Wishes.{has_come}

-- the call tells jobs or subsystems to end, or the moment of a wish or of an ending subsystem has come
abbrev pub may_come_due : State → Call → ℕ → Bool
may_come_due s call moment = is_ending_call call || has_come moment (soonest (next_wish s) (next_ending s))

-- the state is sound, and nothing in it is due
pub record IsSettled (s : State) : Type 0 where
  pub sound : IsSound s
  pub none_due : HasNoneDue s
