-- What holds of a machine whose history is kept with it.
use Rattle.std.specs.Prelude.{◌≡◌, ◌≤◌, ℕ, length}
use Rattle.wm_law.specs.declared.state.State.{State}
use Rattle.wm_law.specs.History.{IsLegal}
use Rattle.wm_floor.specs.Keeping.{Telling}
use Rattle.wm_floor.specs.History.{History, reached}
use Rattle.wm_floor.specs.Trail.{HasTrail}

-- the machine's state is the one that the history reaches, the history is legal, and the trail is its own
pub record IsJournal (h : History) (most : ℕ) (s : State) (old new : Telling) : Type 0 where
  pub state : s ≡ reached h
  pub legal : IsLegal h.opened h.log
  pub trail : HasTrail h old new
  pub limit : most ≤ 1000000
  pub room : length h.log ≤ 4000000
