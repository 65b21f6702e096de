-- What stays true while the monitor turns and waits.
use Rattle.std.proofs.Common.{◌≡◌, ℕ, ◌≤◌}
use Rattle.wm_run.specs.Serving.{IsRunning}
use Rattle.wm_run.specs.declared.running.Run.{Run}

-- the floor and the session's pass are as they were
pub record TurnLoop {K : Type 0} (old new : Run K) (looked_before looked_now : ℕ) (Serves : Type 0) : Type 0 where
  pub ready : IsRunning new
  pub floor : new.floor ≡ old.floor
  pub session : new.session ≡ old.session
  pub serves : Serves
  pub looked : looked_before ≤ looked_now
